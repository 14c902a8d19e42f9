-- The pages and their working words.
use Rattle.std.specs.Prelude.{◌≡◌, ℕ, ◌<◌, List}
use Rattle.rules.specs.declared.Sizes.{Sizes}
use Rattle.layout.specs.Places.{mark_of}
use Rattle.promises.specs.Whole.{PageWhole}

-- a page is whole, and so is its working word
pub record PageChecked (p : Sizes) (t : List ℕ) (page : ℕ) : Type 0 where
  pub whole : PageWhole p t page
  pub mark : mark_of p t page ≡ 0

abbrev pub PagesChecked : Sizes → List ℕ → Type 0
PagesChecked p t = (page : ℕ) → page < p.pages → PageChecked p t page

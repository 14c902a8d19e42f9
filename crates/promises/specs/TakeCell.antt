-- A cell is taken for an object: its page, and the tables then.
use Rattle.std.specs.Prelude.{ℕ, ◌+◌, ◌-◌, ◌≤◌, ◌<◌, ◌≡◌, ◌⊎◌, List, length, get_or}
use Rattle.rules.specs.declared.Sizes.{Sizes}
use Rattle.layout.specs.Places.{owner_at, owner_of, used_at, used_of, count_at, count_of, made_at, made_of}
use Rattle.layout.specs.Cells.{page_of, place_of}
use Rattle.promises.specs.Whole.{Partial}

-- the page is the region's, or it was the highest-numbered free one and the region had none that is partly filled
abbrev pub Source : Sizes → List ℕ → ℕ → ℕ → Type 0
Source p t g page =
    (owner_of p t page ≡ g) ⊎ ((owner_of p t page ≡ 0) × ((q : ℕ) → q < p.pages → Partial p t g q → ⊥) × ((q : ℕ) → q < p.pages → owner_of p t q ≡ 0 → q ≤ page))

-- region g took the cell: from tables t, which left t', with n as the counter of objects made: one more for a new object, the same for a copy
pub record Took (p : Sizes) (t : List ℕ) (g cell n : ℕ) (t' : List ℕ) : Type 0 where
  pub page : page_of cell < p.pages
  -- the first unused cell of its page
  pub first : used_of p t (page_of cell) ≡ place_of cell
  pub source : Source p t g (page_of cell)
  pub long : length t' ≡ length t
  pub owner : owner_of p t' (page_of cell) ≡ g
  pub used : used_of p t' (page_of cell) ≡ place_of cell + 1
  pub count : count_of p t' g ≡ count_of p t g + 1
  pub made : made_of p t' ≡ n
  pub others : (j : ℕ) → (j ≡ owner_at p (page_of cell) → ⊥) → (j ≡ used_at p (page_of cell) → ⊥) → (j ≡ count_at p g → ⊥) → (j ≡ made_at p → ⊥) → get_or t' j 0 ≡ get_or t j 0

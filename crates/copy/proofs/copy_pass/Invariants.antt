-- The survivors on the listed pages so far, and so on all pages below the next, that go to the region have moved.
use Rattle.std.proofs.Common.{length, ℕ, List}
use Rattle.lists.specs.Part.{Through}
use Rattle.rules.specs.declared.Sizes.{Sizes}
use Rattle.pages.specs.Noted.{Noted}
use Rattle.copy.specs.Copying.{PassMoves}
use Rattle.copy.proofs.copy_pass.Given as goal

-- those of the pages below q; the pass is at page
abbrev pub Below : Sizes → ℕ → List ℕ → List ℕ → ℕ → List ℕ → List ℕ → ℕ → Type 0
Below p g W T page W' T' q = PassMoves p g q page W T W' T'

abbrev pub invariant-loop-page : goal.invariant-loop-page
invariant-loop-page l =
    Through l.p.pages (length l.list) l.list l.page-index (Below l.p l.region l.initial.cells l.initial.tables l.at l.cells l.tables) × Noted l.p l.tables l.notes

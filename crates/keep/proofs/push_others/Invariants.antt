-- What the slots of the pages before this one hold is pushed.
use Rattle.std.proofs.Common.{◌≡◌, length}
use Rattle.layout.specs.Cells.{head_at, first_on}
use Rattle.mark.specs.Pushes.{Pushing}
use Rattle.keep.specs.Others.{other_held}
use Rattle.keep.proofs.push_others.Given as goal

abbrev pub invariant-loop-page : goal.invariant-loop-page
invariant-loop-page l =
    (length l.cells ≡ length l.initial.cells) × (length l.tables ≡ length l.initial.tables)
    × Pushing l.p 1 (other_held l.p l.initial.cells l.initial.tables) l.initial.cells l.initial.tables l.top l.cells l.tables l.t (head_at (first_on l.page))

-- What the slots of the first cells of the page hold is pushed.
use Rattle.std.proofs.Common.{◌≡◌, length}
use Rattle.layout.specs.Cells.{head_at}
use Rattle.mark.specs.Pushes.{Pushing}
use Rattle.keep.specs.Others.{page_held}
use Rattle.keep.proofs.push_page.Given as goal

abbrev pub invariant-loop-place : goal.invariant-loop-place
invariant-loop-place l =
    (length l.cells ≡ length l.initial.cells) × (length l.tables ≡ length l.initial.tables)
    × Pushing l.p 1 (page_held l.p l.initial.cells l.initial.tables l.page) l.initial.cells l.initial.tables l.top l.cells l.tables l.t (head_at l.place)

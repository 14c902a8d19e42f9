-- The slots of the cells in use before this place are rewritten, and nothing else is changed.
use Rattle.layout.specs.Cells.{head_at, cell_on}
use Rattle.settle.specs.Rewrite.{Rewritten}
use Rattle.retell.specs.SlotStretches.{SlotFrom}
use Rattle.retell.proofs.cells.rewrite_page.Given as goal

abbrev pub invariant-loop-place : goal.invariant-loop-place
invariant-loop-place l =
    Rewritten (SlotFrom l.fn.p (head_at (cell_on l.page 0)) (head_at (cell_on l.page l.place)) l.initial.cells l.tables) l.initial.cells l.cells

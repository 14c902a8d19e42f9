-- The slots of the pages before this one are rewritten, and nothing else is changed.
use Rattle.layout.specs.Cells.{head_at, cell_on}
use Rattle.settle.specs.Rewrite.{Rewritten}
use Rattle.retell.specs.SlotStretches.{SlotFrom}
use Rattle.retell.proofs.cells.rewrite_cells.Given as goal

abbrev pub invariant-loop-page : goal.invariant-loop-page
invariant-loop-page l =
    Rewritten (SlotFrom l.p 0 (head_at (cell_on l.page 0)) l.initial.cells l.tables) l.initial.cells l.cells

-- The reference fields below f are rewritten, and nothing else is changed.
use Rattle.settle.specs.Rewrite.{Rewritten}
use Rattle.settle.specs.RewriteSlots.{Field}
use Rattle.retell.proofs.cells.rewrite_cell.Given as goal

abbrev pub invariant-loop-f : goal.invariant-loop-f
invariant-loop-f l =
    Rewritten (Field l.cell l.f) l.initial.cells l.cells

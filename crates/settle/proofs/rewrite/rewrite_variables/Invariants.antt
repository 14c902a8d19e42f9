-- The variables below i are rewritten, and nothing else is changed.
use Rattle.settle.specs.RewriteSlots.{Variables}
use Rattle.settle.proofs.rewrite.rewrite_variables.Given as goal

abbrev pub invariant-loop-i : goal.invariant-loop-i
invariant-loop-i l =
    Variables l.p l.i l.cells l.initial.tables l.tables

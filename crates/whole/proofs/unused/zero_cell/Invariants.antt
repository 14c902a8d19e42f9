-- The loop's invariant: x is 0 just if the words passed are.
use Rattle.whole.specs.ZeroCells.{Joined}
use Rattle.whole.proofs.unused.zero_cell.Given as goal

abbrev pub invariant-loop-i : goal.invariant-loop-i
invariant-loop-i l = Joined l.cells l.cell l.i l.x

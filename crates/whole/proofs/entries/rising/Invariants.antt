-- The loop's invariant: the slots passed rise.
use Rattle.remember.specs.Entries.{Rising}
use Rattle.whole.proofs.entries.rising.Given as goal

abbrev pub invariant-loop-i : goal.invariant-loop-i
invariant-loop-i l = Rising l.remember l.i

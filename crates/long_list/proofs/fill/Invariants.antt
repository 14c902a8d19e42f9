-- The first i words of the block repeat the commands.
use Rattle.long_list.specs.Repeated.{Filled}
use Rattle.long_list.proofs.fill.Given as goal

abbrev pub invariant-loop-i : goal.invariant-loop-i
invariant-loop-i l = Filled l.commands l.initial.block l.block l.i

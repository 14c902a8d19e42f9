-- The words from `from` up to i - 1 are those above them, renumbered; nothing else is changed.
use Rattle.linking.specs.Shifting.{lowered}
use Rattle.linking.specs.Moving.{MovedDown}
use Rattle.linking.proofs.moves.move_down.Given as goal

abbrev pub invariant-loop-i : goal.invariant-loop-i
invariant-loop-i l = MovedDown (lowered l.place) l.from l.i l.initial.words l.words

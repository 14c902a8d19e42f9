-- The words above i, up to `to`, are those below them, renumbered; nothing else is changed.
use Rattle.std.proofs.Common.{◌≤◌}
use Rattle.linking.specs.Shifting.{raised}
use Rattle.linking.specs.Moving.{MovedUp}
use Rattle.linking.proofs.moves.move_up.Given as goal

abbrev pub invariant-loop-i : goal.invariant-loop-i
invariant-loop-i l =
    (l.from ≤ l.i) × MovedUp (raised l.place) l.i l.to l.initial.words l.words

-- The position is one of the region's, below that of the entry, and x is its word.
use Rattle.std.proofs.Common.{◌+◌, ◌-◌}
use Rattle.linking.specs.Joining.{Walk}
use Rattle.linking.proofs.joins.word_before.Given as goal

abbrev pub invariant-loop-x : goal.invariant-loop-x
invariant-loop-x l =
    Walk l.last l.region l.place l.chains l.at l.x

abbrev pub decreases-loop-x : goal.decreases-loop-x
decreases-loop-x l =
    l.last + l.place - l.at

-- The place lies between `low` and `low + size`.
use Rattle.std.proofs.Common.{◌+◌, ◌≤◌, ◌<◌}
use Rattle.layout.specs.Places.{entries_used}
use Rattle.remember.specs.Finding.{Between}
use Rattle.remember.proofs.entries.find_entry.Given as goal

abbrev pub invariant-loop-size : goal.invariant-loop-size
invariant-loop-size l =
    (0 < l.size) × (l.low + l.size ≤ entries_used l.remember) × Between l.remember l.at l.low (l.low + l.size)

abbrev pub decreases-loop-size : goal.decreases-loop-size
decreases-loop-size l =
    l.size

-- n is one more than the depths passed.
use Rattle.std.proofs.Common.{◌≡◌, ◌+◌, ◌*◌, ◌≤◌}
use Rattle.lists.specs.Counting.{sum}
use Rattle.layout.specs.Places.{depth_of}
use Rattle.report.proofs.row_count.Given as goal

abbrev pub invariant-loop-thread : goal.invariant-loop-thread
invariant-loop-thread l = (l.n ≡ 1 + sum (depth_of l.tables) l.thread) × (l.n ≤ 1 + 8 * l.thread)

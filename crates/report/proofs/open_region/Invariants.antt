-- The depths of the threads passed and the level add up to k.
use Rattle.std.proofs.Common.{◌≡◌, ◌+◌, ◌-◌, ◌<◌, ◌≤◌}
use Rattle.lists.specs.Counting.{sum}
use Rattle.layout.specs.Places.{depth_of}
use Rattle.report.proofs.open_region.Given as goal

abbrev pub invariant-loop-deep : goal.invariant-loop-deep
invariant-loop-deep l =
    (l.thread < l.p.threads) × (l.deep ≡ depth_of l.tables l.thread) × (sum (depth_of l.tables) l.thread + l.level ≡ l.k) × (1 ≤ l.level)

abbrev pub decreases-loop-deep : goal.decreases-loop-deep
decreases-loop-deep l = l.p.threads - l.thread

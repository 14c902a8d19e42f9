-- The loop's invariant: the depths of the threads passed are at most D.
use Rattle.std.proofs.Common.{ℕ, ◌<◌, ◌≤◌}
use Rattle.layout.specs.Places.{depth_of}
use Rattle.whole.proofs.pages.depths_whole.Given as goal

abbrev pub invariant-loop-k : goal.invariant-loop-k
invariant-loop-k l = (j : ℕ) → j < l.k → depth_of l.tables j ≤ l.p.depth

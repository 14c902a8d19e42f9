-- The loop's invariant: the cells not in use of every page passed are zero.
use Rattle.std.proofs.Common.{ℕ, ◌<◌}
use Rattle.layout.specs.Places.{used_of}
use Rattle.whole.specs.ZeroCells.{ZeroCells}
use Rattle.whole.proofs.unused.unused_whole.Given as goal

abbrev pub invariant-loop-page : goal.invariant-loop-page
invariant-loop-page l = (k : ℕ) → k < l.page → ZeroCells l.cells k (used_of l.p l.tables k)

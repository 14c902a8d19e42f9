-- The loop's invariant: every cell passed is zero.
use Rattle.std.proofs.Common.{ℕ, ◌<◌, ◌≤◌}
use Rattle.layout.specs.Cells.{cell_on}
use Rattle.whole.specs.ZeroCells.{ZeroCell}
use Rattle.whole.proofs.unused.zero_cells.Given as goal

abbrev pub invariant-loop-place : goal.invariant-loop-place
invariant-loop-place l = (k : ℕ) → k < l.place → l.first ≤ k → ZeroCell l.cells (cell_on l.page k)

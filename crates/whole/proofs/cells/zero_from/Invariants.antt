-- The loop's invariant: every field passed is zero.
use Rattle.std.proofs.Common.{◌≡◌, ℕ, ◌<◌, ◌≤◌}
use Rattle.layout.specs.Cells.{field_of}
use Rattle.whole.proofs.cells.zero_from.Given as goal

abbrev pub invariant-loop-f : goal.invariant-loop-f
invariant-loop-f l = (k : ℕ) → k < l.f → l.first ≤ k → field_of l.cells l.cell k ≡ 0

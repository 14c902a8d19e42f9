-- The loop's invariant: every variable passed is null or names an object.
use Rattle.std.proofs.Common.{ℕ, ◌<◌}
use Rattle.layout.specs.Places.{var_of}
use Rattle.promises.specs.Whole.{IsRef}
use Rattle.whole.proofs.variables.variables_whole.Given as goal

abbrev pub invariant-loop-i : goal.invariant-loop-i
invariant-loop-i l = (k : ℕ) → k < l.i → IsRef l.p l.cells l.tables (var_of l.p l.tables k)

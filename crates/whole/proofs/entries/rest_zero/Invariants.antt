-- The loop's invariant: every entry passed from the first that is not used is zero.
use Rattle.std.proofs.Common.{◌-◌, ◌≤◌}
use Rattle.remember.specs.Entries.{ZeroBetween}
use Rattle.whole.proofs.entries.rest_zero.Given as goal

abbrev pub invariant-loop-i : goal.invariant-loop-i
invariant-loop-i l =
    (l.used ≤ l.i) × (l.i ≤ l.entries) × ZeroBetween l.entries l.remember l.used l.i

abbrev pub decreases-loop-i : goal.decreases-loop-i
decreases-loop-i l =
    l.entries - l.i

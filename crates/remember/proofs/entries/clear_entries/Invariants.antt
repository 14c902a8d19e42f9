-- The entries below i are zero, and nothing else is changed.
use Rattle.std.proofs.Common.{◌≤◌, max}
use Rattle.remember.specs.Stretches.{Cleared}
use Rattle.remember.proofs.entries.clear_entries.Given as goal

abbrev pub invariant-loop-i : goal.invariant-loop-i
invariant-loop-i l =
    (l.i ≤ max l.from l.to) × Cleared l.entries l.from l.i l.initial.remember l.remember

-- The loop's invariant: every entry passed is zero.
use Rattle.std.proofs.Common.{◌≡◌, ℕ, ◌<◌, ◌≤◌}
use Rattle.layout.specs.Places.{slot_in, slot_region_in}
use Rattle.whole.proofs.entries.zero_between.Given as goal

abbrev pub invariant-loop-i : goal.invariant-loop-i
invariant-loop-i l =
    (k : ℕ) → k < l.i → l.from ≤ k → (slot_in l.remember k ≡ 0) × (slot_region_in l.entries l.remember k ≡ 0)

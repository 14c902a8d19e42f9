-- The loop's invariant: every entry passed names a crossing slot with the right region.
use Rattle.std.proofs.Common.{ℕ, ◌<◌}
use Rattle.layout.specs.Places.{slot_in, slot_region_in}
use Rattle.promises.specs.Whole.{EntryWhole}
use Rattle.whole.proofs.entries.named_whole.Given as goal

abbrev pub invariant-loop-i : goal.invariant-loop-i
invariant-loop-i l =
    (k : ℕ) → k < l.i → EntryWhole l.p l.cells l.tables (slot_in l.remember k) (slot_region_in l.p.entries l.remember k)

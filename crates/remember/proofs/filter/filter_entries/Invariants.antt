-- The entries below j are those of the entries below i that stay, with their new regions; they rise, all below entry i.
use Rattle.std.proofs.Common.{◌≤◌}
use Rattle.remember.specs.Stretches.{Added}
use Rattle.remember.specs.Filtered.{Stays, Behind}
use Rattle.remember.specs.Staying.{new_region}
use Rattle.remember.proofs.filter.filter_entries.Given as goal

abbrev pub invariant-loop-i : goal.invariant-loop-i
invariant-loop-i l =
    (l.j ≤ l.i) × Added l.p.entries (Stays (new_region l.p l.region l.cells l.tables) l.p.entries l.initial.remember l.i) 0 l.j l.initial.remember l.remember × Behind l.used l.i l.j l.initial.remember l.remember

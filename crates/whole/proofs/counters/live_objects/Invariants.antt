-- The loop's invariant: the objects of the regions passed, each count a word, are summed.
use Rattle.std.proofs.Common.{◌≡◌, ◌-◌, ◌*◌, ◌≤◌}
use Rattle.promises.specs.Whole.{live_to}
use Rattle.whole.proofs.counters.live_objects.Given as goal

abbrev pub invariant-loop-g : goal.invariant-loop-g
invariant-loop-g l =
    (l.live ≡ live_to l.p l.tables (l.g - 1)) × (l.live ≤ 4294967295 * (l.g - 1))

-- n is the sum over the levels passed.
use Rattle.std.proofs.Common.{◌≤◌, ◌*◌, ◌^◌, ◌≡◌, get_or}
use Rattle.rules.specs.Regions.{region_at}
use Rattle.promises.specs.Arriving.{more_below}
use Rattle.epoch.proofs.needs.needed_pages.Given as goal

abbrev pub invariant-loop-level : goal.invariant-loop-level
invariant-loop-level l =
    (l.n ≡ more_below l.p l.tables (λ g. get_or l.come g 0) (region_at l.p l.thread) l.level) × (l.n ≤ 2 ^ 28 * l.level)

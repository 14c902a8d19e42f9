-- k counts the entries on the pages of the list before this one.
use Rattle.std.proofs.Common.{◌*◌, ◌≤◌, ◌≡◌}
use Rattle.census.specs.OnPages.{slots_listed}
use Rattle.census.proofs.crossing.own_entries.Given as goal

abbrev pub invariant-loop-page : goal.invariant-loop-page
invariant-loop-page l = (l.k ≡ slots_listed l.remember l.list l.page-index) × (l.k ≤ 4096 * l.page-index)

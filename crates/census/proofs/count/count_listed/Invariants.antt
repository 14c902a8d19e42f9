-- The listed pages before this one are counted, and so is every page that lies before it: those between have no survivor.
use Rattle.std.proofs.Common.{◌≡◌, length}
use Rattle.lists.specs.Part.{Through}
use Rattle.census.specs.Census.{Census}
use Rattle.census.proofs.count.count_listed.Given as goal

abbrev pub invariant-loop-page : goal.invariant-loop-page
invariant-loop-page l =
    (length l.come ≡ length l.initial.come) × Through l.p.pages (length l.list) l.list l.page-index (λ b. Census l.p l.cells l.tables b l.come l.k)

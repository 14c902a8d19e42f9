-- Invariant: free is all pages less those of the regions below g.
use Rattle.std.proofs.Common.{◌+◌, ◌-◌, ◌≡◌}
use Rattle.pages.specs.Owned.{owned_below}
use Rattle.pages.proofs.free_pages.Given as goal

abbrev pub invariant-loop-g : goal.invariant-loop-g
invariant-loop-g l =
    l.free + owned_below l.p l.tables (l.g - 1) ≡ l.p.pages

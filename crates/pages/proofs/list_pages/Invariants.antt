-- Invariant: the region's pages from `page` on stand at the end of the list, and as many are left below.
use Rattle.pages.specs.Listing.{Listing}
use Rattle.pages.proofs.list_pages.Given as goal

abbrev pub invariant-loop-page : goal.invariant-loop-page
invariant-loop-page l =
    Listing l.p l.tables l.region l.n l.left l.page l.list

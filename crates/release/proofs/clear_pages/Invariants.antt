-- The cells in use of the region's pages among the listed ones so far, and so among all pages below the next, are zero; nothing else is changed.
use Rattle.std.proofs.Common.{length}
use Rattle.lists.specs.Part.{Through}
use Rattle.release.specs.Emptied.{Emptied}
use Rattle.release.proofs.clear_pages.Given as goal

abbrev pub invariant-loop-page : goal.invariant-loop-page
invariant-loop-page l =
    Through l.p.pages (length l.list) l.list l.page-index (λ q. Emptied l.p l.region q l.tables l.initial.cells l.cells)

-- The region's pages among the listed ones so far, and so among all pages below the next, are free; nothing else is changed.
use Rattle.std.proofs.Common.{length}
use Rattle.lists.specs.Part.{Through}
use Rattle.release.specs.Release.{Released}
use Rattle.release.proofs.release_pages.Given as goal

abbrev pub invariant-loop-page : goal.invariant-loop-page
invariant-loop-page l =
    Through l.p.pages (length l.list) l.list l.page-index (λ q. Released l.p l.region q l.initial.tables l.tables)

-- The kept cells of the listed pages so far, and so of all pages below the next, have the references to their places.
use Rattle.std.proofs.Common.{length}
use Rattle.lists.specs.Part.{Through}
use Rattle.slide.specs.Numbered.{NumberedTo}
use Rattle.slide.proofs.number.number_kept.Given as goal

abbrev pub invariant-loop-page : goal.invariant-loop-page
invariant-loop-page l =
    Through l.p.pages (length l.list) l.list l.page-index (NumberedTo l.p l.list l.tables l.initial.cells l.cells l.k)

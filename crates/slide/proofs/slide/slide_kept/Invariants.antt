-- The kept cells of the listed pages so far, and so of all pages below the next, went to their places.
use Rattle.std.proofs.Common.{length}
use Rattle.lists.specs.Part.{Through}
use Rattle.slide.specs.Slid.{SlidTo}
use Rattle.slide.proofs.slide.slide_kept.Given as goal

abbrev pub invariant-loop-at : goal.invariant-loop-at
invariant-loop-at l =
    Through l.p.pages (length l.list) l.list l.at (SlidTo l.p l.list l.tables l.initial.cells l.cells)

-- The cells of the set bits so far went to their places.
use Rattle.lists.specs.SetBits.{Walked}
use Rattle.slide.specs.Walks.{Walk}
use Rattle.slide.specs.Slid.{SlidHere}
use Rattle.slide.proofs.slide.slide_page.Given as goal

abbrev pub invariant-loop : goal.invariant-loop
invariant-loop l =
    Walked l.initial.left l.left l.counter × Walk l.initial.left l.left (SlidHere l.fn.p l.fn.list l.fn.tables l.page l.initial.cells l.cells)

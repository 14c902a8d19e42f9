-- The cells of the set bits so far have the references to their places.
use Rattle.std.proofs.Common.{◌-◌}
use Rattle.lists.specs.SetBits.{Walked}
use Rattle.slide.specs.Walks.{Walk}
use Rattle.slide.specs.Numbered.{NumberedHere}
use Rattle.slide.proofs.number.number_page.Given as goal

abbrev pub invariant-loop-k : goal.invariant-loop-k
invariant-loop-k l =
    Walked l.initial.left l.left (l.k - l.before) × Walk l.initial.left l.left (NumberedHere l.fn.p l.list l.tables l.page l.initial.cells l.cells l.k)

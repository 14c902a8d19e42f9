-- Of the survivors that wait on the page, so many are passed: those of them that go to the region have moved, and the pass is at the page for the next.
use Rattle.lists.specs.SetBits.{Walked}
use Rattle.pages.specs.Noted.{Noted}
use Rattle.copy.specs.Copying.{PageMoves}
use Rattle.copy.proofs.copy_page.Given as goal

abbrev pub invariant-loop : goal.invariant-loop
invariant-loop l =
    Walked l.waiting l.left l.counter × PageMoves l.p l.region l.page l.left l.next l.initial.cells l.initial.tables l.cells l.tables × Noted l.p l.tables l.notes

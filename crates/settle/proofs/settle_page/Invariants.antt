-- Of the survivors of the page, as many as the loop has turns behind it are passed: the slots of their copies are settled, and nothing else is changed.
use Rattle.lists.specs.SetBits.{Walked}
use Rattle.settle.specs.RewriteCopies.{CopySlot, Passed}
use Rattle.settle.specs.Settle.{Settled}
use Rattle.settle.proofs.settle_page.Given as goal

abbrev pub invariant-loop : goal.invariant-loop
invariant-loop l =
    Walked l.copied l.left l.counter
    × Settled l.p l.p.entries (CopySlot l.p (Passed l.page l.left) l.initial.cells l.tables) l.initial.cells l.initial.remember l.tables l.j l.cells l.remember l.i

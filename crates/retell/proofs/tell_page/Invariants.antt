-- The crossing slots of the objects before this place of the page stand from entry j up to entry i.
use Rattle.layout.specs.Cells.{head_at, cell_on}
use Rattle.retell.specs.RetellingSlots.{SlotsTold}
use Rattle.retell.proofs.tell_page.Given as goal

abbrev pub invariant-loop-place : goal.invariant-loop-place
invariant-loop-place l =
    SlotsTold l.p (head_at (cell_on l.page 0)) (head_at (cell_on l.page l.place)) l.cells l.initial.remember l.tables l.j l.remember l.i

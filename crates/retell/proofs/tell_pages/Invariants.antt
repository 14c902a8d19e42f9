-- The crossing slots of the objects on the pages before this one stand in the first i entries.
use Rattle.layout.specs.Cells.{head_at, cell_on}
use Rattle.retell.specs.RetellingSlots.{SlotsTold}
use Rattle.retell.proofs.tell_pages.Given as goal

abbrev pub invariant-loop-page : goal.invariant-loop-page
invariant-loop-page l =
    SlotsTold l.p 0 (head_at (cell_on l.page 0)) l.cells l.initial.remember l.tables 0 l.remember l.i

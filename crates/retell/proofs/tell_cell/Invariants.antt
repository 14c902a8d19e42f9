-- The crossing slots among the reference fields below f stand from entry j up to entry i.
use Rattle.layout.specs.Cells.{head_at, field_at}
use Rattle.retell.specs.RetellingSlots.{SlotsTold}
use Rattle.retell.proofs.tell_cell.Given as goal

abbrev pub invariant-loop-f : goal.invariant-loop-f
invariant-loop-f l =
    SlotsTold l.p (head_at l.cell) (field_at l.cell l.f) l.cells l.initial.remember l.tables l.j l.remember l.i

-- The reference fields below f are settled: rewritten, and those that cross then stand from entry j up to entry i.
use Rattle.settle.specs.RewriteSlots.{Field}
use Rattle.settle.specs.Settle.{Settled}
use Rattle.settle.proofs.settle_cell.Given as goal

abbrev pub invariant-loop-f : goal.invariant-loop-f
invariant-loop-f l =
    Settled l.p l.p.entries (Field l.cell l.f) l.initial.cells l.initial.remember l.tables l.j l.cells l.remember l.i

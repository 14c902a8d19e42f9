-- n counts the first f slots.
use Rattle.std.proofs.Common.{◌≤◌, ◌≡◌}
use Rattle.lists.specs.Counting.{sum}
use Rattle.layout.specs.Cells.{work_of, field_of}
use Rattle.census.specs.After.{cross_after}
use Rattle.census.proofs.crossing.cross_cell.Given as goal

abbrev pub invariant-loop-f : goal.invariant-loop-f
invariant-loop-f l =
    (l.n ≡ sum (λ f. cross_after l.p l.cells l.tables (work_of l.cells l.c) (field_of l.cells l.c f)) l.f) × (l.n ≤ l.f)

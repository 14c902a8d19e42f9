-- n is the sum over the lowest set bits, one in each turn, and come has grown by these cells.
use Rattle.std.proofs.Common.{◌≤◌, ◌*◌}
use Rattle.layout.specs.Cells.{cell_on, cell_words}
use Rattle.lists.specs.SetBits.{Walked}
use Rattle.census.specs.Counted.{Summed, Tallied}
use Rattle.census.specs.After.{cell_crosses}
use Rattle.census.proofs.count.count_page.Given as goal

abbrev pub invariant-loop : goal.invariant-loop
invariant-loop l =
    Walked l.w l.left l.counter × Summed (λ i. cell_crosses l.p l.cells l.tables (cell_on l.page i)) l.w l.left 0 l.n × (l.n ≤ cell_words * l.counter) × Tallied l.cells l.page l.w l.left l.initial.come l.come l.counter

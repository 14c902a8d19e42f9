-- The invariants: every page passed, every cell passed of this page and every field passed of this cell is whole, and n slots cross before this page,
-- before this cell, before this field, no more than the entries used.
use Rattle.std.proofs.Common.{◌≡◌, ℕ, ◌<◌, ◌≤◌, length}
use Rattle.layout.specs.Cells.{head_at, field_at, cell_on, field_of, most_fields, page_cells, CellIn}
use Rattle.promises.specs.Whole.{IsRef}
use Rattle.whole.specs.Cells.{CellWhole, PageCells}
use Rattle.whole.specs.Crossing.{crossing_to}
use Rattle.whole.proofs.cells.cells_whole.Given as goal

abbrev pub invariant-loop-f : goal.invariant-loop-f
invariant-loop-f l =
    CellIn l.cell (length l.cells) × (l.refs ≤ most_fields) × ((j : ℕ) → j < l.f → IsRef l.p l.cells l.tables (field_of l.cells l.cell j))
    × (l.n ≤ l.entries) × (l.n ≡ crossing_to l.p l.cells l.tables (field_at l.cell l.f))

abbrev pub invariant-loop-place : goal.invariant-loop-place
invariant-loop-place l =
    (l.used ≤ page_cells) × ((k : ℕ) → k < l.place → CellWhole l.p l.cells l.tables (cell_on l.page k))
    × (l.n ≤ l.entries) × (l.n ≡ crossing_to l.p l.cells l.tables (head_at (cell_on l.page l.place)))

abbrev pub invariant-loop-page : goal.invariant-loop-page
invariant-loop-page l =
    ((k : ℕ) → k < l.page → PageCells l.p l.cells l.tables k)
    × (l.n ≤ l.entries) × (l.n ≡ crossing_to l.p l.cells l.tables (head_at (cell_on l.page 0)))

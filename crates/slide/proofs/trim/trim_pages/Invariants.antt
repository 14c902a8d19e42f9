-- The listed pages so far are trimmed, and the kept cells that they do not hold are left.
use Rattle.std.proofs.Common.{◌-◌, ◌*◌, ◌≡◌}
use Rattle.layout.specs.Cells.{page_cells}
use Rattle.slide.specs.Trimmed.{Trimmed}
use Rattle.slide.proofs.trim.trim_pages.Given as goal

abbrev pub invariant-loop-page : goal.invariant-loop-page
invariant-loop-page l =
    (l.rest ≡ l.kept - page_cells * l.page-index) × Trimmed l.p l.list l.page-index l.kept l.initial.cells l.initial.tables l.cells l.tables

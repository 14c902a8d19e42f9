use Rattle.std.proofs.Common.{◌≤◌, refl, arith}
use Rattle.layout.specs.Cells.{page_cells}
use Rattle.mark.specs.Pushes.{Pushing.none, pushing-kept}
use Rattle.keep.specs.Others.{cells-few, cell-asks, cell-read, page-read}
use Rattle.keep.proofs.push_page.Goals as goal
use Rattle.keep.proofs.push_page.Goals.{After-other_cells-n}

few : (c : goal.After-other_cells-n) → c.other_cells-n.result ≤ page_cells
few c = omega (arith, c.other_cells-n.ensures, cells-few c.args.p c.args.tables.now c.args.page c.requires.page_lt_pages.1)

pub loop-place-init : goal.loop-place-init
loop-place-init c = (refl, refl, none)

pub cell_on-requires : goal.cell_on-requires
cell_on-requires c =
    omega (arith, c.requires.shaped.room, c.requires.page_lt_pages, few (goal.at.cell_on-requires c).After-other_cells-n)

pub scan-t-requires : goal.scan-t-requires
scan-t-requires c =
    let both = cell-asks c.requires.shaped c.requires.page_lt_pages.0 c.requires.page_lt_pages.1 c.loop-place.invariant.2 c.cell_on.result c.cell_on.ensures (omega (arith, c.other_cells-n.ensures)) in
    record { shaped = both.0; begins = both.1 }

pub loop-place-preserved : goal.loop-place-preserved
loop-place-preserved c =
    let cell-on = c.cell_on in
    let h = cell-read c.requires.shaped c.requires.page_lt_pages.0 c.requires.page_lt_pages.1 c.loop-place.invariant.2 cell-on.result cell-on.ensures (omega (arith, c.other_cells-n.ensures)) c.scan-t.ensures in
    let k = pushing-kept c.requires.shaped h in
    (k.cells-length, k.tables-length, h)

pub returns : goal.returns
returns c =
    page-read c.requires.shaped c.requires.page_lt_pages.0 c.requires.page_lt_pages.1 c.loop-place.invariant.2 (omega (arith, c.other_cells-n.ensures)) (omega (arith, few (goal.at.returns c).After-other_cells-n))

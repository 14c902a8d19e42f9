use Rattle.std.proofs.Common.{arith}
use Rattle.retell.specs.SlotStretches.{PageReadable, used-most}
use Rattle.retell.specs.Forwarding.{forwarded-start, place-readable, place-forwarded, page-forwarded}
use Rattle.retell.proofs.cells.rewrite_page.Goals as goal
use Rattle.retell.proofs.cells.rewrite_page.Goals.{After-used-used}

-- the page, by the number of cells in use that the code read
here : (c : goal.After-used-used) → (let a = c.args in PageReadable a.p a.page c.used-used.result a.cells.now a.tables.now)
here c =
    record { readable = c.requires.readable; low = c.requires.page_lt_pages; cells = c.used-used.ensures }

pub loop-place-init : goal.loop-place-init
loop-place-init c = forwarded-start _ _ _ _

pub rewrite_cell-requires : goal.rewrite_cell-requires
rewrite_cell-requires c =
    let r = here (goal.at.rewrite_cell-requires c).After-used-used in
    place-readable r c.loop-place.invariant c.cell_on.result (omega (arith, c.loop-place-test.true)) c.cell_on.ensures

pub loop-place-preserved : goal.loop-place-preserved
loop-place-preserved c = place-forwarded (here (goal.at.loop-place-preserved c).After-used-used) c.loop-place.invariant c.cell_on.result c.loop-place-test.true c.cell_on.ensures c.rewrite_cell.ensures

pub returns : goal.returns
returns c =
    let r = here (goal.at.returns c).After-used-used in
    page-forwarded r c.loop-place.invariant (omega arith) (omega (arith, used-most r))

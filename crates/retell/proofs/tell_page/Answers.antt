use Rattle.std.proofs.Common.{arith}
use Rattle.remember.specs.Crossing.{cross_to}
use Rattle.retell.specs.SlotStretches.{PageReadable, used-most, begins-here}
use Rattle.retell.specs.Retelling.{told-start}
use Rattle.retell.specs.RetellingSlots.{place-telling, place-told, page-told}
use Rattle.retell.proofs.tell_page.Goals as goal
use Rattle.retell.proofs.tell_page.Goals.{After-used-used}

-- the page, by the number of cells in use that the code read
here : (c : goal.After-used-used) → (let a = c.args in PageReadable a.p a.page c.used-used.result a.cells.now a.tables.now)
here c =
    record { readable = c.requires.slots_telling.readable; low = c.requires.page_lt_pages; cells = c.used-used.ensures }

pub loop-place-init : goal.loop-place-init
loop-place-init c =
    let a = c.args in
    told-start (cross_to a.p a.cells.now a.tables.now) a.p.entries _ _ _ c.requires.slots_telling.telling.low

pub tell_cell-i-requires : goal.tell_cell-i-requires
tell_cell-i-requires c =
    let r = here (goal.at.tell_cell-i-requires c).After-used-used in
    let k = c.cell_on in record {
      begins = begins-here r k.result c.loop-place.place (omega (arith, c.loop-place-test.true)) k.ensures;
      slots_telling = place-telling r c.requires.slots_telling c.loop-place.invariant k.result (omega (arith, c.loop-place-test.true)) k.ensures;
    }

pub loop-place-preserved : goal.loop-place-preserved
loop-place-preserved c =
    let r = here (goal.at.loop-place-preserved c).After-used-used in
    let k = c.cell_on in
    place-told r c.requires.slots_telling c.loop-place.invariant k.result (omega (arith, c.loop-place-test.true)) k.ensures c.tell_cell-i.ensures

pub returns : goal.returns
returns c =
    let r = here (goal.at.returns c).After-used-used in
    page-told r c.requires.slots_telling c.loop-place.invariant (omega arith) (omega (arith, used-most r))

-- Null, another region's object and one that is marked are passed over; else the bit is set and the old top goes into word 1.
use Rattle.std.proofs.Common.{arith}
use Rattle.lists.specs.Bits.{bit-lt}
use Rattle.layout.specs.Objects.{begins-page}
use Rattle.mark.specs.Marks.{push-marked}
use Rattle.mark.proofs.push.push.Goals as goal

pub owner-requires-clause-page_lt_pages : goal.owner-requires-clause-page_lt_pages
owner-requires-clause-page_lt_pages c = omega (arith, begins-page _ _ _ _ (c.requires.fact (omega arith)))

pub mark-w-requires-clause-page_lt_pages : goal.mark-w-requires-clause-page_lt_pages
mark-w-requires-clause-page_lt_pages c = omega (arith, begins-page _ _ _ _ (c.requires.fact (omega arith)))

pub returns-then-bit_at-ne0 : goal.returns-then-bit_at-ne0
returns-then-bit_at-ne0 c =
    let mark = c.mark-w in
    push-marked _ _ _ _ c.cell_named-c.ensures c.page_of-page.ensures c.place_of-i.ensures mark.ensures (omega (arith, c.if-bit_at-ne0.true, c.bit_at.ensures, bit-lt c.place_of-i.result mark.result))

pub set_mark-requires-clause-page_lt_pages : goal.set_mark-requires-clause-page_lt_pages
set_mark-requires-clause-page_lt_pages c = omega (arith, begins-page _ _ _ _ (c.requires.fact (omega arith)))

pub set_work-requires : goal.set_work-requires
set_work-requires c =
    omega (arith, begins-page _ _ _ _ (c.requires.fact (omega arith)), c.requires.shaped.cells-long, c.requires.shaped.room)

use Rattle.std.proofs.Common.{arith}
use lib.Count.{count_trailing_zeros}
use Rattle.lists.specs.SetBits.{walk-lowest}
use Rattle.mark.specs.Unmark.{page-turn, page-end}
use Rattle.mark.proofs.unmark.unmark_page.Goals as goal

pub cell_on-requires : goal.cell_on-requires
cell_on-requires c =
    let loop = c.loop in
    omega (arith, walk-lowest loop.invariant.1 (omega arith), c.requires.1)

pub set_work-requires : goal.set_work-requires
set_work-requires c =
    let pre = c.requires in
    let loop = c.loop in
    omega (arith, walk-lowest loop.invariant.1 (omega arith), c.cell_on.ensures, pre.1, pre.2, loop.invariant.0)

pub without_bit-left-requires : goal.without_bit-left-requires
without_bit-left-requires c =
    let loop = c.loop in
    let l = walk-lowest loop.invariant.1 (omega arith) in (l.lt, l.on)

pub loop-preserved : goal.loop-preserved
loop-preserved c =
    let loop = c.loop in
    let cell-on = c.cell_on in
    let l = walk-lowest loop.invariant.1 (omega arith) in
    let t = page-turn (count_trailing_zeros 32 loop.left) cell-on.result c.without_bit-left.result _ (cell-on.ensures) c.requires.2 loop.invariant.1 l loop.invariant.2 c.set_work.ensures c.without_bit-left.ensures in
    (t.1.cells-length, t.0, t.1)

pub returns : goal.returns
returns c =
    page-end c.loop.invariant.1 (omega arith) c.loop.invariant.2

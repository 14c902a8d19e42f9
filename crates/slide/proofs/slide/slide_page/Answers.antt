use Rattle.std.proofs.Common.{length, get_or, arith}
use lib.Count.{count_trailing_zeros}
use Rattle.lists.specs.SetBits.{walk_start, walk-lowest, walk_turn, walk_end}
use Rattle.slide.specs.Walks.{walk-some, walk-on-to, walk-over}
use Rattle.slide.specs.Slid.{Sliding, slide-begin, slide-passes, slide-there, slide-bit}
use Rattle.slide.proofs.slide.slide_page.Goals as goal
use Rattle.slide.proofs.slide.slide_page.Goals.{After-mark-left}

-- where the walk over the page begins
start : (c : goal.After-mark-left) → Sliding c.args.p (length c.args.list.now) c.args.list.now c.args.tables.now (get_or c.args.list.now c.args.at 0) c.mark-left.result c.args.cells.now
start c =
    let m = c.requires.listed.1 in
    let low = m.rises.low c.args.at c.requires.listed.0 in
    record { listed = m; low = low; word = c.mark-left.ensures; small = omega (arith, c.mark-left.ensures, m.small _ low); named = c.requires.named_from }

pub loop-init : goal.loop-init
loop-init c =
    let s = start (goal.at.loop-init c).After-mark-left in
    (walk_start c.mark-left.result s.small, slide-begin s)

pub cell_on-requires : goal.cell_on-requires
cell_on-requires c =
    let s = start (goal.at.cell_on-requires c).After-mark-left in
    (omega (arith, s.low, c.requires.room.few), (walk-lowest c.loop.invariant.0 c.loop-test.true).lt)

pub slide_cell-requires : goal.slide_cell-requires
slide_cell-requires c =
    let l = c.loop in
    let both = slide-there (start (goal.at.slide_cell-requires c).After-mark-left) l.invariant.1 (walk-some l.invariant.0 c.loop-test.true) c.cell_on.result c.cell_on.ensures c.requires.room.few (omega (arith, c.requires.p_in_bounds)) in
    record { cell_in = both.0; cell_nonzero = both.1 }

pub without_bit-left-requires : goal.without_bit-left-requires
without_bit-left-requires c = let f = walk-lowest c.loop.invariant.0 c.loop-test.true in (f.lt, f.on)

pub loop-preserved : goal.loop-preserved
loop-preserved c =
    let l = c.loop in
    let t = c.loop-test.true in
    let left = c.without_bit-left in
    let s = start (goal.at.loop-preserved c).After-mark-left in
    let some = walk-some l.invariant.0 t in (
      walk_turn (count_trailing_zeros 32 l.left) left.result l.invariant.0 (walk-lowest l.invariant.0 t) left.ensures,
      walk-on-to l.invariant.1 left.result some left.ensures (slide-bit s l.invariant.1 some c.cell_on.result c.cell_on.ensures c.slide_cell.ensures),
    )

pub returns : goal.returns
returns c =
    let l = c.loop in
    let s = start (goal.at.returns c).After-mark-left in
    walk-over l.invariant.1 (slide-passes s l.cells) (omega (arith, walk_end l.invariant.0 c.loop-test.false))

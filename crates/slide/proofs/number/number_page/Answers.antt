use Rattle.std.proofs.Common.{ℕ, length, ◌<◌, ◌+◌, ◌-◌, ◌≡◌, ap, ◌∙◌, subst, arith}
use lib.Count.{ones, ones-le, count_trailing_zeros}
use Rattle.lists.specs.SetBits.{Walked, walk-lowest, walk_turn, walk_end}
use Rattle.layout.specs.Cells.{ref_to, first_on, page_cells}
use Rattle.slide.specs.Ranks.{rank-few}
use Rattle.slide.specs.Walks.{walk-some, walk-on-to, walk-over}
use Rattle.slide.specs.Numbered.{NumberedHere, AtPage, AtBit, number_at, number_bit, number-passes}
use Rattle.slide.proofs.number.number_page.Goals as goal
use Rattle.slide.proofs.number.number_page.Goals.{After-mark-left, In-loop-k}

-- where the walk begins
start : (c : goal.After-mark-left) → AtPage c.args.p c.args.tables.now c.args.page c.mark-left.result c.args.before
start c =
    record {
      word = c.mark-left.ensures;
      small = omega (arith, c.mark-left.ensures, c.requires.marks_listed.small c.args.page c.requires.page_lt_pages.0);
      count = c.requires.page_lt_pages.1;
    }

pub overflow_add-after : goal.overflow_add-after
overflow_add-after c =
    let a = c.args in
    omega (arith, rank-few a.p a.tables.now (first_on a.page), ones-le page_cells c.mark-left.result (start (goal.at.overflow_add-after c).After-mark-left).small, c.requires.room.few, c.requires.page_lt_pages.0, c.requires.page_lt_pages.1)

-- and where it stands
at : (c : goal.In-loop-k) → AtBit c.args.p (length c.args.list.now) c.args.list.now c.args.tables.now c.args.page c.mark-left.result c.args.cells.now c.loop-k.cells c.loop-k.k (count_trailing_zeros 32 c.loop-k.left)
at c =
    number_at c.requires.marks_listed c.requires.page_lt_pages.0 (record {
      word = c.mark-left.ensures;
      small = omega (arith, c.mark-left.ensures, c.requires.marks_listed.small c.args.page c.requires.page_lt_pages.0);
      count = c.requires.page_lt_pages.1;
    }) c.loop-k.invariant.1 (walk-some c.loop-k.invariant.0 (omega (arith, c.loop-k-test.true, c.loop-k.auto.k)))

pub cell_on-cell-requires : goal.cell_on-cell-requires
cell_on-cell-requires c = (omega (arith, c.requires.room.few, c.requires.page_lt_pages.0), (at (goal.at.cell_on-cell-requires c).In-loop-k).low)

pub place_in-requires : goal.place_in-requires
place_in-requires c = let a = at (goal.at.place_in-requires c).In-loop-k in (a.listed, omega (arith, a.place, c.requires.room.few))

pub set_work-requires : goal.set_work-requires
set_work-requires c = omega (arith, (at (goal.at.set_work-requires c).In-loop-k).low, c.cell_on-cell.ensures, c.requires.room.few, c.requires.p_in_bounds, c.requires.page_lt_pages.0)

pub without_bit-left-requires : goal.without_bit-left-requires
without_bit-left-requires c =
    let f = walk-lowest c.loop-k.invariant.0 (omega (arith, c.loop-k-test.true, c.loop-k.auto.k)) in
    (f.lt, f.on)

pub loop-k-preserved : goal.loop-k-preserved
loop-k-preserved c =
    let a = c.args in
    let l = c.loop-k in
    let left = c.without_bit-left in
    let s = start (goal.at.loop-k-preserved c).After-mark-left in
    let b = at (goal.at.loop-k-preserved c).In-loop-k in
    let lt : l.k - a.before < ones c.mark-left.result = omega (arith, c.loop-k-test.true, l.auto.k) in (
      subst (λ (k : ℕ). Walked c.mark-left.result left.result k) (let e : l.k - a.before + 1 ≡ l.k + 1 - a.before = omega (arith, l.auto.k) in e)
          (walk_turn (count_trailing_zeros 32 l.left) left.result l.invariant.0 (walk-lowest l.invariant.0 lt) left.ensures),
      walk-on-to l.invariant.1 left.result (walk-some l.invariant.0 lt) left.ensures
          (number_bit a.page c.mark-left.result (count_trailing_zeros 32 l.left) c.cell_on-cell.result c.ref_to.result s.word b.low b.on
          (omega (arith, b.low, c.requires.room.few, c.requires.p_in_bounds, c.requires.page_lt_pages.0))
          c.cell_on-cell.ensures (c.ref_to.ensures ∙ ap ref_to c.place_in.ensures) c.set_work.ensures b.here),
    )

pub returns : goal.returns
returns c =
    let a = c.args in
    let l = c.loop-k in
    let w = c.mark-left.result in
    let s = start (goal.at.returns c).After-mark-left in
    let e : l.k ≡ a.before + ones w = omega (arith, l.auto.k-end, c.loop-k-test.false) in
    subst (λ (k : ℕ). NumberedHere a.p a.list.now a.tables.now a.page a.cells.now l.cells k page_cells) e
    (walk-over l.invariant.1 (number-passes a.p a.list.now a.tables.now a.page w l.k a.cells.now l.cells s.word) (omega (arith, walk_end l.invariant.0 (omega (arith, c.loop-k-test.false)))))

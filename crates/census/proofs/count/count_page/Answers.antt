use Rattle.std.proofs.Common.{ℕ, ◌≤◌, ◌<◌, ◌+◌, ◌≡◌, refl, sym, ap, ◌∙◌, subst, arith, zero-add, length}
use lib.Count.{ones, ones-le, count_trailing_zeros}
use Rattle.layout.specs.Cells.{cell_on, work_of, most-words}
use Rattle.layout.specs.Words.{Begins}
use Rattle.lists.specs.SetBits.{walk-lowest, walk_turn}
use Rattle.census.specs.Counted.{summed-next, summed-end, tallied-next, tallied-end}
use Rattle.census.specs.After.{cell_crosses}
use Rattle.census.proofs.count.count_page.Goals as goal

pub cell_on-c-requires : goal.cell_on-c-requires
cell_on-c-requires c = omega (arith, walk-lowest c.loop.invariant.0 (omega arith), c.requires.w_bound.1, c.requires.shaped.room)

pub tally-requires : goal.tally-requires
tally-requires c =
    let loop = c.loop in
    let a = c.args in
    let l = walk-lowest loop.invariant.0 (omega arith) in
    let e : c.cell_on-c.result ≡ cell_on a.page (count_trailing_zeros 32 loop.left) = c.cell_on-c.ensures in
    let at : work_of a.cells.now c.cell_on-c.result < length a.come.now =
    subst (λ (c : ℕ). work_of a.cells.now c < length a.come.now) (sym e) (c.requires.by_index_2 (count_trailing_zeros 32 loop.left) l.lt (loop.invariant.0.under (count_trailing_zeros 32 loop.left) l.on)) in record {
      cell_in = (omega (arith, l.lt, c.requires.w_bound.1, c.requires.shaped.room), omega (arith, l.lt, c.requires.w_bound.1, c.requires.shaped.cells-long));
      c_in_bounds = omega (arith, at, loop.invariant.3.long);
      c_bound = omega (arith, loop.invariant.3.few (work_of a.cells.now c.cell_on-c.result), ones-le 16 a.w c.requires.w_bound.0, c.requires.w_bound.1, c.requires.shaped.room);
    }

pub cross_cell-n-requires-clause-begins : goal.cross_cell-n-requires-clause-begins
cross_cell-n-requires-clause-begins c =
    let a = c.args in
    let loop = c.loop in
    let l = walk-lowest loop.invariant.0 (omega arith) in
    subst (Begins a.p a.cells.now a.tables.now) (sym c.cell_on-c.ensures) (c.requires.by_index (count_trailing_zeros 32 loop.left) l.lt (loop.invariant.0.under (count_trailing_zeros 32 loop.left) l.on))

pub overflow_add-n : goal.overflow_add-n
overflow_add-n c = omega (arith, most-words, c.cross_cell-n.ensures.upper_bound, c.loop.invariant.2, ones-le 16 c.args.w c.requires.w_bound.0)

pub without_bit-left-requires : goal.without_bit-left-requires
without_bit-left-requires c =
    let loop = c.loop in
    let l = walk-lowest loop.invariant.0 (omega arith) in (l.lt, l.on)

pub loop-preserved : goal.loop-preserved
loop-preserved c =
    let a = c.args in
    let loop = c.loop in
    let i = count_trailing_zeros 32 loop.left in
    let l = walk-lowest loop.invariant.0 (omega arith) in
    let e : c.cell_on-c.result ≡ cell_on a.page i = c.cell_on-c.ensures in
    (walk_turn i c.without_bit-left.result loop.invariant.0 l c.without_bit-left.ensures, summed-next i c.without_bit-left.result (loop.n + c.cross_cell-n.result) c.cross_cell-n.result l c.without_bit-left.ensures (c.cross_cell-n.ensures.value ∙ ap (cell_crosses a.p a.cells.now a.tables.now) e) refl loop.invariant.1, omega (arith, most-words, c.cross_cell-n.ensures.upper_bound, loop.invariant.2), tallied-next i c.without_bit-left.result c.cell_on-c.result l c.without_bit-left.ensures e c.tally.ensures c.tally.auto.come loop.invariant.3)

pub returns : goal.returns
returns c =
    let loop = c.loop in
    let all : ones c.args.w ≤ loop.counter = omega arith in record {
      by_index_4 = tallied-end loop.invariant.0 all loop.invariant.3;
      value = summed-end loop.invariant.0 all loop.invariant.1 ∙ zero-add _;
      upper_bound = omega (arith, loop.invariant.2, loop.invariant.0.count, ones-le 16 c.args.w c.requires.w_bound.0);
    }

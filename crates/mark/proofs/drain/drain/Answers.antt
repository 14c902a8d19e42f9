use Rattle.std.proofs.Common.{sym, ◌∙◌, arith}
use Rattle.mark.specs.Draining.{turn_facts, turn-asks, turn-read, drained}
use Rattle.mark.proofs.drain.drain.Goals as goal

pub work-t-requires : goal.work-t-requires
work-t-requires c =
    let pre = c.requires in
    omega (arith, turn_facts (c.loop-t.invariant.2 pre.0 pre.1 pre.2 pre.3).1 c.loop-t-test.true c.cell_named-c.result c.cell_named-c.ensures)

pub set_work-requires : goal.set_work-requires
set_work-requires c =
    let pre = c.requires in
    let cell-named = c.cell_named-c in
    omega (arith, turn_facts (c.loop-t.invariant.2 pre.0 pre.1 pre.2 pre.3).1 c.loop-t-test.true cell-named.result cell-named.ensures)

pub scan-t-requires : goal.scan-t-requires
scan-t-requires c =
    let pre = c.requires in
    let cell-named = c.cell_named-c in
    let both = turn-asks (c.loop-t.invariant.2 pre.0 pre.1 pre.2 pre.3).1 c.loop-t-test.true cell-named.result cell-named.ensures c.set_work.ensures c.work-t.ensures in
    record { shaped = both.0; begins = both.1 }

pub overflow_add-count : goal.overflow_add-count
overflow_add-count c =
    let pre = c.requires in
    let cell-named = c.cell_named-c in
    omega (arith, turn_facts (c.loop-t.invariant.2 pre.0 pre.1 pre.2 pre.3).1 c.loop-t-test.true cell-named.result cell-named.ensures)

pub loop-t-smaller : goal.loop-t-smaller
loop-t-smaller c =
    let pre = c.requires in
    let cell-named = c.cell_named-c in
    omega (arith, turn_facts (c.loop-t.invariant.2 pre.0 pre.1 pre.2 pre.3).1 c.loop-t-test.true cell-named.result cell-named.ensures)

pub loop-t-preserved : goal.loop-t-preserved
loop-t-preserved c =
    let pre = c.requires in
    let loop = c.loop-t in
    let loop-test = c.loop-t-test in
    let cell-named = c.cell_named-c in
    let work = c.work-t in
    let set-work = c.set_work in
    let scan = c.scan-t in
    let k = (turn-read (loop.invariant.2 pre.0 pre.1 pre.2 pre.3).1 loop-test.true cell-named.result cell-named.ensures set-work.ensures work.ensures scan.ensures).1.marking.kept in
    let k₀ = pre.3.1.marking.kept in (
      k.cells-length ∙ sym k₀.cells-length,
      k.tables-length ∙ sym k₀.tables-length,
      λ W T S h. turn-read (loop.invariant.2 W T S h).1 loop-test.true cell-named.result cell-named.ensures set-work.ensures work.ensures scan.ensures,
    )

pub returns : goal.returns
returns c =
    λ W T S h. let d = c.loop-t.invariant.2 W T S h in drained d.0 c.loop-t-test.false d.1

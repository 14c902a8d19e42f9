use Rattle.std.proofs.Common.{ℕ, sym, subst, arith}
use Rattle.lists.specs.Counting.{sum_more}
use Rattle.rules.specs.Regions.{region_at}
use Rattle.layout.specs.Places.{depth_of}
use Rattle.layout.specs.Words.{depths_at}
use Rattle.report.specs.Opened.{Turn, turn-first}
use Rattle.report.specs.Tables.{tables-room-of, threads-low}
use Rattle.report.proofs.Stands.{not_last, turn_at}
use Rattle.report.proofs.open_region.Goals as goal

pub returns-then-k-eq0 : goal.returns-then-k-eq0
returns-then-k-eq0 c =
    let s = c.args.p in
    let depths = depths_at s c.args.tables.now in
    subst (λ (k : ℕ). Turn s depths k 1) (sym c.if-k-eq0.true) (turn-first s depths)

pub depth-deep-requires : goal.depth-deep-requires
depth-deep-requires c =
    let a = c.args in record {
      room = tables-room-of a.p a.tables.now c.requires.whole_tables (omega arith);
      k_lt_threads = omega (arith, threads-low a.p a.tables.now c.requires.whole_tables);
    }

pub loop-deep-init : goal.loop-deep-init
loop-deep-init c =
    let a = c.args in
    (omega (arith, threads-low a.p a.tables.now c.requires.whole_tables), c.depth-deep.ensures, omega arith, omega (arith, c.if-k-eq0.false))

pub overflow_sub-level : goal.overflow_sub-level
overflow_sub-level c = omega (arith, c.loop-deep-test.true)

pub overflow_add-thread : goal.overflow_add-thread
overflow_add-thread c =
    let a = c.args in
    let space = tables-room-of a.p a.tables.now c.requires.whole_tables (omega arith) in
    omega (arith, c.loop-deep.invariant.0, space.threads-high)

pub depth-deep-requires-in-loop-deep : goal.depth-deep-requires-in-loop-deep
depth-deep-requires-in-loop-deep c =
    let a = c.args in
    let l = c.loop-deep in
    let few = not_last a.p a.tables.now c.requires.whole_tables l.thread l.level l.invariant.0 (omega (arith, l.invariant.1, c.loop-deep-test.true)) (omega (arith, l.invariant.2, c.requires.k_in_bounds)) in record { room = tables-room-of a.p a.tables.now c.requires.whole_tables (omega arith); k_lt_threads = few }

pub loop-deep-smaller : goal.loop-deep-smaller
loop-deep-smaller c = omega (arith, c.loop-deep.invariant.0)

pub loop-deep-preserved : goal.loop-deep-preserved
loop-deep-preserved c =
    let a = c.args in
    let l = c.loop-deep in
    let few = not_last a.p a.tables.now c.requires.whole_tables l.thread l.level l.invariant.0 (omega (arith, l.invariant.1, c.loop-deep-test.true)) (omega (arith, l.invariant.2, c.requires.k_in_bounds)) in
    let more = sum_more (depth_of a.tables.now) l.thread in
    (few, c.depth-deep-in-loop-deep.ensures, omega (arith, more, l.invariant.1, l.invariant.2, c.loop-deep-test.true), omega (arith, c.loop-deep-test.true))

pub region_at-requires : goal.region_at-requires
region_at-requires c =
    let a = c.args in
    let l = c.loop-deep in
    let space = tables-room-of a.p a.tables.now c.requires.whole_tables (omega arith) in
    (space.threads-high, space.depth-high, l.invariant.0, omega (arith, c.requires.whole_tables.whole.depths l.thread l.invariant.0, l.invariant.1, c.loop-deep-test.false))

pub returns : goal.returns
returns c =
    let a = c.args in
    let l = c.loop-deep in
    let s = a.p in
    let depths = depths_at s a.tables.now in
    let here = turn_at a.p a.tables.now c.requires.whole_tables l.thread l.level l.invariant.0 l.invariant.3 (omega (arith, l.invariant.1, c.loop-deep-test.false)) in
    subst (λ (r : ℕ). Turn s depths a.k r) (sym c.region_at.ensures) (subst (λ (k : ℕ). Turn s depths k (region_at s l.thread l.level)) l.invariant.2 here)

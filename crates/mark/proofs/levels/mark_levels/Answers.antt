use Rattle.std.proofs.Common.{refl, arith}
use Rattle.lists.specs.Says.{says-no}
use Rattle.mark.specs.Draining.{says-popped, says-idle}
use Rattle.mark.specs.Levels.{levels-start}
use Rattle.mark.specs.Holders.{held_refs}
use Rattle.mark.specs.Rounds.{round-shaped, round-holding, round-slots, round-pending, round-levels}
use Rattle.mark.proofs.levels.mark_levels.Goals as goal
use Rattle.mark.proofs.levels.mark_levels.Goals.{then-drain-ne0, else-drain-ne0}

pub loop-level-init : goal.loop-level-init
loop-level-init c =
    (refl, refl, levels-start _ _ _ c.requires.by_index, says-no (λ m. omega (arith, c.requires.by_index m.0 m.1, m.2)))

pub push_variables-held-requires : goal.push_variables-held-requires
push_variables-held-requires c =
    let args = c.args in
    let loop = c.loop-level in record {
      shaped = round-shaped c.requires.shaped c.requires.holding args.thread args.outer loop.invariant.2;
      by_index = (args.remember.now, round-holding c.requires.shaped c.requires.holding args.thread args.outer loop.invariant.2);
      thread_bound = omega (arith, c.requires.thread_lt_threads.0, c.requires.shaped.room.threads-high);
    }

pub push_slots-top-requires : goal.push_slots-top-requires
push_slots-top-requires c =
    let args = c.args in
    let q = round-slots c.requires.shaped c.requires.holding args.thread args.outer c.loop-level.invariant.2 c.push_variables-held.ensures in record { shaped = q.0; holding = q.1; chains_whole = c.requires.chains_whole; le_r = c.requires.le_r }

pub drain-requires : goal.drain-requires
drain-requires c =
    let args = c.args in
    let loop = c.loop-level in
    let region-at = c.region_at-g in
    (loop.cells, loop.tables, held_refs args.p args.cells.now args.remember.now args.tables.now args.r args.thread args.outer region-at.result, round-pending c.requires.shaped c.requires.holding args.thread args.outer loop.invariant.2 region-at.result region-at.ensures c.push_variables-held.ensures c.push_slots-top.ensures)

pub loop-level-preserved : goal.loop-level-preserved
loop-level-preserved c =
    let args = c.args in
    let loop = c.loop-level in
    let region-at = c.region_at-g in
    let g = region-at.result in
    let e = region-at.ensures in
    let q = round-pending c.requires.shaped c.requires.holding args.thread args.outer loop.invariant.2 g e c.push_variables-held.ensures c.push_slots-top.ensures in
    let d = c.drain.ensures _ _ _ q in
    let n = round-levels c.requires.shaped c.requires.holding args.thread args.outer loop.invariant.2 g e d in
    (n.kept.cells-length, n.kept.tables-length, n, elim c.if-drain-ne0.branch [ then-drain-ne0 w ↦ says-popped d _ w.found-is w.if-drain-ne0.true | else-drain-ne0 w ↦ says-idle d _ _ w.found-is w.if-drain-ne0.false loop.invariant.3 ])

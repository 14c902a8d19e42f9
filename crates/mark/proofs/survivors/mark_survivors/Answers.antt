-- Whole words are such as marking asks for, and the levels are then those of the rules.
use Rattle.std.proofs.Common.{◌≤◌, arith}
use Rattle.laws.specs.RegionLaws.{region-bounds}
use Rattle.layout.specs.Words.{words}
use Rattle.mark.specs.Reached.{whole-holding}
use Rattle.mark.specs.Survivors.{shaped-at, clean_at, marked-at}
use Rattle.mark.proofs.survivors.mark_survivors.Goals as goal

pub mark_levels-requires : goal.mark_levels-requires
mark_levels-requires c =
    let a = c.args in
    let w = words a.cells.now a.remember.now a.tables.now in
    let low : a.level ≤ a.p.depth = omega (arith, c.requires.whole_for.depths a.thread c.requires.thread_lt_threads.0, c.requires.thread_lt_threads.1) in
    let bounds = region-bounds a.p a.thread a.level c.requires.thread_lt_threads.0 low in record {
      shaped = shaped-at a.p w c.requires.whole_for (omega arith);
      holding = whole-holding a.p w c.requires.whole_for;
      chains_whole = c.requires.chains_whole;
      by_index = clean_at a.p w c.requires.whole_for;
      thread_lt_threads = (c.requires.thread_lt_threads.0, low);
      le_r = omega (arith, bounds, c.requires.thread_lt_threads.3);
    }

pub returns-clause-marked : goal.returns-clause-marked
returns-clause-marked c =
    let a = c.args in
    let levels = c.mark_levels in
    marked-at a.p (words a.cells.now a.remember.now a.tables.now) c.requires.whole_for a.thread _ _ _ c.requires.thread_lt_threads.0 (omega (arith, c.requires.thread_lt_threads.2)) c.requires.thread_lt_threads.1 c.requires.thread_lt_threads.3 c.region_at-outer.ensures levels.ensures.levels

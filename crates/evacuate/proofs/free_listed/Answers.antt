-- Nothing moves: the entries are those of the words as they are, and the region's cells and pages go.
use Rattle.std.proofs.Common.{arith, ◌∙◌}
use Rattle.ending.specs.Ending.{depth-now}
use Rattle.ending.specs.PagesEnough.{plan}
use Rattle.ending.specs.Chaining.{chained-ask}
use Rattle.ending.specs.NoSurvivors.{all-freed, none-copied, none-copies, none-rewritten, none-update, none-variables}
use Rattle.ending.specs.Stages as st
use Rattle.evacuate.proofs.free_listed.Goals as goal

pub keep_entries-requires : goal.keep_entries-requires
keep_entries-requires c =
    let e = c.requires.by_index.2 in
    let p = plan e c.requires.by_index.3.pages in record {
      settles = none-update e c.requires.by_index_2 p c.requires.by_index.3.entries;
      by_index = none-copies e c.requires.by_index_2 p;
      lists = c.requires.lists;
      chained = chained-ask e p (none-copied e c.requires.by_index_2) c.requires.chains_whole;
    }

pub release-requires : goal.release-requires
release-requires c =
    let e = c.requires.by_index.2 in
    let p = plan e c.requires.by_index.3.pages in record {
      room = p.ready.room;
      regular = p.ready.regular;
      p_in_bounds = p.ready.cells-long;
      lists = c.requires.lists;
      le_region = st.bounds e;
      thread_lt_threads = (e.thread, omega (arith, depth-now e, e.epoch));
      noted = c.requires.noted;
    }

pub returns : goal.returns
returns c = record {
  by_index_3 = λ cells tables e a.
      let off = c.requires.by_index_2 in
      let p = plan e a.pages in
      let release = c.release in
      st.has_ended e p (none-copied e off) (none-variables e off) release.ensures.ended (c.requires.objects_value ∙ all-freed e off) release.ensures.emptied (none-rewritten e off p) c.keep_entries.ensures.updated;
  noted_2 = c.release.ensures.noted_2;
  chains_after = c.keep_entries.ensures.chains_after;
}

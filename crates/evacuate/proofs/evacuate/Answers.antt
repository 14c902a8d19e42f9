-- What each stage asks follows from what the earlier ones leave.
use Rattle.std.proofs.Common.{arith, ap, ◌∙◌}
use Rattle.layout.specs.Places.{count_of}
use Rattle.pages.specs.Noted.{noted-kept, none-freed}
use Rattle.ending.specs.Rewriting.{rewritten-both}
use Rattle.ending.specs.Finish.{variables-ask, owner₂, regular₂}
use Rattle.ending.specs.Ending.{level-low, room-now}
use Rattle.mark.specs.MarkedWords.{unlisted}
use Rattle.ending.specs.PagesEnough.{plan}
use Rattle.ending.specs.Chaining.{own-pages, chained-ask}
use Rattle.ending.specs.Stages as st
use Rattle.evacuate.proofs.evacuate.Goals as goal

pub count_survivors-survivors-requires : goal.count_survivors-survivors-requires
count_survivors-survivors-requires c =
    let e = c.requires.by_index.2 in record {
      room = room-now e;
      rises = c.requires.lists.rises;
      by_index = unlisted e.marks (st.listed e c.requires.lists);
      small = e.marks.small;
    }

pub count-requires : goal.count-requires
count-requires c =
    let e = c.requires.by_index.2 in record {
      room = room-now e;
      le_region = st.bounds e;
    }

-- the objects of the region less the survivors
pub overflow_sub-freed : goal.overflow_sub-freed
overflow_sub-freed c =
    let a = c.args in
    omega (arith, c.count.ensures, c.count_survivors-survivors.ensures, st.freed-rest c.requires.by_index.2)

pub copy_survivors-requires : goal.copy_survivors-requires
copy_survivors-requires c =
    let e = c.requires.by_index.2 in record {
      plan = plan e c.requires.by_index.3.pages;
      thread_lt_threads = (e.thread, level-low e);
      rises = c.requires.lists.rises;
      by_index = unlisted e.marks (st.listed e c.requires.lists);
      by_index_2 = c.requires.by_index_2;
      noted = c.requires.noted;
    }

pub rewrite_slots-requires : goal.rewrite_slots-requires
rewrite_slots-requires c =
    let e = c.requires.by_index.2 in
    let room = room-now e in record {
      slots = st.slots-ask e (plan e c.requires.by_index.3.pages) c.copy_survivors.ensures.copy;
      chains_whole = c.requires.chains_whole;
      le_region = ((st.bounds e).0, (st.bounds e).1, room.threads-high, room.depth-high);
    }

pub settle-requires : goal.settle-requires
settle-requires c =
    let e = c.requires.by_index.2 in
    let p = plan e c.requires.by_index.3.pages in
    let k = c.copy_survivors.ensures.copy in
    let listed = st.listed e c.requires.lists in record {
      settles = st.settle-ask e p k c.rewrite_slots.ensures c.requires.by_index.3.entries;
      lists = own-pages e p k listed;
      by_index = st.marks-ask e p k listed;
      chained = chained-ask e p k c.requires.chains_whole;
    }

pub rewrite_variables-requires : goal.rewrite_variables-requires
rewrite_variables-requires c =
    let e = c.requires.by_index.2 in
    let h = st.moved e (plan e c.requires.by_index.3.pages) c.copy_survivors.ensures.copy in record {
      by_index = variables-ask h;
      p_in_bounds = omega (arith, h.ready.cells-long, c.rewrite_slots.ensures.size, c.settle.ensures.rewritten.size);
      room = h.ready.room;
    }

pub release-requires : goal.release-requires
release-requires c =
    let e = c.requires.by_index.2 in
    let p = plan e c.requires.by_index.3.pages in
    let k = c.copy_survivors.ensures.copy in
    let h = st.moved e p k in
    let v = c.rewrite_variables.ensures in
    let z = st.release-ask e p k v in record {
      room = z.0;
      regular = regular₂ h v;
      p_in_bounds = omega (arith, h.ready.cells-long, c.rewrite_slots.ensures.size, c.settle.ensures.rewritten.size);
      lists = st.pages-ask e p k v (st.listed e c.requires.lists);
      le_region = st.bounds e;
      thread_lt_threads = (e.thread, omega (arith, z.1, e.epoch));
      noted = noted-kept (none-freed _ _ _ (owner₂ h v)) c.copy_survivors.ensures.noted_2;
    }

pub shape_of-cells : goal.shape_of-cells
shape_of-cells c = c.release.auto.cells ∙ c.settle.auto.cells ∙ c.rewrite_slots.auto.cells ∙ c.copy_survivors.auto.cells

pub shape_of-tables : goal.shape_of-tables
shape_of-tables c = c.release.auto.tables ∙ c.rewrite_variables.auto.tables ∙ c.copy_survivors.auto.tables

pub shape_of-notes : goal.shape_of-notes
shape_of-notes c = c.release.auto.notes ∙ c.copy_survivors.auto.notes

pub returns : goal.returns
returns c = record {
  by_index_3 = λ cells tables e a.
      let args = c.args in
      let settle = c.settle in
      let release = c.release in
      let p = plan e a.pages in
      let k = c.copy_survivors.ensures.copy in
      let h = st.moved e p k in
      st.has_ended e p k c.rewrite_variables.ensures release.ensures.ended
      (omega (arith, c.count.ensures, c.count_survivors-survivors.ensures, st.freed-rest e)) release.ensures.emptied
      (rewritten-both h (st.held e) c.rewrite_slots.ensures settle.ensures.rewritten) settle.ensures.updated;
  noted_2 = c.release.ensures.noted_2;
  chains_after = c.settle.ensures.chains_after;
}

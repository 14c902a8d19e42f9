-- A region without objects has no pages, and else its pages are listed.
use Rattle.std.proofs.Common.{arith, sym, ap, ◌∙◌}
use Rattle.lists.specs.Part.{lists-none}
use Rattle.layout.specs.Places.{count_of}
use Rattle.promises.proofs.OwnedPages.{none_owned}
use Rattle.ending.specs.Ending.{room-now}
use Rattle.ending.specs.PagesEnough.{plan}
use Rattle.ending.specs.Stages as st
use Rattle.evacuate.proofs.evacuate_none.Goals as goal

pub count-objects-requires : goal.count-objects-requires
count-objects-requires c =
    let e = c.requires.by_index.2 in record {
      room = room-now e;
      le_region = st.bounds e;
    }

pub list_and_free-requires : goal.list_and_free-requires
list_and_free-requires c = record {
  by_index = c.requires.by_index;
  by_index_2 = c.requires.by_index_2;
  noted = c.requires.noted;
  chains_whole = c.requires.chains_whole;
  objects_value = c.count-objects.ensures;
}

pub free_listed-requires : goal.free_listed-requires
free_listed-requires c =
    let e = c.requires.by_index.2 in
    let n = c.count-objects.ensures in record {
      by_index = c.requires.by_index;
      by_index_2 = c.requires.by_index_2;
      noted = c.requires.noted;
      chains_whole = c.requires.chains_whole;
      lists = lists-none _ (none_owned (plan e c.requires.by_index.3.pages).ready.regular c.args.epoch.region (st.bounds e).0 (st.bounds e).1 (sym n ∙ c.if-objects-ne0.false));
      objects_value = n;
    }

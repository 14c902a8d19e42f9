-- The region has as many pages as its count of objects says, so all of them are listed.
use Rattle.lists.specs.Part.{lists-front}
use Rattle.promises.proofs.OwnedPages.{counts-owned}
use Rattle.ending.specs.PagesEnough.{plan}
use Rattle.ending.specs.Stages as st
use Rattle.evacuate.proofs.list_and_free.Goals as goal

pub list_pages-n-requires : goal.list_pages-n-requires
list_pages-n-requires c =
    let e = c.requires.by_index.2 in
    let ready = (plan e c.requires.by_index.3.pages).ready in
    let region = st.bounds e in record {
      room = ready.room;
      le_region = region;
      pages_value = counts-owned ready.regular c.args.epoch.region region.0 region.1;
      pages_in_bounds = ready.room.few;
    }

pub free_listed-requires : goal.free_listed-requires
free_listed-requires c = record {
  by_index = c.requires.by_index;
  by_index_2 = c.requires.by_index_2;
  noted = c.requires.noted;
  chains_whole = c.requires.chains_whole;
  lists = lists-front c.list_pages-n.ensures;
  objects_value = c.requires.objects_value;
}

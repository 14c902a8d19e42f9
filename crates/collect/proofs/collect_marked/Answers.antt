-- Each stage starts from what was left before it; put together they leave what the rules leave.
use Rattle.std.proofs.Common.{◌∙◌, arith}
use Rattle.lists.specs.Part.{lists-front}
use Rattle.collect.specs.TablesAfter.{room₂}
use Rattle.collect.specs.CollectDid.{readable₅, fits₅}
use Rattle.collect.proofs.CollectPromised.{promised}
use Rattle.collect.specs.StagesAsk.{marked-ready, pages-counted, marks-for, numbering, long₂, variables-ask, slots-ask, marks-ask, long₃, places-ask, used-ask, long₄, room₃, count-ask, freed-is, collected-noted}
use Rattle.collect.proofs.collect_marked.Goals as goal

pub list_pages-n-requires : goal.list_pages-n-requires
list_pages-n-requires c =
    let k = c.requires.by_index.2 in
    let m = marked-ready k in record {
      room = m.room;
      le_region = (omega arith, omega arith);
      pages_value = pages-counted k;
      pages_in_bounds = m.room.few;
    }

pub note_released-requires : goal.note_released-requires
note_released-requires c =
    let k = c.requires.by_index.2 in record {
      rises = (lists-front c.list_pages-n.ensures).rises;
      pages_bound = ((marked-ready k).room.few, c.requires.noted.long);
    }

pub number_kept-kept-requires : goal.number_kept-kept-requires
number_kept-kept-requires c =
    let k = c.requires.by_index.2 in record {
      room = (marked-ready k).room;
      p_in_bounds = (marked-ready k).cells-long;
      marks_listed = marks-for k (lists-front c.list_pages-n.ensures);
    }

pub rewrite_variables-requires : goal.rewrite_variables-requires
rewrite_variables-requires c =
    let k = c.requires.by_index.2 in
    let a = numbering k (lists-front c.list_pages-n.ensures) c.number_kept-kept.ensures in record { by_index = variables-ask a; p_in_bounds = long₂ a; room = (marked-ready k).room }

pub rewrite_cells-requires : goal.rewrite_cells-requires
rewrite_cells-requires c =
    let k = c.requires.by_index.2 in
    let a = numbering k (lists-front c.list_pages-n.ensures) c.number_kept-kept.ensures in
    slots-ask a c.rewrite_variables.ensures

pub slide_kept-requires : goal.slide_kept-requires
slide_kept-requires c =
    let k = c.requires.by_index.2 in
    let a = numbering k (lists-front c.list_pages-n.ensures) c.number_kept-kept.ensures in
    let Y = c.rewrite_variables.ensures in
    let R = c.rewrite_cells.ensures in record {
      room = room₂ a Y;
      p_in_bounds = long₃ a Y R;
      marks_listed = marks-ask a Y;
      named_from = places-ask a Y R;
    }

pub trim_pages-requires : goal.trim_pages-requires
trim_pages-requires c =
    let k = c.requires.by_index.2 in
    let a = numbering k (lists-front c.list_pages-n.ensures) c.number_kept-kept.ensures in
    let Y = c.rewrite_variables.ensures in
    let R = c.rewrite_cells.ensures in record {
      room = room₂ a Y;
      p_in_bounds = long₄ a Y R c.slide_kept.ensures;
      rises = a.list.rises;
      by_index = used-ask a Y R;
    }

pub tally-requires : goal.tally-requires
tally-requires c =
    let k = c.requires.by_index.2 in
    let a = numbering k (lists-front c.list_pages-n.ensures) c.number_kept-kept.ensures in
    let Y = c.rewrite_variables.ensures in
    let Z = c.trim_pages.ensures in record { room = room₃ a Y Z; kept_bound = count-ask a Y Z }

pub retell-requires : goal.retell-requires
retell-requires c =
    let k = c.requires.by_index.2 in
    let a = numbering k (lists-front c.list_pages-n.ensures) c.number_kept-kept.ensures in
    let Y = c.rewrite_variables.ensures in
    let R = c.rewrite_cells.ensures in
    let S = c.slide_kept.ensures in
    let Z = c.trim_pages.ensures in
    let C = c.tally.ensures in
    let r = k.whole.remember.entries in record {
      readable = readable₅ a Y Z R S C;
      entries_in_bounds = k.whole.sized.remember;
      remember_bound = (r.room, r.rest);
      at_most = fits₅ a Y Z R S C;
    }

pub shape_of-cells : goal.shape_of-cells
shape_of-cells c =
    c.trim_pages.ensures.cells-size ∙ c.slide_kept.ensures.size ∙ c.rewrite_cells.ensures.size ∙ c.number_kept-kept.ensures.size

pub shape_of-tables : goal.shape_of-tables
shape_of-tables c =
    c.tally.ensures.size ∙ c.trim_pages.ensures.tables-size ∙ c.rewrite_variables.ensures.size

pub shape_of-notes : goal.shape_of-notes
shape_of-notes c = c.note_released.auto.notes

pub returns : goal.returns
returns c =
    let o = lists-front c.list_pages-n.ensures in
    let N = c.number_kept-kept.ensures in
    let Y = c.rewrite_variables.ensures in
    let R = c.rewrite_cells.ensures in
    let S = c.slide_kept.ensures in
    let Z = c.trim_pages.ensures in
    let C = c.tally.ensures in
    let a = numbering c.requires.by_index.2 o N in record {
      by_index_2 = λ cells tables k.
          let b = numbering k o N in
          promised b Y Z R S C (freed-is b Y Z) c.retell.ensures.exact c.retell.ensures.edited;
      noted_2 = collected-noted a Y Z C c.requires.noted c.note_released.ensures;
    }

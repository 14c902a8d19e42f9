-- The listed pages are counted over, and the marking is either undone or evacuated: at each way out the promise of code 2 holds.
use Rattle.std.proofs.Common.{◌≡◌, refl, sym, ap, ◌∙◌, arith}
use Rattle.rules.specs.Refusals.{number_of, asked, question-nonzero}
use Rattle.chains.proofs.LentChains.{chains-same}
use Rattle.promises.proofs.Questions.{did-answer}
use Rattle.lists.specs.Zeros.{replicate-at}
use Rattle.lists.specs.Part.{lists-front}
use Rattle.layout.specs.Places.{most_regions, regions-few}
use Rattle.promises.specs.Arriving.{goes_to}
use Rattle.census.specs.Counted.{over-cells}
use Rattle.ending.specs.Ending.{room-now, level-low, ended_here}
use Rattle.mark.specs.MarkedWords.{unlisted}
use Rattle.ending.specs.PagesEnough.{targets-low}
use Rattle.ending.specs.Stages.{bounds, listed}
use Rattle.epoch.specs.EndDid.{marked-ready, shaped-now, holding-now, others-stay, paged-now, out-refused, out-noted, accepted}
use Rattle.epoch.proofs.end_marked.Goals as goal

pub list_pages-n-requires : goal.list_pages-n-requires
list_pages-n-requires c =
    let m = c.requires.by_index.2 in
    let z = bounds m in record {
      room = room-now m;
      le_region = z;
      pages_value = (paged-now m).pages c.args.epoch.region z.0 z.1;
      pages_in_bounds = (room-now m).few;
    }

pub count_listed-k-requires : goal.count_listed-k-requires
count_listed-k-requires c =
    let m = c.requires.by_index.2 in
    let o = lists-front c.list_pages-n.ensures in record {
      shaped = shaped-now m;
      rises = o.rises;
      by_index = unlisted m.marks (listed m o);
      small = m.marks.small;
      by_index_2 = (marked-ready m).used;
      by_index_3 = λ x l on. omega (arith, targets-low m x l on, regions-few (room-now m));
      by_index_4 = λ g. replicate-at most_regions g 0;
    }

pub ask_room-asked-requires : goal.ask_room-asked-requires
ask_room-asked-requires c =
    let m = c.requires.by_index.2 in
    let k = c.count_listed-k in record {
      shaped = shaped-now m;
      holding = holding-now m;
      others_stay = others-stay m;
      chains_whole = c.requires.chains_whole;
      lists = lists-front c.list_pages-n.ensures;
      le_region = bounds m;
      paged = paged-now m;
      census = k.ensures;
      p_in_bounds = omega (arith, regions-few (room-now m), k.auto.come);
      thread_lt_threads = (m.thread, level-low m);
    }

pub unmark-requires : goal.unmark-requires
unmark-requires c =
    let m = c.requires.by_index.2 in
    let o = lists-front c.list_pages-n.ensures in record {
      room = room-now m;
      p_in_bounds = (marked-ready m).cells-long;
      small = m.marks.small;
      rises = o.rises;
      by_index = unlisted m.marks (listed m o);
    }

pub returns-in-Err : goal.returns-in-Err
returns-in-Err c = record {
  by_index_2 = λ cells tables m.
      out-refused m (number_of c.in-Err.refusal) (omega (arith, question-nonzero c.in-Err.refusal)) (sym (ap asked c.in-Err.is) ∙ c.ask_room-asked.ensures) c.unmark.ensures;
  noted_2 = out-noted c.requires.by_index.2 c.unmark.ensures c.requires.noted;
  chains_after = chains-same c.requires.chains_whole;
}

pub evacuate-requires : goal.evacuate-requires
evacuate-requires c =
    let a = c.args in
    let m = c.requires.by_index.2 in
    let k = c.count_listed-k in
    let yes = sym (ap asked c.in_default.is) ∙ c.ask_room-asked.ensures in record {
      by_index = (c.requires.by_index.0, c.requires.by_index.1, m, accepted m yes);
      lists = lists-front c.list_pages-n.ensures;
      by_index_2 = (λ g low high z. sym (k.ensures.arrivals g ∙ over-cells a.p a.tables.now (goes_to a.cells.now g)) ∙ z);
      noted = (c.requires.noted, omega (arith, regions-few (room-now m), k.auto.come));
      chains_whole = c.requires.chains_whole;
    }

pub returns : goal.returns
returns c = record {
  by_index_2 = λ cells tables m.
      let a = accepted m (sym (ap asked c.in_default.is) ∙ c.ask_room-asked.ensures) in
      did-answer refl (ended_here m a (c.evacuate.ensures.by_index_3 cells tables m a));
  noted_2 = c.evacuate.ensures.noted_2;
  chains_after = c.evacuate.ensures.chains_after;
}

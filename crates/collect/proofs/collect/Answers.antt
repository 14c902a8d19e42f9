-- What is kept is marked, and the stages go on from there.
use Rattle.std.proofs.Common.{arith}
use Rattle.promises.proofs.Questions.{did-answer}
use Rattle.layout.specs.Words.{words}
use Rattle.collect.specs.Numbering.{Keeping}
use Rattle.collect.specs.StagesAsk.{keeping, keeping-noted, collected-chainable}
use Rattle.collect.proofs.collect.Goals as goal
use Rattle.collect.proofs.collect.Goals.{After-mark_kept}

-- the words that the stages start from
kept : (c : goal.After-mark_kept) → Keeping c.args.p (words c.args.cells.now c.args.remember.now c.args.tables.now) (words c.mark_kept.new.cells c.args.remember.now c.mark_kept.new.tables)
kept c =
    let w = c.requires.whole_for in
    keeping w (c.mark_kept.ensures c.args.remember.now w) (omega arith)

pub collect_marked-requires : goal.collect_marked-requires
collect_marked-requires c =
    let k = kept (goal.at.collect_marked-requires c).After-mark_kept in record { by_index = (c.args.cells.now, c.args.tables.now, k); noted = keeping-noted k c.requires.noted }

pub rebuild-requires : goal.rebuild-requires
rebuild-requires c = record {
  chainable = collected-chainable c.requires.whole_for (c.collect_marked.ensures.by_index_2 _ _ (kept (goal.at.rebuild-requires c).After-mark_kept));
  p_in_bounds = c.requires.p_in_bounds;
}

pub returns : goal.returns
returns c = record {
  by_index = λ t th. did-answer c.done.ensures (c.collect_marked.ensures.by_index_2 _ _ (kept (goal.at.returns c).After-mark_kept) t th);
  chains_after = c.rebuild.ensures;
  noted_2 = c.collect_marked.ensures.noted_2;
}

use Rattle.whole.specs.ZeroCells.{joined-more}
use Rattle.whole.proofs.unused.zero_cell.Goals as goal

pub loop-i-preserved : goal.loop-i-preserved
loop-i-preserved c = joined-more c.loop-i.invariant c.word-x.ensures

-- The word at the region that the cell goes to grows by 1, and no other.
use Rattle.std.proofs.Common.{arith}
use Rattle.census.specs.Counted.{one_more}
use Rattle.census.proofs.count.tally.Goals as goal

pub returns : goal.returns
returns c = one_more c.args.cells.now c.args.come.now c.args.c c.work-g.result c.work-g.ensures (omega arith)

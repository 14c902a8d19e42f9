-- The count is set, and what the control space had more is counted as freed.
use Rattle.std.proofs.Common.{arith}
use Rattle.collect.specs.TablesAfter.{space-counted}
use Rattle.collect.proofs.tally.Goals as goal

pub returns : goal.returns
returns c = space-counted c.args.p c.args.tables.now c.args.kept _ _ _ c.requires.room (omega arith) (omega (arith, c.count.ensures)) c.set_count.ensures c.count_freed.ensures

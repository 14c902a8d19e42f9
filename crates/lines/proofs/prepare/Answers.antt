-- prepare refuses exactly the sizes that are not accepted, since the slices are as long as those want them.
use Rattle.lines.proofs.FirstLine.{prepared-begun, malformed-begun, begun-as}
use Rattle.lines.proofs.prepare.Goals as goal

pub returns-in-Ok-clause-begun : goal.returns-in-Ok-clause-begun
returns-in-Ok-clause-begun c = begun-as c.in-Ok.is (prepared-begun _ c.args.memory.now.lent c.taldreku_prepare-number.ensures)

pub returns-in-Err-clause-begun : goal.returns-in-Err-clause-begun
returns-in-Err-clause-begun c = begun-as c.in-Err.is (malformed-begun c.args.memory.now.lent)

use Rattle.std.proofs.Common.{arith}
use Rattle.long_list.specs.Repeated.{filled_none, filled_more, filled-to}
use Rattle.long_list.proofs.fill.Goals as goal

pub loop-i-init : goal.loop-i-init
loop-i-init c = filled_none _ _

pub loop-i-preserved : goal.loop-i-preserved
loop-i-preserved c = filled_more c.loop-i.invariant (omega (arith, c.loop-i.invariant.long))

pub returns : goal.returns
returns c = filled-to c.loop-i.invariant (omega (arith, c.loop-i.invariant.long))

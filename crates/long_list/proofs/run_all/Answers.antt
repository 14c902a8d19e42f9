use Rattle.std.proofs.Common.{arith}
use Rattle.long_list.specs.Repeated.{none, more, repeated-to, answers-few}
use Rattle.long_list.proofs.run_all.Goals as goal

pub loop-init : goal.loop-init
loop-init c = record { repeated = none; few = omega arith }

pub overflow_add-n : goal.overflow_add-n
overflow_add-n c = omega (arith, answers-few _ _ _ _ c.count-n.ensures (omega arith))

pub loop-preserved : goal.loop-preserved
loop-preserved c = record {
  repeated = more c.loop.invariant.repeated c.taldreku_run.ensures c.count-n.ensures;
  few = omega (arith, answers-few _ _ _ _ c.count-n.ensures (omega arith));
}

pub returns : goal.returns
returns c = repeated-to c.loop.invariant.repeated (omega arith)

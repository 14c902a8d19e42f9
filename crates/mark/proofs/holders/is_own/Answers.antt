-- The thread's variables stand side by side.
use Rattle.std.proofs.Common.{ltb-true, lt-ltb}
use Rattle.mark.specs.Holders.{own-to, own-between}
use Rattle.mark.proofs.holders.is_own.Goals as goal

pub returns-then-first-i : goal.returns-then-first-i
returns-then-first-i c = (
  λ q. own-between c.args.p c.args.thread c.args.i c.requires.0 c.if-first-i.true (ltb-true _ _ q),
  λ e. lt-ltb _ _ (own-to c.args.p c.args.thread c.args.i c.requires.0 e),
)

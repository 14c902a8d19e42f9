use Rattle.std.proofs.Common.{◌≡◌, subst, arith}
use Rattle.layout.specs.Places.{entries_used}
use Rattle.remember.specs.Finding.{Between, all-between, halved, last_up, last-down}
use Rattle.remember.proofs.entries.find_entry.Goals as goal

pub returns-then-size-eq0 : goal.returns-then-size-eq0
returns-then-size-eq0 c =
    let e : entries_used c.args.remember.now ≡ 0 = omega (arith, c.if-size-eq0.true, c.used-size.ensures) in
    halved c.requires.table c.args.at (subst (Between c.args.remember.now c.args.at 0) e (all-between c.requires.table c.args.at)) (omega arith)

pub returns-then-slot-at-2 : goal.returns-then-slot-at-2
returns-then-slot-at-2 c = last_up c.requires.table c.args.at c.loop-size.invariant.2 (omega (arith, c.loop-size.invariant.0, c.loop-size-test.false)) c.slot-2.ensures c.if-slot-at-2.true

pub returns-else-slot-at-2 : goal.returns-else-slot-at-2
returns-else-slot-at-2 c = last-down c.requires.table c.args.at c.loop-size.invariant.2 (omega (arith, c.loop-size.invariant.0, c.loop-size-test.false)) c.slot-2.ensures c.if-slot-at-2.false

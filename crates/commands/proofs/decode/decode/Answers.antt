use Rattle.std.proofs.Common.{ap, refl, arith}
use Rattle.std.proofs.lemmas.Bool.Decides.{nat_tests}
use Rattle.rules.specs.Terms.{decode, start, end, new, copy, clear, load, store, read, write, same, collect}
use Rattle.rules.specs.NeverFreeing.{operands}
use Rattle.layout.specs.Cells.{most-is}
use Rattle.commands.proofs.Arms.{arm, other-code}
use Rattle.commands.proofs.decode.decode.Goals as goal

pub returns-after-no_b : goal.returns-after-no_b
unfolding operands
returns-after-no_b c = arm c.args.p c.args.m start (ap decode c.in-1.is) refl refl _ (grind (arith, nat_tests)) c.checked.ensures

pub returns-after-no_b-2 : goal.returns-after-no_b-2
unfolding operands
returns-after-no_b-2 c = arm c.args.p c.args.m end (ap decode c.in-2.is) refl refl _ (grind (arith, nat_tests)) c.checked-in-2.ensures

pub returns-after-var_a : goal.returns-after-var_a
unfolding operands
returns-after-var_a c = arm c.args.p c.args.m new (ap decode c.in-3.is) refl refl _ (grind (arith, nat_tests, most-is)) c.checked-in-3.ensures

pub returns-after-var_b : goal.returns-after-var_b
unfolding operands
returns-after-var_b c = arm c.args.p c.args.m copy (ap decode c.in-4.is) refl refl _ (grind (arith, nat_tests)) c.checked-in-4.ensures

pub returns-after-no_b-3 : goal.returns-after-no_b-3
unfolding operands
returns-after-no_b-3 c = arm c.args.p c.args.m clear (ap decode c.in-5.is) refl refl _ (grind (arith, nat_tests)) c.checked-in-5.ensures

pub returns-after-var_a-4 : goal.returns-after-var_a-4
unfolding operands
returns-after-var_a-4 c = arm c.args.p c.args.m load (ap decode c.in-6.is) refl refl _ (grind (arith, nat_tests)) c.checked-in-6.ensures

pub returns-after-var_a-5 : goal.returns-after-var_a-5
unfolding operands
returns-after-var_a-5 c = arm c.args.p c.args.m store (ap decode c.in-7.is) refl refl _ (grind (arith, nat_tests)) c.checked-in-7.ensures

pub returns-after-var_a-6 : goal.returns-after-var_a-6
unfolding operands
returns-after-var_a-6 c = arm c.args.p c.args.m read (ap decode c.in-8.is) refl refl _ (grind (arith, nat_tests)) c.checked-in-8.ensures

pub returns-in-9 : goal.returns-in-9
unfolding operands
returns-in-9 c = arm c.args.p c.args.m write (ap decode c.in-9.is) refl refl _ refl c.checked-in-9.ensures

pub returns-after-var_b-2 : goal.returns-after-var_b-2
unfolding operands
returns-after-var_b-2 c = arm c.args.p c.args.m same (ap decode c.in-10.is) refl refl _ (grind (arith, nat_tests)) c.checked-in-10.ensures

pub returns-after-no_b-4 : goal.returns-after-no_b-4
unfolding operands
returns-after-no_b-4 c = arm c.args.p c.args.m collect (ap decode c.in-11.is) refl refl _ (grind (arith, nat_tests)) c.checked-in-11.ensures

pub returns-in_default : goal.returns-in_default
returns-in_default c =
    other-code c.args.p c.args.m (λ e. omega arith) (λ e. omega arith) (λ e. omega arith) (λ e. omega arith) (λ e. omega arith) (λ e. omega arith)
    (λ e. omega arith) (λ e. omega arith) (λ e. omega arith) (λ e. omega arith) (λ e. omega arith)

use Rattle.std.proofs.Common.{◌+◌, arith}
use Rattle.lists.specs.Says.{says-no, said-no}
use Rattle.remember.specs.Entries.{ZeroBetween}
use Rattle.whole.specs.Entries.{zero-on}
use Rattle.whole.proofs.entries.rest_zero.Goals as goal

pub loop-i-init : goal.loop-i-init
loop-i-init c = (omega arith, omega arith, λ k a b. absurd (let z : ⊥ = omega arith in z))

pub overflow_add-i : goal.overflow_add-i
overflow_add-i c = omega arith

pub overflow_add-i-in-loop-i : goal.overflow_add-i-in-loop-i
overflow_add-i-in-loop-i c = omega arith

pub returns-then-not-zero_between : goal.returns-then-not-zero_between
returns-then-not-zero_between c = says-no (λ h. said-no _ c.zero_between.ensures c.if-not-zero_between.true (λ k l m. h k (omega arith) (omega arith)))

pub overflow_add-i-in-loop-i-2 : goal.overflow_add-i-in-loop-i-2
overflow_add-i-in-loop-i-2 c = omega arith

pub loop-i-smaller : goal.loop-i-smaller
loop-i-smaller c = omega arith

pub loop-i-preserved : goal.loop-i-preserved
loop-i-preserved c =
    let args = c.args in
    let loop = c.loop-i in
    (omega arith, omega arith, zero-on args.p.entries args.remember.now args.used loop.i (loop.i + 8) loop.invariant.2 (c.zero_between.ensures.0 c.if-not-zero_between.false))

pub returns : goal.returns
returns c =
    let args = c.args in
    let loop = c.loop-i in
    let rest = c.zero_between-2 in
    let all : ZeroBetween args.p.entries args.remember.now loop.i args.p.entries → ZeroBetween args.p.entries args.remember.now args.used args.p.entries
    = zero-on args.p.entries args.remember.now args.used loop.i args.p.entries loop.invariant.2 in
    (λ e k l m. all (rest.ensures.0 e) k (omega arith) m, λ h. rest.ensures.1 (λ k l m. h k (omega arith) m))

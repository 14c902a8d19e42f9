use Rattle.std.proofs.Common.{ℕ, ◌+◌, ◌/◌, ◌≡◌, refl, sym, ap, ◌∙◌, arith, length}
use Rattle.lists.specs.Counting.{bit, sum, sum_more}
use Rattle.long_list.specs.Repeated.{is_answer, answers_of}
use Rattle.long_list.proofs.count.Goals as goal
use Rattle.long_list.proofs.count.Goals.{then-is_answer, else-is_answer}

pub loop-i-init : goal.loop-i-init
loop-i-init c = (refl, omega arith)

pub loop-i-preserved : goal.loop-i-preserved
loop-i-preserved c =
    let inv = c.loop-i.invariant in
    let f : ℕ → ℕ = λ k. bit (is_answer c.args.answers.now c.args.number c.args.value k) in
    let m : sum f (c.loop-i.i + 1) ≡ sum f c.loop-i.i + f c.loop-i.i = sum_more f c.loop-i.i in
    elim c.if-is_answer.branch [
      | then-is_answer w ↦
          let b : f c.loop-i.i ≡ 1 = ap bit (sym c.is_answer.ensures ∙ w.if-is_answer.true) in
          (omega (arith, m, b, inv.0, w.n-is), omega (arith, inv.1, w.n-is))
      | else-is_answer w ↦
          let b : f c.loop-i.i ≡ 0 = ap bit (sym c.is_answer.ensures ∙ w.if-is_answer.false) in
          (omega (arith, m, b, inv.0, w.n-is), omega (arith, inv.1, w.n-is))
    ]

pub returns : goal.returns
unfolding answers_of
returns c =
    let e : c.loop-i.i ≡ length c.args.answers.now / 2 = omega arith in
    c.loop-i.invariant.0 ∙ ap (sum (λ k. bit (is_answer c.args.answers.now c.args.number c.args.value k))) e

use Rattle.std.proofs.Common.{ℕ, ◌<◌, ◌+◌, List, ◌≡◌, sym, ap, ◌∙◌, subst}
use Rattle.layout.specs.Places.{var_count, var_of}
use Rattle.settle.specs.Rewrite.{forwarded}
use Rattle.settle.specs.RewriteSlots.{Variables, variables-start, variables-next}
use Rattle.settle.proofs.rewrite.rewrite_variables.Goals as goal
use Rattle.settle.proofs.rewrite.rewrite_variables.Goals.{In-loop-i}

pub loop-i-init : goal.loop-i-init
loop-i-init c = variables-start _ _ _

low : (c : goal.In-loop-i) → c.loop-i.i < var_count c.args.p
low c =
    subst (λ (n : ℕ). c.loop-i.i < n) c.var_count-i-end.ensures c.loop-i-test.true

pub loop-i-preserved : goal.loop-i-preserved
loop-i-preserved c =
    let forward-ref = c.forward_ref-x in
    let a = c.args in
    let l = c.loop-i in
    let ev : forward-ref.result ≡ forwarded a.cells.now (var_of a.p l.tables l.i) =
    forward-ref.ensures ∙ ap (λ (x : ℕ). forwarded a.cells.now x) c.var.ensures in
    subst (λ (X : List ℕ). Variables a.p (l.i + 1) a.cells.now a.tables.now X) (sym c.set_var.ensures)
    (variables-next (low (goal.at.loop-i-preserved c).In-loop-i) c.requires.room l.invariant forward-ref.result ev)

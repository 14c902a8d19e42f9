-- Null and references to cells without a forward reference stay.
use Rattle.std.proofs.Common.{◌≡◌, sym, ap, ◌∙◌}
use Rattle.layout.specs.Cells.{work_of, cell_named}
use Rattle.settle.specs.Rewrite.{forward-null, forward-still, forward-moved}
use Rattle.settle.proofs.rewrite.forward_ref.Goals as goal
use Rattle.settle.proofs.rewrite.forward_ref.Goals.{After-work-forward}

-- word 1 of the cell that x names
word : (c : goal.After-work-forward) → (let a = c.args in c.work-forward.result ≡ work_of a.cells.now (cell_named a.x))
word c =
    c.work-forward.ensures ∙ ap (work_of c.args.cells.now) c.cell_named.ensures

pub returns-then-x-eq0 : goal.returns-then-x-eq0
returns-then-x-eq0 c = c.if-x-eq0.true ∙ sym (forward-null _ _ c.if-x-eq0.true)

pub returns-then-forward-eq0 : goal.returns-then-forward-eq0
returns-then-forward-eq0 c = sym (forward-still _ c.args.x (sym (word (goal.at.returns-then-forward-eq0 c).After-work-forward) ∙ c.if-forward-eq0.true))

pub returns : goal.returns
returns c = word (goal.at.returns c).After-work-forward ∙ sym (forward-moved _ c.args.x c.if-x-eq0.false (λ z. c.if-forward-eq0.false (word (goal.at.returns c).After-work-forward ∙ z)))

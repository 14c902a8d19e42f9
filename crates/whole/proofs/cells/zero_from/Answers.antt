use Rattle.std.proofs.Common.{◌∙◌, sym, arith, below_more}
use Rattle.lists.specs.Says.{says-yes, says-no}
use Rattle.layout.specs.Cells.{most-is}
use Rattle.whole.proofs.cells.zero_from.Goals as goal

pub loop-f-init : goal.loop-f-init
loop-f-init c = λ k a b. absurd (let z : ⊥ = omega arith in z)

pub field-requires : goal.field-requires
field-requires c = omega (arith, most-is)

pub returns-then-field-ne0 : goal.returns-then-field-ne0
returns-then-field-ne0 c = says-no (λ h. c.if-field-ne0.true (c.field.ensures ∙ h c.loop-f.f (omega (arith, most-is)) (omega (arith, most-is))))

pub loop-f-preserved : goal.loop-f-preserved
loop-f-preserved c = below_more _ _ c.loop-f.invariant (λ a. sym c.field.ensures ∙ c.if-field-ne0.false)

pub returns : goal.returns
returns c = says-yes (λ k l m. c.loop-f.invariant k (omega (arith, most-is)) m)

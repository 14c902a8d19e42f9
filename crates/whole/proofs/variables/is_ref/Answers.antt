-- A reference names a cell, and the page of the cell says whether it is in use.
use Rattle.std.proofs.Common.{arith}
use borrow.Author.Tests.{lt-ltb, ltb-true}
use Rattle.whole.specs.Cells.{used-ref, ref-page, ref-place}
use Rattle.whole.proofs.variables.is_ref.Goals as goal

pub returns-then-page-p : goal.returns-then-page-p
returns-then-page-p c = (
  λ e. used-ref _ _ _ _ c.cell_named-cell.ensures c.page_of-page.ensures c.place_of.ensures c.used.ensures c.if-page-p.true (ltb-true _ _ e),
  λ h. lt-ltb _ _ (ref-place _ _ _ _ c.cell_named-cell.ensures c.page_of-page.ensures c.place_of.ensures c.used.ensures (omega arith) h),
)

pub returns-else-page-p : goal.returns-else-page-p
returns-else-page-p c = (
  λ e. absurd (let z : ⊥ = omega (arith, ltb-true _ _ e, c.if-page-p.false) in z),
  λ h. lt-ltb _ _ (ref-page _ _ _ _ c.cell_named-cell.ensures c.page_of-page.ensures (omega arith) h),
)

use Rattle.std.proofs.Common.{arith, ℕ, ◌≡◌, subst}
use Rattle.layout.specs.Places.{cells_words}
use Rattle.layout.specs.Cells.{head_at, cell_on}
use Rattle.layout.specs.Objects.{slot-low}
use Rattle.settle.specs.Rewrite.{Rewritten}
use Rattle.retell.specs.SlotStretches.{SlotFrom}
use Rattle.retell.specs.Forwarding.{forwarded-start, forwarded-on, forwarded-all, readable-rest}
use Rattle.retell.proofs.cells.rewrite_cells.Goals as goal

pub loop-page-init : goal.loop-page-init
loop-page-init c = forwarded-start _ 0 _ _

pub rewrite_page-requires-clause-readable : goal.rewrite_page-requires-clause-readable
rewrite_page-requires-clause-readable c = readable-rest c.loop-page.invariant c.requires (omega arith) (omega (arith, c.loop-page-test.true))

pub loop-page-preserved : goal.loop-page-preserved
loop-page-preserved c = forwarded-on c.loop-page.invariant (omega arith) (omega arith) c.rewrite_page.ensures

pub returns : goal.returns
returns c =
    let a = c.args in
    let l = c.loop-page in
    let e : head_at (cell_on l.page 0) ≡ cells_words a.p = omega arith in
    forwarded-all (slot-low a.p a.cells.now a.tables.now) (subst (λ (y : ℕ). Rewritten (SlotFrom a.p 0 y a.cells.now a.tables.now) a.cells.now l.cells) e l.invariant)

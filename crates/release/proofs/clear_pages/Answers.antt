use Rattle.std.proofs.Common.{ℕ, List, length, refl, arith}
use Rattle.lists.specs.Zeros.{cleared-to}
use Rattle.lists.specs.Part.{through-turn, through-end}
use Rattle.release.specs.Emptied.{Emptied, emptied-left, emptied-page}
use Rattle.release.proofs.clear_pages.Goals as goal

pub loop-page-preserved : goal.loop-page-preserved
loop-page-preserved c =
    let a = c.args in
    let h = c.requires.lists in
    let l = c.loop-page in
    let t = c.loop-page-test.true in
    let low = h.rises.low l.page-index t in
    let D : List ℕ → ℕ → Type 0 = (λ X q. Emptied a.p a.region q a.tables.now a.cells.now X) in
    through-turn a.p.pages (length a.list.now) a.list.now (D l.cells) (D c.clear_cells.new.cells) l.page-index _ h.rises t refl l.invariant
    (λ b. emptied-page b low (h.each l.page-index t) (c.requires.regular.pages _ low).cells (cleared-to c.clear_cells.ensures (omega (arith, c.used-used.ensures))))
    (λ q lq off b. emptied-left b (λ z. h.all q lq z off))

pub returns : goal.returns
returns c =
    let a = c.args in
    let l = c.loop-page in
    through-end a.p.pages (length a.list.now) a.list.now (λ q. Emptied a.p a.region q a.tables.now a.cells.now l.cells) l.page-index c.requires.lists.rises l.auto.page-index-end c.loop-page-test.false l.invariant

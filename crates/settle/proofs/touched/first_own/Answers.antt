use Rattle.std.proofs.Common.{arith, get_or, ◌*◌, ◌≡◌, refl, ap, ◌∙◌, subst, ℕ}
use Rattle.layout.specs.Cells.{page_at, cell_words, first_on}
use Rattle.remember.specs.Finding.{Between, found}
use Rattle.settle.specs.Touched.{own-from, own-none}
use Rattle.settle.proofs.touched.first_own.Goals as goal
use Rattle.settle.proofs.touched.first_own.Goals.{After-find_entry-i, In-loop-page}

-- the place that was found is that of the page's first word
place : (c : goal.After-find_entry-i) → (let i = c.find_entry-i.result in Between c.args.remember.now (cell_words * first_on (get_or c.args.list.now c.loop-page.page-index 0)) i i)
place c =
    let i = c.find_entry-i.result in
    let e : 16 * c.cell_on-from.result ≡ cell_words * first_on (get_or c.args.list.now c.loop-page.page-index 0) = omega (arith, c.cell_on-from.ensures) in
    subst (λ (s : ℕ). Between c.args.remember.now s i i) e (found c.requires.table (16 * c.cell_on-from.result) c.find_entry-i.ensures)

pub returns-then-used-i-clause-not_own : goal.returns-then-used-i-clause-not_own
returns-then-used-i-clause-not_own c = λ i l. own-from c.requires.rises c.loop-page-test.true refl (place (goal.at.returns-then-used-i-clause-not_own c).After-find_entry-i) c.loop-page.invariant i (omega (arith, c.if-used-i.true))

pub returns-then-page_at-page-clause-not_own : goal.returns-then-page_at-page-clause-not_own
returns-then-page_at-page-clause-not_own c = own-from c.requires.rises c.loop-page-test.true refl (place (goal.at.returns-then-page_at-page-clause-not_own c).After-find_entry-i) c.loop-page.invariant

pub loop-page-preserved : goal.loop-page-preserved
loop-page-preserved c =
    own-none c.requires.rises c.loop-page-test.true refl (place (goal.at.loop-page-preserved c).After-find_entry-i) c.loop-page.invariant c.requires.table.rising (omega (arith, c.used-used.ensures, c.if-used-i.false))
    (λ q. c.if-page_at-page.false (c.page_at.ensures ∙ ap page_at c.slot-at.ensures ∙ q))

use Rattle.std.proofs.Common.{length, refl}
use Rattle.lists.specs.Part.{cut-here, through-start, through-turn, through-end}
use Rattle.slide.specs.Numbered.{NumberedTo, numbered-all, number-start, number-skips, number-turn}
use Rattle.slide.proofs.number.number_kept.Goals as goal

pub loop-page-init : goal.loop-page-init
loop-page-init c =
    let a = c.args in
    through-start _ _ _ _ (number-skips c.requires.marks_listed a.cells.now a.cells.now 0) (number-start _ _ _ _)

pub number_page-k-requires-clause-page_lt_pages : goal.number_page-k-requires-clause-page_lt_pages
number_page-k-requires-clause-page_lt_pages c =
    let l = c.loop-page in
    let t = c.loop-page-test.true in
    let r = c.requires.marks_listed.rises in
    (r.low l.page-index t, (l.invariant _ (cut-here l.page-index _ r t refl)).count)

pub loop-page-preserved : goal.loop-page-preserved
loop-page-preserved c =
    let a = c.args in
    let l = c.loop-page in
    let m = c.requires.marks_listed in
    let step = c.number_page-k in
    let D = NumberedTo a.p a.list.now a.tables.now a.cells.now in
    through-turn a.p.pages (length a.list.now) a.list.now (D l.cells l.k) (D step.new.cells step.result) l.page-index _ m.rises c.loop-page-test.true refl l.invariant
    (λ f. number-turn _ f step.ensures) (number-skips m a.cells.now step.new.cells step.result)

pub returns : goal.returns
returns c =
    let a = c.args in
    let l = c.loop-page in
    numbered-all (through-end a.p.pages (length a.list.now) a.list.now (NumberedTo a.p a.list.now a.tables.now a.cells.now l.cells l.k) l.page-index c.requires.marks_listed.rises l.auto.page-index-end c.loop-page-test.false l.invariant)

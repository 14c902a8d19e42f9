use Rattle.std.proofs.Common.{length, ℕ, refl, arith, get_or}
use Rattle.lists.specs.Part.{cut-here, through-start, through-turn, through-end}
use Rattle.slide.specs.Slid.{SlidTo, slid-none, slid-all, named-after, slide-skips, slide-turn}
use Rattle.slide.proofs.slide.slide_kept.Goals as goal

pub loop-at-init : goal.loop-at-init
loop-at-init c =
    let a = c.args in
    through-start _ _ _ _ (slide-skips c.requires.marks_listed a.cells.now a.cells.now) (slid-none _ _ _ _ _)

pub slide_page-requires-clause-named_from : goal.slide_page-requires-clause-named_from
slide_page-requires-clause-named_from c =
    let l = c.loop-at in
    let t = c.loop-at-test.true in
    let m = c.requires.marks_listed in
    named-after m (omega arith) (omega (arith, m.rises.low l.at t)) c.requires.named_from (l.invariant _ (cut-here l.at _ m.rises t refl))

pub loop-at-preserved : goal.loop-at-preserved
loop-at-preserved c =
    let a = c.args in
    let l = c.loop-at in
    let t = c.loop-at-test.true in
    let m = c.requires.marks_listed in
    let step = c.slide_page in
    let page : ℕ = get_or a.list.now l.at 0 in
    let D = SlidTo a.p a.list.now a.tables.now a.cells.now in
    through-turn a.p.pages (length a.list.now) a.list.now (D l.cells) (D step.new.cells) l.at page m.rises t refl l.invariant
    (λ f. slide-turn page m (m.rises.low l.at t) f step.ensures) (slide-skips m a.cells.now step.new.cells)

pub returns : goal.returns
returns c =
    let a = c.args in
    let l = c.loop-at in
    slid-all (through-end a.p.pages (length a.list.now) a.list.now (SlidTo a.p a.list.now a.tables.now a.cells.now l.cells) l.at c.requires.marks_listed.rises l.auto.at-end c.loop-at-test.false l.invariant)

use Rattle.std.proofs.Common.{ℕ, ◌≡◌, length, min, refl, ap, ◌∙◌, subst, arith}
use Rattle.layout.specs.Cells.{page_cells}
use Rattle.slide.specs.Trimmed.{Trimmed, left_for, trim-turn}
use Rattle.slide.proofs.trim.trim_pages.Goals as goal

pub loop-page-preserved : goal.loop-page-preserved
loop-page-preserved c =
    let a = c.args in
    let l = c.loop-page in
    let e : c.min-left.result ≡ left_for a.kept l.page-index = c.min-left.ensures ∙ ap (λ (x : ℕ). min x page_cells) l.invariant.0 in (
      omega (arith, l.invariant.0, c.min-left.ensures),
      trim-turn c.requires.room c.requires.rises c.loop-page-test.true l.invariant.1 _ c.min-left.result c.used-used.result refl e c.used-used.ensures c.trim_cells.ensures c.trim_words.ensures,
    )

pub returns : goal.returns
returns c =
    let a = c.args in
    let l = c.loop-page in
    subst (λ (x : ℕ). Trimmed a.p a.list.now x a.kept a.cells.now a.tables.now l.cells l.tables) (let e : l.page-index ≡ length a.list.now = omega (arith, l.auto.page-index-end, c.loop-page-test.false) in e) l.invariant.1

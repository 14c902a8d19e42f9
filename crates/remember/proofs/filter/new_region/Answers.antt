-- The entry goes with its slot, stays where it leads elsewhere, and else leads where its slot now does.
use Rattle.std.proofs.Common.{get_or, ℕ, List, ◌≡◌, sym, ap, ◌∙◌}
use Rattle.rules.specs.declared.Sizes.{Sizes}
use Rattle.layout.specs.Places.{owner_of}
use Rattle.layout.specs.Cells.{page_at}
use Rattle.remember.specs.Crossing.{crosses_from}
use Rattle.remember.specs.Staying.{new-gone, new-stays, new-moved}
use Rattle.remember.proofs.filter.new_region.Goals as goal

home : (p : Sizes) (T : List ℕ) (at w q : ℕ) → q ≡ page_at at → w ≡ owner_of p T q → owner_of p T (page_at at) ≡ w
home p T at w q e f = ap (λ (y : ℕ). owner_of p T y) (sym e) ∙ sym f

pub returns-then-from-region : goal.returns-then-from-region
returns-then-from-region c =
    let a = c.args in
    new-gone a.p a.region _ a.tables.now a.at _ (home a.p a.tables.now a.at c.owner-from.result c.page_at.result c.page_at.ensures c.owner-from.ensures ∙ c.if-from-region.true)

pub returns-then-g-region : goal.returns-then-g-region
returns-then-g-region c =
    let page-at = c.page_at in
    let a = c.args in
    new-stays _ _ _ _ _ _ (λ z. c.if-from-region.false (sym (home a.p a.tables.now a.at c.owner-from.result page-at.result page-at.ensures c.owner-from.ensures) ∙ z)) c.if-g-region.true

pub returns : goal.returns
returns c =
    let page-at = c.page_at in
    let owner = c.owner-from in
    let a = c.args in
    let e = home a.p a.tables.now a.at owner.result page-at.result page-at.ensures owner.ensures in
    c.cross.ensures ∙ ap (λ (y : ℕ). crosses_from a.p a.tables.now y (get_or a.cells.now a.at 0)) (sym e)
    ∙ new-moved _ _ _ _ _ _ (λ z. c.if-from-region.false (sym e ∙ z)) c.if-g-region.false

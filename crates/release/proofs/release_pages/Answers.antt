use Rattle.std.proofs.Common.{ℕ, ◌+◌, List, length, set, sym, refl, ap, ◌∙◌, subst, get_or}
use Rattle.lists.specs.Part.{through-turn, through-end}
use Rattle.layout.specs.Places.{used_at, mark_at}
use Rattle.release.specs.Release.{Released, release-left, release-page}
use Rattle.release.proofs.release_pages.Goals as goal

pub loop-page-preserved : goal.loop-page-preserved
loop-page-preserved c =
    let a = c.args in
    let h = c.requires.lists in
    let l = c.loop-page in
    let t = c.loop-page-test.true in
    let x : ℕ = get_or a.list.now l.page-index 0 in
    let D : List ℕ → ℕ → Type 0 = (λ X q. Released a.p a.region q a.tables.now X) in
    let e = c.set_mark.ensures ∙ ap (λ (X : List ℕ). set X (mark_at a.p x) 0) (c.set_used.ensures ∙ ap (λ (X : List ℕ). set X (used_at a.p x) 0) c.set_owner.ensures) in
    through-turn a.p.pages (length a.list.now) a.list.now (D l.tables) (D c.set_mark.new.tables) l.page-index x h.rises t refl l.invariant
    (λ b. subst (λ (X : List ℕ). D X (x + 1)) (sym e) (release-page c.requires.room (h.rises.low l.page-index t) b (h.each l.page-index t)))
    (λ q lq off b. release-left c.requires.room lq b (λ z. h.all q lq z off))

pub returns : goal.returns
returns c =
    let a = c.args in
    let l = c.loop-page in
    through-end a.p.pages (length a.list.now) a.list.now (λ q. Released a.p a.region q a.tables.now l.tables) l.page-index c.requires.lists.rises l.auto.page-index-end c.loop-page-test.false l.invariant

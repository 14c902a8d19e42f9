use Rattle.std.proofs.Common.{ℕ, ◌<◌, ◌+◌, ◌≡◌, refl, sym, ap, ◌∙◌, arith, get_or, length}
use lib.Count.{ones}
use Rattle.lists.specs.Part.{cut-here, through-start, through-turn}
use Rattle.layout.specs.Places.{mark_of}
use Rattle.census.specs.Survivors.{survivors_in, survivors-few, survivors-more, survivors-skip}
use Rattle.census.proofs.survivors.count_survivors.Goals as goal
use Rattle.census.proofs.survivors.count_survivors.Goals.{After-mark, In-loop-page}

-- the page that the turn is at
abbrev page : goal.In-loop-page → ℕ
page c = get_or c.args.list.now c.loop-page.page-index 0

low : (c : goal.In-loop-page) → page c < c.args.p.pages
low c = c.requires.rises.low c.loop-page.page-index (omega arith)

here : (c : goal.In-loop-page) → c.loop-page.k ≡ survivors_in c.args.p c.args.tables.now (page c)
here c = c.loop-page.invariant (page c) (cut-here c.loop-page.page-index (page c) c.requires.rises (omega arith) refl)

-- and its survivors with those before it
more : (c : goal.After-mark) → (x : ℕ) → x ≡ get_or c.args.list.now c.loop-page.page-index 0 → x < c.args.p.pages → c.loop-page.k ≡ survivors_in c.args.p c.args.tables.now x
    → c.loop-page.k + ones c.mark.result ≡ survivors_in c.args.p c.args.tables.now (x + 1)
more c x y l e =
    let a = c.args in
    let m : c.mark.result ≡ mark_of a.p a.tables.now x = c.mark.ensures ∙ ap (mark_of a.p a.tables.now) (sym y) in
    survivors-more a.p a.tables.now x c.mark.result (ones c.mark.result) c.loop-page.k m
    (omega (arith, m, c.requires.small x l)) (omega arith) e

pub loop-page-init : goal.loop-page-init
loop-page-init c =
    let a = c.args in
    through-start _ _ _ _ (λ q l off e. survivors-skip a.p a.tables.now q 0 (c.requires.by_index q l off) e) (omega arith)

pub overflow_add-k : goal.overflow_add-k
overflow_add-k c =
    let a = c.args in
    let at = (goal.at.overflow_add-k c).In-loop-page in
    omega (arith, more (goal.at.overflow_add-k c).After-mark (page at) refl (low at) (here at), survivors-few a.p a.tables.now (page at + 1), low at, c.requires.room.few)

pub loop-page-preserved : goal.loop-page-preserved
loop-page-preserved c =
    let a = c.args in
    let loop = c.loop-page in
    let at = (goal.at.loop-page-preserved c).In-loop-page in
    through-turn a.p.pages (length a.list.now) a.list.now (λ b. loop.k ≡ survivors_in a.p a.tables.now b) (λ b. loop.k + ones c.mark.result ≡ survivors_in a.p a.tables.now b)
    loop.page-index (page at) c.requires.rises (omega arith) refl loop.invariant (λ e. more (goal.at.loop-page-preserved c).After-mark (page at) refl (low at) (here at))
    (λ q l off e. survivors-skip a.p a.tables.now q (loop.k + ones c.mark.result) (c.requires.by_index q l off) e)

use Rattle.std.proofs.Common.{ℕ, ◌<◌, ◌+◌, refl, ◌∙◌, arith, get_or, length}
use Rattle.lists.specs.Part.{cut-here, through-start, through-turn, through-end}
use Rattle.census.specs.Census.{Census, over-high, census-start, census-turn, census-skip}
use Rattle.census.proofs.count.count_listed.Goals as goal
use Rattle.census.proofs.count.count_listed.Goals.{In-loop-page}

-- the page that the turn is at
abbrev page : goal.In-loop-page → ℕ
page c = get_or c.args.list.now c.loop-page.page-index 0

low : (c : goal.In-loop-page) → page c < c.args.p.pages
low c = c.requires.rises.low c.loop-page.page-index (omega arith)

here : (c : goal.In-loop-page) → Census c.args.p c.args.cells.now c.args.tables.now (page c) c.loop-page.come c.loop-page.k
here c = c.loop-page.invariant.1 (page c) (cut-here c.loop-page.page-index (page c) c.requires.rises (omega arith) refl)

pub loop-page-init : goal.loop-page-init
loop-page-init c =
    (refl, through-start _ _ _ _ (λ q l off d. census-skip q 0 c.args.come.now (c.requires.by_index q l off) d) (census-start c.args.come.now c.requires.by_index_4))

pub count_page-k-requires-clause-by_index_3 : goal.count_page-k-requires-clause-by_index_3
count_page-k-requires-clause-by_index_3 c =
    let a = c.args in
    let at = (goal.at.count_page-k-requires-clause-by_index_3 c).In-loop-page in
    let x = page at in
    let l = low at in
    let h = here at in
    λ g. omega (arith, h.arrivals g, over-high a.p a.cells.now a.tables.now g x)

pub overflow_add-k : goal.overflow_add-k
overflow_add-k c = omega (arith, (here (goal.at.overflow_add-k c).In-loop-page).few, low (goal.at.overflow_add-k c).In-loop-page, c.count_page-k.ensures.upper_bound, c.requires.shaped.room)

pub loop-page-preserved : goal.loop-page-preserved
loop-page-preserved c =
    let a = c.args in
    let loop = c.loop-page in
    let counted = c.count_page-k in
    (counted.auto.come ∙ loop.invariant.0, through-turn a.p.pages (length a.list.now) a.list.now (λ b. Census a.p a.cells.now a.tables.now b loop.come loop.k) (λ b. Census a.p a.cells.now a.tables.now b _ (loop.k + counted.result)) loop.page-index _ c.requires.rises (omega arith) refl loop.invariant.1 (λ d. census-turn _ c.mark-w.result counted.result c.mark-w.ensures counted.ensures.by_index_4 counted.ensures.value counted.ensures.upper_bound d) (λ q l off d. census-skip q _ _ (c.requires.by_index q l off) d))

pub returns : goal.returns
returns c = through-end c.args.p.pages (length c.args.list.now) c.args.list.now _ c.loop-page.page-index c.requires.rises (omega arith) (omega arith) c.loop-page.invariant.1

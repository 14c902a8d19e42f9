use Rattle.std.proofs.Common.{ℕ, ◌<◌, refl, ◌∙◌, arith, get_or, length}
use Rattle.lists.specs.Part.{through-start, through-turn, through-end, cut-here}
use Rattle.mark.specs.Unmark.{unmark-start, unmark-word, unmark-turn, unmark-skips}
use Rattle.mark.proofs.unmark.unmark.Goals as goal
use Rattle.mark.proofs.unmark.unmark.Goals.{In-loop-page}

-- the page that the turn is at
abbrev page : goal.In-loop-page → ℕ
page c = get_or c.args.list.now c.loop-page.page-index 0

low : (c : goal.In-loop-page) → page c < c.args.p.pages
low c = c.requires.rises.low c.loop-page.page-index (omega arith)

pub loop-page-init : goal.loop-page-init
loop-page-init c =
    let args = c.args in
    (refl, refl, through-start _ _ _ _ (unmark-skips _ (length args.list.now) args.list.now _ _ _ _ (omega (arith, c.requires.room)) c.requires.by_index) (unmark-start _ _ _))

pub unmark_page-requires : goal.unmark_page-requires
unmark_page-requires c =
    let loop = c.loop-page in
    let at = (goal.at.unmark_page-requires c).In-loop-page in
    let l = low at in
    let u = loop.invariant.2 (page at) (cut-here loop.page-index (page at) c.requires.rises (omega arith) refl) in
    (omega (arith, c.mark.ensures, unmark-word u, c.requires.small (page at) l), omega (arith, c.requires.room), omega (arith, c.requires.p_in_bounds, loop.invariant.0))

pub loop-page-preserved : goal.loop-page-preserved
loop-page-preserved c =
    let args = c.args in
    let loop = c.loop-page in
    let at = (goal.at.loop-page-preserved c).In-loop-page in
    let l = low at in
    let cleared = c.unmark_page.ensures in
    let set = c.set_mark in (
      cleared.cells-length ∙ loop.invariant.0,
      set.auto.tables ∙ loop.invariant.1,
      through-turn _ _ _ _ _ loop.page-index (page at) c.requires.rises (omega arith) refl loop.invariant.2 (λ u. unmark-turn (omega (arith, c.requires.room, l)) c.mark.ensures u cleared set.ensures) (unmark-skips _ (length args.list.now) args.list.now _ _ _ _ (omega (arith, c.requires.room)) c.requires.by_index),
    )

pub returns : goal.returns
returns c = through-end _ _ _ _ c.loop-page.page-index c.requires.rises (omega arith) (omega arith) c.loop-page.invariant.2

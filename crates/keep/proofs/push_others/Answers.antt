use Rattle.std.proofs.Common.{refl, arith}
use Rattle.mark.specs.Pushes.{Pushing.none, pushing-kept}
use Rattle.keep.specs.Others.{page-asks, pages-read}
use Rattle.keep.proofs.push_others.Goals as goal

pub loop-page-init : goal.loop-page-init
loop-page-init c = (refl, refl, none)

pub push_page-t-requires : goal.push_page-t-requires
push_page-t-requires c =
    let loop = c.loop-page in
    let both = page-asks loop.page c.requires.shaped loop.invariant.2 (omega arith) (c.requires.by_index loop.page (omega arith)) in
    record { shaped = both.0; page_lt_pages = both.1 }

pub loop-page-preserved : goal.loop-page-preserved
loop-page-preserved c =
    let loop = c.loop-page in
    let h = pages-read loop.page c.requires.shaped loop.invariant.2 c.push_page-t.ensures in
    let k = pushing-kept c.requires.shaped h in (k.cells-length, k.tables-length, h)

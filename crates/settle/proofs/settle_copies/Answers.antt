use Rattle.std.proofs.Common.{arith, refl}
use Rattle.lists.specs.Part.{cut-here, through-start, through-turn, through-end}
use Rattle.settle.specs.RewriteCopies.{pages_split, second-wired}
use Rattle.settle.specs.Settle.{settled-none, second-settling, second-settled, settled-skips}
use Rattle.settle.proofs.settle_copies.Goals as goal

pub loop-page-init : goal.loop-page-init
loop-page-init c =
    through-start _ _ _ _ (settled-skips _ c.args.list.now c.requires.wiring c.requires.by_index) (settled-none _ _ _ _ _ _ _ c.requires.settling.low (λ x q. omega (arith, q.among)))

pub settle_page-i-requires : goal.settle_page-i-requires
settle_page-i-requires c =
    let l = c.loop-page in
    let split = pages_split (c.requires.rises.low l.page-index c.loop-page-test.true) in
    let h = l.invariant _ (cut-here l.page-index _ c.requires.rises c.loop-page-test.true refl) in record {
      wiring = second-wired c.requires.wiring split h.rewritten;
      settling = second-settling c.requires.wiring split h c.requires.settling;
      page_lt_pages = c.requires.rises.low l.page-index c.loop-page-test.true;
    }

pub loop-page-preserved : goal.loop-page-preserved
loop-page-preserved c =
    let l = c.loop-page in
    let split = pages_split (c.requires.rises.low l.page-index c.loop-page-test.true) in
    through-turn _ _ _ _ _ l.page-index _ c.requires.rises c.loop-page-test.true refl l.invariant (λ h. second-settled c.requires.wiring split h c.settle_page-i.ensures)
    (settled-skips _ c.args.list.now c.requires.wiring c.requires.by_index)

pub returns : goal.returns
returns c = through-end _ _ _ _ c.loop-page.page-index c.requires.rises (omega arith) (omega arith) c.loop-page.invariant

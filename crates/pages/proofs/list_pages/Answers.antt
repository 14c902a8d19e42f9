use Rattle.std.proofs.Common.{◌≡◌, arith, sym, ap, ◌∙◌}
use Rattle.rules.specs.Graph.{pages_of}
use Rattle.promises.specs.OwnedPages.{owned_in}
use Rattle.pages.specs.Listing.{listing_start, listing-skip, listing-take, listing-end}
use Rattle.pages.proofs.list_pages.Goals as goal

pub loop-page-init : goal.loop-page-init
loop-page-init c =
    listing_start c.args.p c.args.tables.now c.args.region c.pages_for-n.result c.args.list.now
    (c.pages_for-n.ensures ∙ ap pages_of c.count-objects.ensures ∙ sym c.requires.pages_value) c.requires.pages_in_bounds

pub loop-page-preserved-then-owner-region : goal.loop-page-preserved-then-owner-region
loop-page-preserved-then-owner-region c = listing-take c.loop-page.invariant (omega arith) c.owner.result c.owner.ensures c.if-owner-region.true

pub loop-page-preserved : goal.loop-page-preserved
loop-page-preserved c = listing-skip c.loop-page.invariant (omega arith) c.owner.result c.owner.ensures c.if-owner-region.false

pub returns-after-loop-page : goal.returns-after-loop-page
returns-after-loop-page c =
    listing-end (c.loop-page.invariant.rest ∙ ap (owned_in c.args.p c.args.tables.now c.args.region) (let z : c.loop-page.page ≡ 0 = omega arith in z)) c.loop-page.invariant

pub returns-then-left-eq0 : goal.returns-then-left-eq0
returns-then-left-eq0 c = listing-end c.if-left-eq0.true c.loop-page.invariant

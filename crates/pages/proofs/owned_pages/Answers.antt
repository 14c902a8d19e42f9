use Rattle.std.proofs.Common.{sym, ◌∙◌, arith}
use Rattle.lists.specs.Counting.{sum_more}
use Rattle.promises.specs.OwnedPages.{owned_one, owned-few, owned-yes, owned-no}
use Rattle.pages.proofs.owned_pages.Goals as goal
use Rattle.pages.proofs.owned_pages.Goals.{then-owner-g, else-owner-g}

pub overflow_add-n : goal.overflow_add-n
overflow_add-n c = omega (arith, owned-few c.args.p c.args.tables.now c.args.g c.loop-page.page, c.requires.few)

pub loop-page-preserved : goal.loop-page-preserved
loop-page-preserved c =
    let a = c.args in
    let page = c.loop-page.page in
    let m = sum_more (owned_one a.p a.tables.now a.g) page in
    elim c.if-owner-g.branch [
      | then-owner-g w ↦ omega (arith, m, owned-yes a.p a.tables.now a.g page (sym c.owner.ensures ∙ w.if-owner-g.true))
      | else-owner-g w ↦ omega (arith, m, owned-no a.p a.tables.now a.g page (λ z. w.if-owner-g.false (c.owner.ensures ∙ z)))
    ]

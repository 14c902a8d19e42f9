-- A slot inside r counts with the survivors.
use Rattle.std.proofs.Common.{ℕ, Bool, not, sym, ap, ◌∙◌, subst, eq-eqb, get_or}
use Rattle.lists.specs.Counting.{bit}
use Rattle.layout.specs.Places.{slot_in}
use Rattle.layout.specs.Cells.{page_at}
use Rattle.promises.specs.Whole.{IsRef}
use Rattle.mark.specs.Holders.{slot-ref}
use Rattle.census.specs.After.{slot-in, slot-out}
use Rattle.census.proofs.crossing.cross_entry.Goals as goal

pub returns-else-home-r : goal.returns-else-home-r
returns-else-home-r c =
    let args = c.args in
    ap (λ (b : Bool). bit (not b)) (eq-eqb c.owner-home.result args.r c.if-home-r.false)
    ∙ slot-in args.p args.cells.now args.tables.now args.r (slot_in args.remember.now args.i) _ _ (c.page_at.ensures ∙ ap page_at c.slot-at.ensures) c.owner-home.ensures c.if-home-r.false

pub crosses-requires-clause-fact : goal.crosses-requires-clause-fact
crosses-requires-clause-fact c =
    let args = c.args in
    subst (λ (z : ℕ). IsRef args.p args.cells.now args.tables.now (get_or args.cells.now z 0)) (sym c.slot-at.ensures) (slot-ref c.requires.holding c.requires.shaped args.i c.requires.i_bound)

pub returns-then-home-r : goal.returns-then-home-r
returns-then-home-r c =
    let args = c.args in
    slot-out args.p args.cells.now args.tables.now args.r (slot_in args.remember.now args.i) _ _ _ _ (c.page_at.ensures ∙ ap page_at c.slot-at.ensures) c.owner-home.ensures c.if-home-r.true (ap (λ (z : ℕ). get_or args.cells.now z 0) c.slot-at.ensures) c.crosses.ensures

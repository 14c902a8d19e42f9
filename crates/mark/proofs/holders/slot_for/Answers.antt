-- The slot of an entry that points into r is held for g if g is what it calls for.
use Rattle.std.proofs.Common.{refl, sym, ap, ◌∙◌, ℕ, get_or}
use Rattle.mark.specs.Holders.{slot-none, slot-some, slot-call}
use Rattle.mark.proofs.holders.slot_for.Goals as goal

pub returns-then-join-g : goal.returns-then-join-g
returns-then-join-g c =
    let args = c.args in
    slot-none args.p args.cells.now args.remember.now args.tables.now args.r args.g args.i c.requires.i_lt_entries.2 (λ e. c.if-join-g.true (slot-call args.p args.cells.now args.remember.now args.tables.now args.r args.g args.i _ _ _ _ _ c.slot-at.ensures refl c.page_at.ensures c.owner-home.ensures c.join.ensures ∙ e))

pub returns : goal.returns
returns c =
    let args = c.args in
    ap (λ (z : ℕ). get_or args.cells.now z 0) c.slot-at.ensures ∙ slot-some args.p args.cells.now args.remember.now args.tables.now args.r args.g args.i c.requires.i_lt_entries.2 (sym (slot-call args.p args.cells.now args.remember.now args.tables.now args.r args.g args.i _ _ _ _ _ c.slot-at.ensures refl c.page_at.ensures c.owner-home.ensures c.join.ensures) ∙ c.if-join-g.false)

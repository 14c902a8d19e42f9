-- The table follows first; where it has no room nothing is stored.
use Rattle.std.proofs.Common.{◌≡◌, ℕ, ◌-◌, ap, ◌∙◌, ap₂}
use Rattle.layout.specs.Places.{owner_of}
use Rattle.layout.specs.Cells.{page_of}
use Rattle.remember.specs.Crossing.{crosses_from}
use Rattle.commands.specs.Storing.{Seen, slot-few}
use Rattle.commands.proofs.store.store_slot.Goals as goal
use Rattle.commands.proofs.store.store_slot.Goals.{After-field_position-at}

seen : (c : goal.After-field_position-at) → (let a = c.args in Seen a.p a.cells.now a.tables.now a.x a.f a.v c.field_position-at.result c.cross-was.result c.cross-will.result)
seen c =
    let a = c.args in
    let cell = c.cell_named in
    let page = c.page_of-page in
    let owner = c.owner-from in
    let old = c.read_field-old in
    let home : owner.result ≡ owner_of a.p a.tables.now (page_of (a.x - 1)) =
    owner.ensures ∙ ap (owner_of a.p a.tables.now) (page.ensures ∙ ap page_of cell.ensures) in
    record {
      slot = c.field_position-at.ensures;
      before = c.cross-was.ensures ∙ ap₂ (crosses_from a.p a.tables.now) home old.ensures;
      after = c.cross-will.ensures ∙ ap (λ (g : ℕ). crosses_from a.p a.tables.now g a.v) home;
    }

pub remember_slot-requires-clause-at_bound : goal.remember_slot-requires-clause-at_bound
remember_slot-requires-clause-at_bound c =
    let args = c.args in
    let pre = c.requires.storing in
    let slot = seen (goal.at.remember_slot-requires-clause-at_bound c).After-field_position-at in
    (slot-few args.p args.cells.now args.remember.now args.tables.now args.x args.f args.v _ _ _ slot pre, rw slot.after pre.low)

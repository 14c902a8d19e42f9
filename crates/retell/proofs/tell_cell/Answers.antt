use Rattle.std.proofs.Common.{arith, ℕ, ◌<◌, ◌+◌, List, ◌≢◌, ◌≡◌, sym, ap, ◌∙◌, subst, subst₂}
use Rattle.layout.specs.Places.{owner_of}
use Rattle.layout.specs.Cells.{head_at, field_at, field_count, refs_of, page_of, most_fields, field-high}
use Rattle.layout.specs.declared.Kind.TheVariants.{Reference}
use Rattle.layout.specs.Objects.{begins-page}
use Rattle.layout.specs.Words.{Names}
use Rattle.retell.specs.SlotStretches.{own-names, cell-readable}
use Rattle.retell.specs.RetellingSlots.{SlotsTold, fields-start, fields-end, entry-fits, entry-told, entry-none}
use Rattle.retell.proofs.tell_cell.Goals as goal
use Rattle.retell.proofs.tell_cell.Goals.{then-to-ne0, else-to-ne0}
use Rattle.retell.proofs.tell_cell.Goals.{After-cross-to, In-loop-f}

-- f is a reference field
lt : (c : goal.In-loop-f) → c.loop-f.f < refs_of c.args.cells.now c.args.cell
lt c =
    omega (arith, c.field_count-n.ensures ∙ ap (field_count Reference) c.head.ensures)

few : (c : goal.In-loop-f) → c.loop-f.f < most_fields
few c =
    omega (arith, c.field_count-n.ensures ∙ ap (field_count Reference) c.head.ensures, c.requires.slots_telling.readable.few c.args.cell c.requires.begins)

-- the region of the cell
region : (c : goal.In-loop-f) → c.owner-from.result ≡ owner_of c.args.p c.args.tables.now (page_of c.args.cell)
region c =
    c.owner-from.ensures ∙ ap (λ (q : ℕ). owner_of c.args.p c.args.tables.now q) c.page_of.ensures

-- there is room for the entry of a slot that crosses
roomy : (c : goal.After-cross-to) → c.cross-to.result ≢ 0 → c.loop-f.i < c.args.p.entries
roomy c ne =
    entry-fits c.args.cell c.requires.slots_telling c.loop-f.invariant c.requires.begins (omega (arith, c.field_count-n.ensures ∙ ap (field_count Reference) c.head.ensures)) c.field.result _ c.cross-to.result c.field.ensures
    (c.owner-from.ensures ∙ ap (λ (q : ℕ). owner_of c.args.p c.args.tables.now q) c.page_of.ensures) c.cross-to.ensures ne

pub head-requires : goal.head-requires
head-requires c = (cell-readable c.args.cell c.requires.begins c.requires.slots_telling.readable).inside

pub owner-from-requires : goal.owner-from-requires
owner-from-requires c =
    let a = c.args in record {
      room = c.requires.slots_telling.readable.tables-long;
      page_lt_pages = omega (arith, begins-page a.p a.cells.now a.tables.now a.cell c.requires.begins, c.page_of.ensures);
    }

pub loop-f-init : goal.loop-f-init
loop-f-init c =
    fields-start c.args.cell c.requires.slots_telling

pub field-requires : goal.field-requires
field-requires c = ((cell-readable c.args.cell c.requires.begins c.requires.slots_telling.readable).inside, few (goal.at.field-requires c).In-loop-f)

pub cross-to-requires-clause-names : goal.cross-to-requires-clause-names
cross-to-requires-clause-names c =
    let a = c.args in
    let r = c.requires.slots_telling.readable in subst (λ (x : ℕ). Names a.p x) (sym c.field.ensures) (own-names a.cell c.loop-f.f c.requires.begins (r.few a.cell c.requires.begins) (lt (goal.at.cross-to-requires-clause-names c).In-loop-f) r)

pub field_at-requires : goal.field_at-requires
field_at-requires c = ((cell-readable c.args.cell c.requires.begins c.requires.slots_telling.readable).inside.0, few (goal.at.field_at-requires c).In-loop-f)

pub overflow_cast-field_at : goal.overflow_cast-field_at
overflow_cast-field_at c =
    omega (arith, c.field_at.ensures, field-high c.args.cell c.loop-f.f (cell-readable c.args.cell c.requires.begins c.requires.slots_telling.readable).inside.0 (few (goal.at.overflow_cast-field_at c).In-loop-f))

pub put_entry-requires-clause-i_lt_entries : goal.put_entry-requires-clause-i_lt_entries
put_entry-requires-clause-i_lt_entries c = roomy (goal.at.put_entry-requires-clause-i_lt_entries c).After-cross-to (λ z. omega (arith, c.if-to-ne0.true))

pub loop-f-preserved : goal.loop-f-preserved
loop-f-preserved c =
    let a = c.args in
    let l = c.loop-f in
    let n = lt (goal.at.loop-f-preserved c).In-loop-f in
    let w = region (goal.at.loop-f-preserved c).In-loop-f in
    let P : List ℕ → ℕ → Type 0 = (λ X y. SlotsTold a.p (head_at a.cell) (field_at a.cell (l.f + 1)) a.cells.now a.remember.now a.tables.now a.j X y) in
    elim c.if-to-ne0.branch [
      | then-to-ne0 z ↦ subst₂ P (sym (z.remember-is ∙ z.put_entry.ensures)) (sym z.i-is)
          (entry-told a.cell c.requires.slots_telling l.invariant c.requires.begins n c.field.result _ c.cross-to.result c.field.ensures w c.cross-to.ensures z.field_at.result z.field_at.ensures (λ y. omega (arith, z.if-to-ne0.true)))
      | else-to-ne0 z ↦ subst₂ P (sym z.remember-is) (sym z.i-is)
          (entry-none a.cell c.requires.slots_telling l.invariant c.requires.begins n c.field.result _ c.cross-to.result c.field.ensures w c.cross-to.ensures (omega (arith, z.if-to-ne0.false)))
    ]

pub returns : goal.returns
returns c =
    let e : c.field_count-n.result ≡ refs_of c.args.cells.now c.args.cell = c.field_count-n.ensures ∙ ap (field_count Reference) c.head.ensures in
    fields-end c.args.cell c.requires.slots_telling c.loop-f.invariant (omega (arith, e)) (omega (arith, e, c.requires.slots_telling.readable.few c.args.cell c.requires.begins))

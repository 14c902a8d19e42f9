use Rattle.std.proofs.Common.{arith, ℕ, ◌<◌, ◌+◌, List, ◌≡◌, sym, ap, ◌∙◌, subst}
use mathlib.Core.Path.{subst₃}
use Rattle.layout.specs.Places.{owner_of}
use Rattle.layout.specs.Cells.{field_count, field_of, page_of, refs_of, cell_in, field-high}
use Rattle.layout.specs.declared.Kind.TheVariants.{Reference}
use Rattle.settle.specs.Rewrite.{forwarded}
use Rattle.settle.specs.RewriteSlots.{Field}
use Rattle.settle.specs.Settle.{Settled, settled-none, moved-names, field_fits, field-comes, field-stays}
use Rattle.settle.proofs.settle_cell.Goals as goal
use Rattle.settle.proofs.settle_cell.Goals.{then-to-ne0, else-to-ne0}
use Rattle.settle.proofs.settle_cell.Goals.{After-forward_ref-x, In-loop-f, Then-to-ne0}

-- f is a reference field
lt : (c : goal.In-loop-f) → c.loop-f.f < refs_of c.args.cells.now c.args.cell
lt c =
    omega (arith, c.field_count-n.ensures ∙ ap (field_count Reference) c.head.ensures)

-- the region of the cell
region : (c : goal.In-loop-f) → c.owner-from.result ≡ owner_of c.args.p c.args.tables.now (page_of c.args.cell)
region c =
    c.owner-from.ensures ∙ ap (λ (q : ℕ). owner_of c.args.p c.args.tables.now q) c.page_of.ensures

-- the forwarded reference
moved : (c : goal.After-forward_ref-x) → (let a = c.args in let l = c.loop-f in c.forward_ref-x.result ≡ forwarded l.cells (field_of l.cells a.cell l.f))
moved c =
    c.forward_ref-x.ensures ∙ ap (λ (x : ℕ). forwarded c.loop-f.cells x) c.field.ensures

-- there is room for the entry of a slot that crosses
roomy : (c : goal.Then-to-ne0) → c.loop-f.i < c.args.p.entries
roomy c =
    field_fits c.requires.fields c.requires.settling (omega (arith, c.field_count-n.ensures ∙ ap (field_count Reference) c.head.ensures)) c.loop-f.invariant c.forward_ref-x.result _ c.cross-to.result
    (c.forward_ref-x.ensures ∙ ap (λ (x : ℕ). forwarded c.loop-f.cells x) c.field.ensures)
    (c.owner-from.ensures ∙ ap (λ (q : ℕ). owner_of c.args.p c.args.tables.now q) c.page_of.ensures) c.cross-to.ensures (λ z. omega (arith, c.if-to-ne0.true))

pub loop-f-init : goal.loop-f-init
loop-f-init c =
    settled-none _ _ _ _ _ _ _ c.requires.settling.low (λ x q. omega (arith, q.low))

pub cross-to-requires-clause-names : goal.cross-to-requires-clause-names
cross-to-requires-clause-names c = moved-names c.requires.fields c.requires.settling (lt (goal.at.cross-to-requires-clause-names c).In-loop-f) c.loop-f.invariant c.forward_ref-x.result (moved (goal.at.cross-to-requires-clause-names c).After-forward_ref-x)

pub overflow_cast-field_at : goal.overflow_cast-field_at
overflow_cast-field_at c =
    let a = c.args in
    omega (arith, c.field_at.ensures, field-high a.cell c.loop-f.f (cell_in a.p c.requires.room.few c.requires.fields.cells-long c.requires.fields.page).0 (omega (arith, lt (goal.at.overflow_cast-field_at c).In-loop-f, c.requires.fields.few)))

pub put_entry-requires-clause-i_lt_entries : goal.put_entry-requires-clause-i_lt_entries
put_entry-requires-clause-i_lt_entries c = roomy (goal.at.put_entry-requires-clause-i_lt_entries c).Then-to-ne0

pub loop-f-preserved : goal.loop-f-preserved
loop-f-preserved c =
    let a = c.args in
    let l = c.loop-f in
    let n = lt (goal.at.loop-f-preserved c).In-loop-f in
    let w = region (goal.at.loop-f-preserved c).In-loop-f in
    let v = c.cross-to in
    let ev = moved (goal.at.loop-f-preserved c).After-forward_ref-x in
    let P : List ℕ → List ℕ → ℕ → Type 0 = (λ X Y y. Settled a.p a.p.entries (Field a.cell (l.f + 1)) a.cells.now a.remember.now a.tables.now a.j X Y y) in
    elim c.if-to-ne0.branch [
      | then-to-ne0 z ↦ subst₃ P (sym c.set_field.ensures) (sym (z.remember-is ∙ z.put_entry.ensures)) (sym z.i-is)
          (field-comes c.requires.fields c.requires.settling n l.invariant c.forward_ref-x.result _ v.result ev w v.ensures z.field_at.result z.field_at.ensures (λ y. omega (arith, z.if-to-ne0.true)))
      | else-to-ne0 z ↦ subst₃ P (sym c.set_field.ensures) (sym z.remember-is) (sym z.i-is)
          (field-stays c.requires.fields c.requires.settling n l.invariant c.forward_ref-x.result _ v.result ev w v.ensures (omega (arith, z.if-to-ne0.false)))
    ]

pub returns : goal.returns
returns c =
    let a = c.args in
    let l = c.loop-f in
    let e : l.f ≡ refs_of a.cells.now a.cell = omega (arith, c.field_count-n.ensures ∙ ap (field_count Reference) c.head.ensures) in
    subst (λ (y : ℕ). Settled a.p a.p.entries (Field a.cell y) a.cells.now a.remember.now a.tables.now a.j l.cells l.remember l.i) e l.invariant

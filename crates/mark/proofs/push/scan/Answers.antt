use Rattle.std.proofs.Common.{◌≡◌, ◌≤◌, refl, ap, ◌∙◌, ◌<◌, arith}
use Rattle.layout.specs.declared.Kind.TheVariants.{Reference}
use Rattle.layout.specs.Cells.{refs_of, field_count, most_fields}
use Rattle.layout.specs.Objects.{begins-page}
use Rattle.mark.specs.Marks.{shaped-few, kept_field}
use Rattle.mark.specs.Pushes.{Pushing.none, pushing-kept, pushing-shaped, ref-read, push-read}
use Rattle.mark.proofs.push.scan.Goals as goal
use Rattle.mark.proofs.push.scan.Goals.{After-field_count-n}

refs : (c : goal.After-field_count-n) → (c.field_count-n.result ≡ refs_of c.args.cells.now c.args.c) × (c.field_count-n.result ≤ most_fields)
refs c =
    let e : c.field_count-n.result ≡ refs_of c.args.cells.now c.args.c = c.field_count-n.ensures ∙ ap (field_count Reference) c.head.ensures in
    (e, omega (arith, shaped-few c.requires.shaped c.args.c c.requires.begins))

pub head-requires : goal.head-requires
head-requires c =
    omega (arith, begins-page _ _ _ _ c.requires.begins, c.requires.shaped.cells-long, c.requires.shaped.room)

pub loop-f-init : goal.loop-f-init
loop-f-init c = (refl, refl, none)

pub field-requires : goal.field-requires
field-requires c =
    omega (arith, begins-page _ _ _ _ c.requires.begins, c.requires.shaped.cells-long, c.requires.shaped.room, refs (goal.at.field-requires c).After-field_count-n)

pub push-t-requires : goal.push-t-requires
push-t-requires c =
    let args = c.args in
    let l = c.loop-f in
    let n = refs (goal.at.push-t-requires c).After-field_count-n in
    let lt : l.f < refs_of args.cells.now args.c = omega arith in
    let h = l.invariant.2 in record {
      shaped = pushing-shaped c.requires.shaped h;
      fact = ref-read c.requires.shaped h ((c.requires.shaped.objects args.c c.requires.begins).references l.f lt) c.field.result (c.field.ensures ∙ kept_field (pushing-kept c.requires.shaped h) args.c l.f (omega arith));
    }

pub loop-f-preserved : goal.loop-f-preserved
loop-f-preserved c =
    let args = c.args in
    let field = c.field in
    let l = c.loop-f in
    let n = refs (goal.at.loop-f-preserved c).After-field_count-n in
    let lt : l.f < refs_of args.cells.now args.c = omega arith in
    let h = push-read c.requires.shaped l.invariant.2 ((c.requires.shaped.objects args.c c.requires.begins).references l.f lt) field.result (field.ensures ∙ kept_field (pushing-kept c.requires.shaped l.invariant.2) args.c l.f (omega arith)) c.push-t.ensures in
    let k = pushing-kept c.requires.shaped h in
    (k.cells-length, k.tables-length, h)

use Rattle.std.proofs.Common.{◌≡◌, ◌≤◌, ap, ◌∙◌, arith}
use Rattle.layout.specs.declared.Kind.TheVariants.{Reference}
use Rattle.layout.specs.Cells.{field_count, refs_of, most_fields}
use Rattle.layout.specs.Objects.{begins-page}
use Rattle.mark.specs.Marks.{shaped-few}
use Rattle.census.specs.After.{cells-cross}
use Rattle.census.proofs.crossing.cross_cell.Goals as goal
use Rattle.census.proofs.crossing.cross_cell.Goals.{After-field_count-refs, After-from-n}

refs : (c : goal.After-field_count-refs) → (c.field_count-refs.result ≡ refs_of c.args.cells.now c.args.c) × (c.field_count-refs.result ≤ most_fields)
refs c =
    let e : c.field_count-refs.result ≡ refs_of c.args.cells.now c.args.c = c.field_count-refs.ensures ∙ ap (field_count Reference) c.head.ensures in
    (e, omega (arith, shaped-few c.requires.shaped c.args.c c.requires.begins))

pub work-home-requires : goal.work-home-requires
work-home-requires c =
    omega (arith, begins-page _ _ _ _ c.requires.begins, c.requires.shaped.cells-long, c.requires.shaped.room)

pub head-requires : goal.head-requires
head-requires c =
    omega (arith, begins-page _ _ _ _ c.requires.begins, c.requires.shaped.cells-long, c.requires.shaped.room)

pub field-x-requires : goal.field-x-requires
field-x-requires c =
    omega (arith, begins-page _ _ _ _ c.requires.begins, c.requires.shaped.cells-long, c.requires.shaped.room, refs (goal.at.field-x-requires c).After-field_count-refs)

pub returns-clause-value : goal.returns-clause-value
returns-clause-value c =
    let args = c.args in
    let loop = c.loop-f in
    let r = refs (goal.at.returns-clause-value c).After-field_count-refs in
    let e : loop.f ≡ refs_of args.cells.now args.c = omega arith in
    cells-cross args.p args.cells.now args.tables.now args.c loop.f loop.n e loop.invariant.0

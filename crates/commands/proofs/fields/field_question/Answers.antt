-- Null is 9, a field past the count of its kind 10.
use Rattle.std.proofs.Common.{◌-◌, arith}
use Rattle.layout.specs.Cells.{head_of, field_count}
use Rattle.commands.specs.Fields.{used-null, asked-fine, asked-past}
use Rattle.commands.proofs.fields.field_question.Goals as goal

pub returns-then-x-eq0 : goal.returns-then-x-eq0
returns-then-x-eq0 c =
    let args = c.args in
    let if1 = c.if-x-eq0 in
    used-null args.x args.f (field_count args.kind (head_of args.cells.now (args.x - 1))) if1.true

pub head-head-requires : goal.head-head-requires
head-head-requires c = omega (arith, c.cell_named.ensures, c.requires (omega arith))

pub returns-then-field_count-f : goal.returns-then-field_count-f
returns-then-field_count-f c =
    let args = c.args in
    let head = c.head-head in
    asked-past args.kind args.cells.now args.x args.f c.cell_named.result head.result c.field_count.result c.cell_named.ensures head.ensures
    c.field_count.ensures c.if-x-eq0.false c.if-field_count-f.true

pub returns : goal.returns
returns c =
    let args = c.args in
    let head = c.head-head in
    asked-fine args.kind args.cells.now args.x args.f c.cell_named.result head.result c.field_count.result c.cell_named.ensures head.ensures
    c.field_count.ensures c.if-x-eq0.false c.if-field_count-f.false

-- The fields of a kind stand side by side.
use Rattle.std.proofs.Common.{arith}
use Rattle.layout.specs.Cells.{most-is}
use Rattle.commands.specs.Fields.{first-is}
use Rattle.commands.proofs.fields.field_number.Goals as goal

pub overflow_add-result : goal.overflow_add-result
overflow_add-result c =
    let pre = c.requires in
    let args = c.args in
    let cell = c.cell_named in
    let head = c.head-head in
    let first_field = c.first_field in
    omega
    (arith, most-is, pre.field, first-is args.kind args.cells.now args.x cell.result head.result first_field.result cell.ensures head.ensures first_field.ensures)

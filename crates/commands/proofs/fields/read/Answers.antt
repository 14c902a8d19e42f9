-- Questions 9 and 10, then the field's word.
use Rattle.std.proofs.Common.{refl, arith}
use Rattle.layout.specs.declared.Kind.TheVariants.{Number}
use Rattle.std.proofs.lemmas.Result.{err_from_is_err_and}
use Rattle.layout.specs.Words.{words}
use Rattle.promises.specs.Reading.{whole_room}
use Rattle.rules.specs.Refusals.{question-nonzero}
use Rattle.commands.specs.Objects.{names-cell, is_field, read-refused, read_done}
use Rattle.commands.proofs.fields.read.Goals as goal

pub read_var-x-requires-clause-room : goal.read_var-x-requires-clause-room
read_var-x-requires-clause-room c =
    let args = c.args in
    whole_room args.p (words args.cells.now args.remember.now args.tables.now) c.requires.whole_for (omega arith)

pub field_question-requires : goal.field_question-requires
field_question-requires c =
    let args = c.args in
    let read-var = c.read_var-x in
    names-cell args.p args.cells.now args.remember.now args.tables.now c.requires.whole_for args.t args.a c.requires.t_lt_threads.0 c.requires.t_lt_threads.1
    read-var.result read-var.ensures

pub returns-in_err-field_question : goal.returns-in_err-field_question
returns-in_err-field_question c =
    let args = c.args in
    let read-var = c.read_var-x in
    let err = c.in_err-field_question in
    let exit = err_from_is_err_and c.from_residual.result c.from_residual.ensures.1 in
    rw (exit.1, exit.2)
    (read-refused args.p args.cells.now args.remember.now args.tables.now c.requires.whole_for args.t args.a c.requires.t_lt_threads.0 c.requires.t_lt_threads.1
    read-var.result read-var.ensures args.f _ err.ensures (question-nonzero err.field-0.0))

pub read_field-requires : goal.read_field-requires
read_field-requires c =
    let args = c.args in
    let read-var = c.read_var-x in
    is_field args.p args.cells.now args.remember.now args.tables.now c.requires.whole_for args.t args.a c.requires.t_lt_threads.0 c.requires.t_lt_threads.1
    read-var.result read-var.ensures Number args.f 0 c.in_ok-field_question.ensures refl

pub returns : goal.returns
returns c =
    let args = c.args in
    let read-var = c.read_var-x in
    let read-field = c.read_field in
    read_done args.p args.cells.now args.remember.now args.tables.now c.requires.whole_for args.t args.a c.requires.t_lt_threads.0 c.requires.t_lt_threads.1
    read-var.result read-var.ensures args.f 0 c.in_ok-field_question.ensures refl read-field.result
    read-field.ensures

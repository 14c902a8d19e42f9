-- Questions 9 and 10, then the variable gets the field's word.
use Rattle.std.proofs.Common.{rules, ◌∙◌, refl, arith}
use Rattle.layout.specs.declared.Kind.TheVariants.{Reference}
use Rattle.std.proofs.lemmas.Result.{err_from_is_err_and}
use Rattle.layout.specs.Words.{words}
use Rattle.pages.specs.Noted.{none-freed-before}
use Rattle.commands.specs.ThreadVariables.{variable_at, variable-low}
use Rattle.promises.specs.Reading.{whole_room}
use Rattle.rules.specs.Refusals.{question-nonzero}
use Rattle.commands.specs.Objects.{names-cell, is_field, load-refused, load-done}
use Rattle.commands.proofs.fields.load.Goals as goal

pub read_var-x-requires-clause-room : goal.read_var-x-requires-clause-room
read_var-x-requires-clause-room c =
    let args = c.args in
    whole_room args.p (words args.cells.now args.remember.now args.tables.now) c.requires.whole_for (omega arith)

pub field_question-requires : goal.field_question-requires
field_question-requires c =
    let args = c.args in
    let read-var = c.read_var-x in
    names-cell args.p args.cells.now args.remember.now args.tables.now c.requires.whole_for args.t args.b c.requires.t_lt_threads.0 c.requires.t_lt_threads.2
    read-var.result read-var.ensures

pub returns-in_err-field_question-clause-does : goal.returns-in_err-field_question-clause-does
returns-in_err-field_question-clause-does c =
    let args = c.args in
    let read-var = c.read_var-x in
    let err = c.in_err-field_question in
    let exit = err_from_is_err_and c.from_residual.result c.from_residual.ensures.1 in
    rw (exit.1, exit.2) (load-refused args.p args.cells.now args.remember.now args.tables.now c.requires.whole_for args.t args.b c.requires.t_lt_threads.0 c.requires.t_lt_threads.2
    read-var.result read-var.ensures args.a c.requires.t_lt_threads.1 args.f _ err.ensures (question-nonzero err.field-0.0))

pub read_field-v-requires : goal.read_field-v-requires
read_field-v-requires c =
    let args = c.args in
    let read-var = c.read_var-x in
    is_field args.p args.cells.now args.remember.now args.tables.now c.requires.whole_for args.t args.b c.requires.t_lt_threads.0 c.requires.t_lt_threads.2
    read-var.result read-var.ensures Reference args.f 0 c.in_ok-field_question.ensures refl

pub write_var-requires-clause-room : goal.write_var-requires-clause-room
write_var-requires-clause-room c =
    let args = c.args in
    whole_room args.p (words args.cells.now args.remember.now args.tables.now) c.requires.whole_for (omega arith)

pub returns-clause-does : goal.returns-clause-does
returns-clause-does c =
    let args = c.args in
    let read-var = c.read_var-x in
    let read-field = c.read_field-v in
    let write-var = c.write_var in
    load-done args.p args.cells.now args.remember.now args.tables.now c.requires.whole_for args.t args.b c.requires.t_lt_threads.0 c.requires.t_lt_threads.2
    read-var.result read-var.ensures args.a c.requires.t_lt_threads.1 args.f 0 c.in_ok-field_question.ensures refl
    read-field.result read-field.ensures _ (c.from.ensures ∙ search rules) write-var.ensures

pub returns-clause-none_freed : goal.returns-clause-none_freed
returns-clause-none_freed c =
    let args = c.args in
    let write-var = c.write_var in
    none-freed-before args.p args.tables.now (variable_at args.p args.t args.a) _ (variable-low args.p args.t args.a c.requires.t_lt_threads.0 c.requires.t_lt_threads.1) write-var.ensures

-- Questions 9 and 10, then the store and question 14.
use Rattle.std.proofs.Common.{refl, arith}
use Rattle.std.proofs.lemmas.Result.{err_from_is_err_and}
use Rattle.layout.specs.Words.{words}
use Rattle.promises.specs.Reading.{whole_room}
use Rattle.rules.specs.Refusals.{question-nonzero}
use Rattle.commands.specs.Objects.{names-cell}
use Rattle.commands.specs.Storing.{storing, store-refused, store-did}
use Rattle.commands.proofs.store.store.Goals as goal

pub read_var-x-requires-clause-room : goal.read_var-x-requires-clause-room
read_var-x-requires-clause-room c =
    let args = c.args in
    whole_room args.p (words args.cells.now args.remember.now args.tables.now) c.requires.whole_for (omega arith)

pub field_question-requires : goal.field_question-requires
field_question-requires c =
    let args = c.args in
    let in-range = c.requires.t_lt_threads in
    let read-var = c.read_var-x in
    names-cell args.p args.cells.now args.remember.now args.tables.now c.requires.whole_for args.t args.a in-range.0 in-range.1
    read-var.result read-var.ensures

pub returns-in_err-field_question-clause-does : goal.returns-in_err-field_question-clause-does
returns-in_err-field_question-clause-does c =
    let args = c.args in
    let in-range = c.requires.t_lt_threads in
    let read-var = c.read_var-x in
    let err = c.in_err-field_question in
    let exit = err_from_is_err_and c.from_residual.result c.from_residual.ensures.1 in
    rw (exit.1, exit.2)
    (store-refused args.p args.cells.now args.remember.now args.tables.now c.requires.whole_for args.t args.a in-range.0 in-range.1
    read-var.result read-var.ensures args.c in-range.2 args.f _ err.ensures (question-nonzero err.field-0.0))

pub read_var-v-requires-clause-room : goal.read_var-v-requires-clause-room
read_var-v-requires-clause-room c =
    let args = c.args in
    whole_room args.p (words args.cells.now args.remember.now args.tables.now) c.requires.whole_for (omega arith)

pub store_slot-requires-clause-storing : goal.store_slot-requires-clause-storing
store_slot-requires-clause-storing c =
    let args = c.args in
    let in-range = c.requires.t_lt_threads in
    let read-var = c.read_var-x in
    let field-question = c.in_ok-field_question in
    storing args.p args.cells.now args.remember.now args.tables.now c.requires.whole_for args.t args.a in-range.0 in-range.1
    read-var.result read-var.ensures args.c in-range.2 args.f 0 field-question.ensures refl
    (omega arith) c.read_var-v.result c.read_var-v.ensures

pub returns-in_err-store_slot-clause-does : goal.returns-in_err-store_slot-clause-does
returns-in_err-store_slot-clause-does c =
    let args = c.args in
    let in-range = c.requires.t_lt_threads in
    let read-var = c.read_var-x in
    let err = c.in_err-store_slot in
    let residual = c.from_residual-in_err-store_slot in
    let exit = err_from_is_err_and residual.result residual.ensures.1 in
    rw (exit.1, exit.2)
    (store-did args.p args.cells.now args.remember.now args.tables.now c.requires.whole_for args.t args.a in-range.0 in-range.1
    read-var.result read-var.ensures args.c in-range.2 args.f 0 c.in_ok-field_question.ensures refl
    c.read_var-v.result c.read_var-v.ensures _ _ _ err.ensures.stored)

pub returns-clause-does : goal.returns-clause-does
returns-clause-does c =
    let args = c.args in
    let in-range = c.requires.t_lt_threads in
    let read-var = c.read_var-x in
    let slot = c.in_ok-store_slot in
    store-did args.p args.cells.now args.remember.now args.tables.now c.requires.whole_for args.t args.a in-range.0 in-range.1
    read-var.result read-var.ensures args.c in-range.2 args.f 0 c.in_ok-field_question.ensures refl
    c.read_var-v.result c.read_var-v.ensures _ _ 0 slot.ensures.stored

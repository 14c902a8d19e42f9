-- Two references are the same exactly if the words are.
use Rattle.std.proofs.Common.{rules, ◌∙◌, arith}
use Rattle.layout.specs.Words.{words}
use Rattle.promises.specs.Reading.{whole_room}
use Rattle.commands.specs.Variables.{same-done}
use Rattle.commands.proofs.variables.same.Goals as goal

pub read_var-x-requires-clause-room : goal.read_var-x-requires-clause-room
read_var-x-requires-clause-room c =
    let args = c.args in
    whole_room args.p (words args.cells.now args.remember.now args.tables.now) c.requires.whole_for (omega arith)

pub read_var-y-requires-clause-room : goal.read_var-y-requires-clause-room
read_var-y-requires-clause-room c =
    let args = c.args in
    whole_room args.p (words args.cells.now args.remember.now args.tables.now) c.requires.whole_for (omega arith)

pub returns : goal.returns
returns c =
    let args = c.args in
    let read-var = c.read_var-x in
    let read-var2 = c.read_var-y in
    same-done args.p args.cells.now args.remember.now args.tables.now c.requires.whole_for args.t args.a args.b c.requires.t_lt_threads.0 c.requires.t_lt_threads.1
    c.requires.t_lt_threads.2 read-var.result read-var2.result read-var.ensures read-var2.ensures _ (c.from.ensures ∙ search rules)

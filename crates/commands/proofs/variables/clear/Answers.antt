-- A variable becomes null.
use Rattle.std.proofs.Common.{arith}
use Rattle.layout.specs.Words.{words}
use Rattle.pages.specs.Noted.{none-freed-before}
use Rattle.commands.specs.ThreadVariables.{variable_at, variable-low}
use Rattle.promises.specs.Reading.{whole_room}
use Rattle.commands.specs.Variables.{clear-done}
use Rattle.commands.proofs.variables.clear.Goals as goal

pub write_var-requires-clause-room : goal.write_var-requires-clause-room
write_var-requires-clause-room c =
    let args = c.args in
    whole_room args.p (words args.cells.now args.remember.now args.tables.now) c.requires.whole_for (omega arith)

pub returns-clause-does : goal.returns-clause-does
returns-clause-does c =
    let args = c.args in
    let write-var = c.write_var in
    clear-done args.p args.cells.now args.remember.now args.tables.now c.requires.whole_for args.t args.a c.requires.t_lt_threads.0 c.requires.t_lt_threads.1
    write-var.ensures

pub returns-clause-none_freed : goal.returns-clause-none_freed
returns-clause-none_freed c =
    let args = c.args in
    let write-var = c.write_var in
    none-freed-before args.p args.tables.now (variable_at args.p args.t args.a) _ (variable-low args.p args.t args.a c.requires.t_lt_threads.0 c.requires.t_lt_threads.1) write-var.ensures

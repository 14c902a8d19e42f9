-- The depth rises by one, if it is below D.
use Rattle.std.proofs.Common.{arith}
use Rattle.layout.specs.Words.{words}
use Rattle.promises.specs.Reading.{whole_room}
use Rattle.commands.specs.Variables.{start-refused, start-done}
use Rattle.commands.proofs.variables.start.Goals as goal

pub depth-d-requires-clause-room : goal.depth-d-requires-clause-room
depth-d-requires-clause-room c =
    let args = c.args in
    whole_room args.p (words args.cells.now args.remember.now args.tables.now) c.requires.whole_for (omega arith)

pub returns-then-p-d-clause-does : goal.returns-then-p-d-clause-does
returns-then-p-d-clause-does c =
    let args = c.args in
    let depth = c.depth-d in
    start-refused args.p args.cells.now args.remember.now args.tables.now c.requires.whole_for args.t c.requires.t_lt_threads depth.result depth.ensures
    (omega arith)

pub set_depth-requires-clause-room : goal.set_depth-requires-clause-room
set_depth-requires-clause-room c =
    let args = c.args in
    whole_room args.p (words args.cells.now args.remember.now args.tables.now) c.requires.whole_for (omega arith)

pub returns-clause-does : goal.returns-clause-does
returns-clause-does c =
    let args = c.args in
    let depth = c.depth-d in
    let set-depth = c.set_depth in
    start-done args.p args.cells.now args.remember.now args.tables.now c.requires.whole_for args.t c.requires.t_lt_threads depth.result depth.ensures
    (omega arith) set-depth.ensures

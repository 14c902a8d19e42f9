-- An object goes where its word 1 says, and stays where that is 0.
use Rattle.std.proofs.Common.{arith}
use Rattle.census.specs.After.{after-moved, after-still}
use Rattle.census.proofs.crossing.home_after.Goals as goal

pub returns-then-target-ne0 : goal.returns-then-target-ne0
returns-then-target-ne0 c =
    let args = c.args in
    after-moved args.p args.cells.now args.tables.now args.c c.work-target.result c.work-target.ensures c.if-target-ne0.true

pub returns : goal.returns
returns c =
    let args = c.args in
    after-still args.p args.cells.now args.tables.now args.c _ _ c.work-target.result c.work-target.ensures (omega (arith, c.if-target-ne0.false)) c.page_of.ensures c.owner.ensures

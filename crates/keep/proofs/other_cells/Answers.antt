-- The cells in use of a page, unless it is free or the control space's.
use Rattle.std.proofs.Common.{arith}
use Rattle.keep.specs.Others.{cells-some, cells-none}
use Rattle.keep.proofs.other_cells.Goals as goal

pub returns-then-owner-gt1 : goal.returns-then-owner-gt1
returns-then-owner-gt1 c =
    let args = c.args in
    cells-some args.p args.tables.now args.page c.owner.ensures (omega (arith, c.if-owner-gt1.true)) c.used.ensures

pub returns : goal.returns
returns c =
    let args = c.args in
    cells-none args.p args.tables.now args.page c.owner.ensures (omega (arith, c.if-owner-gt1.false))

-- The word of objects made.
use Rattle.std.proofs.Common.{arith}
use Rattle.report.specs.Tables.{tables-room-of}
use Rattle.report.proofs.made.Goals as goal

pub made-requires : goal.made-requires
made-requires c =
    let a = c.args in
    tables-room-of a.p a.tables.now c.requires (omega arith)

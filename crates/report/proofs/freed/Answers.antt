-- The word of objects freed.
use Rattle.std.proofs.Common.{arith}
use Rattle.report.specs.Tables.{tables-room-of}
use Rattle.report.proofs.freed.Goals as goal

pub freed-requires : goal.freed-requires
freed-requires c =
    let a = c.args in
    tables-room-of a.p a.tables.now c.requires (omega arith)

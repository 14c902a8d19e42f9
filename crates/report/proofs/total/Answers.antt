-- The difference of the two counters.
use Rattle.std.proofs.Common.{◌≡◌, ◌+◌, ◌%◌, ◌^◌, ◌<◌, length, arith}
use Rattle.report.specs.Tables.{tables-room-of}
use Rattle.report.proofs.Totals.{total-less}
use Rattle.report.proofs.total.Goals as goal

pub returns : goal.returns
returns c =
    let a = c.args in
    let less = c.wrapping_sub_u32 in
    let made = c.made-all in
    let freed = c.freed-gone in
    let low : less.result < 2 ^ 32 = omega arith in
    let difference : (less.result + freed.result) % 2 ^ 32 ≡ made.result = omega (arith, less.ensures) in
    total-less a.p a.tables.now c.requires (length a.tables.now) less.result made.result freed.result (tables-room-of a.p a.tables.now c.requires (omega arith)) low difference made.ensures freed.ensures

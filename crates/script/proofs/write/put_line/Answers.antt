-- `script::write::put_line` meets its contract: the number takes twenty bytes at most.
use Rattle.std.proofs.Common.{arith}
use Rattle.script.proofs.WritingLaws.{decimal-length, put-line}
use Rattle.script.proofs.write.put_line.Goals as goal

pub put_then-requires : goal.put_then-requires
put_then-requires c = omega (arith, decimal-length _ c.ranges.k.fits, c.put_bytes-number.ensures.end_is)

pub returns : goal.returns
returns c = put-line _ c.ranges.k.fits c.requires c.put_bytes-number.ensures c.put_then.ensures

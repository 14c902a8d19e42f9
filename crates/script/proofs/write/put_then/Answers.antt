-- `script::write::put_then` meets its contract: one more byte stands behind the number.
use Rattle.std.proofs.Common.{arith}
use Rattle.script.proofs.WritingLaws.{put-put, put_byte}
use Rattle.script.proofs.write.put_then.Goals as goal

pub returns : goal.returns
returns c = put-put (omega arith) c.put_number-end.ensures (put_byte _ _ _ (omega (arith, c.put_number-end.ensures.end_is)))

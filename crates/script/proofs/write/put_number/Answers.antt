-- `script::write::put_number` meets its contract: io writes the digits, and put_bytes brings them to their place.
use Rattle.std.proofs.Common.{ap, arith, length}
use Rattle.script.proofs.WritingLaws.{decimal-digits, put-text}
use Rattle.script.proofs.write.put_number.Goals as goal

pub put_bytes-requires : goal.put_bytes-requires
put_bytes-requires c =
    let d = c.decimal-count in
    omega (arith, ap length (decimal-digits _ _ d.new.out d.ensures.len d.ensures.digits))

pub returns : goal.returns
returns c =
    let d = c.decimal-count in
    put-text (decimal-digits _ _ d.new.out d.ensures.len d.ensures.digits) c.put_bytes.ensures

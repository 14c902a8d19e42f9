-- A bit is read by a shift.
use Rattle.lists.specs.Bits.{bit-shr}
use Rattle.layout.proofs.bits.bit_at.Goals as goal

pub returns : goal.returns
returns c = bit-shr c.args.i c.args.w

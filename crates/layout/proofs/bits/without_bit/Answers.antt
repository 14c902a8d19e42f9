-- A bit that is set may be taken off.
use Rattle.std.proofs.Common.{arith}
use Rattle.lists.specs.Bits.{shl_one, bit_le}
use Rattle.layout.proofs.bits.without_bit.Goals as goal

pub overflow_sub-result : goal.overflow_sub-result
overflow_sub-result c = let a = c.args in omega (arith, shl_one a.i (omega arith), bit_le a.i a.w c.requires.1)

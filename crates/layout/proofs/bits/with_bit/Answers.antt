-- A bit that is not set may be added: the word still fits.
use Rattle.std.proofs.Common.{arith}
use Rattle.lists.specs.Bits.{shl_one, set-fits}
use Rattle.layout.proofs.bits.with_bit.Goals as goal

pub overflow_add-result : goal.overflow_add-result
overflow_add-result c =
    let a = c.args in omega (arith, shl_one a.i (omega arith), set-fits 32 a.i a.w c.requires.1 (omega arith) (omega arith))

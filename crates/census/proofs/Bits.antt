-- What a test counts for: 1 if it is true, else 0.
use Rattle.std.specs.Prelude.{Bool, true, false, not, ◌≡◌, refl, ◌-◌}
use Rattle.std.specs.Int.{from_bool}
use Rattle.lists.specs.Counting.{bit}

pub from-bit : (b : Bool) → from_bool b ≡ bit b
from-bit true = refl
from-bit false = refl

pub bit-not : (b : Bool) → bit (not b) ≡ 1 - bit b
bit-not true = refl
bit-not false = refl

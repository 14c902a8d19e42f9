-- The entries of the remember table: stretches of zeros, and slots that rise one by one.
use Rattle.std.specs.Prelude.{◌≡◌, ℕ, ◌+◌, ◌-◌, ◌<◌, ◌≤◌, List}
use Rattle.std.proofs.Common.{ap, arith}
use Rattle.std.proofs.Math.Decide.{dec_lt}
use Rattle.layout.specs.Places.{slot_in, slot_region_in}
use Rattle.remember.specs.Entries.{Rising, ZeroBetween}

pub zero-on : (n : ℕ) (m : List ℕ) (a b c : ℕ) → ZeroBetween n m a b → ZeroBetween n m b c → ZeroBetween n m a c
zero-on n m a b c h k i l u = go (dec_lt i b)
  where
    go : Dec (i < b) → (slot_in m i ≡ 0) × (slot_region_in n m i ≡ 0)
    go (yes v) = h i l v
    go (no v) = k i (omega arith) u

-- one more that stands after the one before it
pub rising-more : (m : List ℕ) (i : ℕ) {a b : ℕ} → Rising m i → 1 ≤ i → a ≡ slot_in m (i - 1) → b ≡ slot_in m i → a < b → Rising m (i + 1)
rising-more m i r h e f l x y p q = go (dec_lt y i) (dec_lt x (i - 1))
  where
    go : Dec (y < i) → Dec (x < i - 1) → slot_in m x < slot_in m y
    go (yes u) v = r x y p u
    go (no u) (yes v) = let z : y ≡ i = omega arith in omega (arith, r x (i - 1) v (omega arith), ap (slot_in m) z)
    go (no u) (no v) =
        let z : y ≡ i = omega arith in
        let w : x ≡ i - 1 = omega arith in
        omega (arith, ap (slot_in m) z, ap (slot_in m) w)

-- The words of the chains by position: word w belongs to region f w. The first R words are those of the regions 1 .. R, the first words; each
-- word after them is that of an entry, whose region is 0 while it is in no chain. A word x other than 0 names position R + x - 1.
use Rattle.std.specs.Prelude.{ℕ, suc, ◌+◌, ◌-◌, ◌≤◌, ◌<◌, List, ◌≡◌, get_or}
use Rattle.std.proofs.Common.{arith}
use Rattle.std.proofs.Math.Decide.{ℕ_discrete, dec_lt}

-- x names the first of n positions, from s on, that is of region h
pub record Names (R n : ℕ) (f : ℕ → ℕ) (h s x : ℕ) : Type 0 where
  pub first : (j : ℕ) → s ≤ j → j < n → f j ≡ h → (0 < x) × (R + x ≤ j + 1)
  pub later : 0 < x → s < R + x
  pub low : 0 < x → R + x ≤ n
  pub same : 0 < x → f (R + x - 1) ≡ h

module _ {R n : ℕ} {f : ℕ → ℕ} {h s : ℕ} where
  least : {x y : ℕ} → Names R n f h s x → Names R n f h s y → 0 < x → (0 < y) × (y ≤ x)
  least {x} a b p =
      let q = b.first (R + x - 1) (omega (arith, a.later p)) (omega (arith, a.low p)) (a.same p) in
      (q.0, omega (arith, q.1))

  pub names-one : {x y : ℕ} → Names R n f h s x → Names R n f h s y → x ≡ y
  names-one {x} {y} a b = go (dec_lt 0 x) (dec_lt 0 y)
    where
      go : Dec (0 < x) → Dec (0 < y) → x ≡ y
      go (yes p) t = let q = least a b p in omega (arith, q.1, (least b a q.0).1)
      go (no p) (yes q) = absurd (let z : ⊥ = omega (arith, (least b a q).0) in z)
      go (no p) (no q) = omega arith

-- each of n words names the next of its own region, and is 0 if it is of none
pub record Chained (R n : ℕ) (f : ℕ → ℕ) (k : List ℕ) : Type 0 where
  pub on : (w : ℕ) → w < n → 0 < f w → Names R n f (f w) (suc w) (get_or k w 0)
  pub off : (w : ℕ) → w < n → f w ≡ 0 → get_or k w 0 ≡ 0

-- what the code needs to know of such words: each names a later position
abbrev pub Onward : ℕ → ℕ → List ℕ → Type 0
Onward R n k = (w : ℕ) → w < n → 0 < get_or k w 0 → (suc w < R + get_or k w 0) × (R + get_or k w 0 ≤ n)

pub chained-onward : {R n : ℕ} {f : ℕ → ℕ} {k : List ℕ} → Chained R n f k → Onward R n k
chained-onward {R} {n} {f} {k} c w l p = go (ℕ_discrete (f w) 0)
  where
    go : Dec (f w ≡ 0) → (suc w < R + get_or k w 0) × (R + get_or k w 0 ≤ n)
    go (yes z) = absurd (let v : ⊥ = omega (arith, c.off w l z) in v)
    go (no z) = let o = c.on w l (omega arith) in (o.later p, o.low p)

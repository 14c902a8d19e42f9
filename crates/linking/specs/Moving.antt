-- Words that are renumbered by h, in place or as they move by one place.
use Rattle.std.specs.Prelude.{ℕ, suc, ◌+◌, ◌-◌, ◌≤◌, ◌<◌, List, ◌++◌, ◌≡◌, length, get_or, set, take, drop}
use Rattle.std.proofs.Common.{ap, ◌∙◌, arith, length-set, get_or-take, get_or-drop}
use Rattle.std.proofs.Math.ListN.{get_or-append}
use Rattle.std.proofs.Math.Seq.{length-take-le, length_front}
use Rattle.std.proofs.lemmas.List.{get_or-append_right}
use Rattle.lists.specs.Stores.{put, past}
use Rattle.linking.specs.Shifting.{raised, lowered, Opened, Closed}

-- the words below `to`, in place
pub record Renumbered (h : ℕ → ℕ) (to : ℕ) (w w' : List ℕ) : Type 0 where
  pub long : length w' ≡ length w
  pub low : (j : ℕ) → j < to → get_or w' j 0 ≡ h (get_or w j 0)
  pub high : (j : ℕ) → to ≤ j → get_or w' j 0 ≡ get_or w j 0

-- the words from .. to - 1 stand one place higher
pub record MovedUp (h : ℕ → ℕ) (from to : ℕ) (w w' : List ℕ) : Type 0 where
  pub long : length w' ≡ length w
  pub moved : (j : ℕ) → from ≤ j → j < to → get_or w' (suc j) 0 ≡ h (get_or w j 0)
  pub kept : (j : ℕ) → (from < j → to < j) → get_or w' j 0 ≡ get_or w j 0

-- the words from + 1 .. to - 1 stand one place lower
pub record MovedDown (h : ℕ → ℕ) (from to : ℕ) (w w' : List ℕ) : Type 0 where
  pub long : length w' ≡ length w
  pub moved : (j : ℕ) → from ≤ j → suc j < to → get_or w' j 0 ≡ h (get_or w (suc j) 0)
  pub kept : (j : ℕ) → (from ≤ j → to ≤ suc j) → get_or w' j 0 ≡ get_or w j 0

module _ (h : ℕ → ℕ) where
  -- the first words are renumbered, those after them are as they were
  pub renumbered-part : (to : ℕ) (w front : List ℕ) → to ≤ length w → length front ≡ length (take to w) → ((j : ℕ) → j < length (take to w) → get_or front j 0 ≡ h (get_or (take to w) j 0))
      → Renumbered h to w (front ++ drop to w)
  renumbered-part to w front l n e = record {
    long = length_front w front to n;
    low = λ j b. get_or-append front (drop to w) 0 j (omega (arith, m)) ∙ e j (omega (arith, m)) ∙ ap h (get_or-take to w j 0 b);
    high = λ j b. get_or-append_right front (drop to w) to j 0 (omega (arith, m)) b ∙ get_or-drop to w (j - to) 0 ∙ ap (λ (k : ℕ). get_or w k 0) (omega arith);
  }
    where
      m : (length front ≡ to) × (length (take to w) ≡ to)
      m = (omega (arith, length-take-le to w l), length-take-le to w l)

-- ---- a place is made, and closed

module _ {R u q : ℕ} {k k₁ k₂ k₃ : List ℕ} (low : q ≤ u) (long : R + u < length k) where
  pub opens : MovedUp (raised q) (R + q) (R + u) k k₁ → k₂ ≡ set k₁ (R + q) 0 → Renumbered (raised q) (R + q) k₂ k₃ → Opened R (R + u) q k k₃
  opens m e r = record {
    long = r.long ∙ ap length e ∙ length-set k₁ (R + q) 0 ∙ m.long;
    below = λ j l. r.low j l ∙ ap (raised q) (else j (λ (z : j ≡ R + q). omega arith) ∙ m.kept j (λ z. absurd (let v : ⊥ = omega arith in v)));
    here = r.high (R + q) (omega arith) ∙ ap (λ (l : List ℕ). get_or l (R + q) 0) e ∙ put k₁ (R + q) 0 0 (omega (arith, m.long));
    above = λ j l h. r.high (suc j) (omega arith) ∙ else (suc j) (λ (z : suc j ≡ R + q). omega arith) ∙ m.moved j l h;
    rest = λ j l. r.high j (omega arith) ∙ else j (λ (z : j ≡ R + q). omega arith) ∙ m.kept j (λ z. l);
  }
    where
      else : (j : ℕ) → (j ≡ R + q → ⊥) → get_or k₂ j 0 ≡ get_or k₁ j 0
      else j d = ap (λ (l : List ℕ). get_or l j 0) e ∙ past k₁ (R + q) 0 j 0 d

  pub closes : Renumbered (lowered q) (R + q) k k₁ → MovedDown (lowered q) (R + q) (R + u + 1) k₁ k₂ → k₃ ≡ set k₂ (R + u) 0 → Closed R (R + u) q k k₃
  closes r m e = record {
    long = ap length e ∙ length-set k₂ (R + u) 0 ∙ m.long ∙ r.long;
    below = λ j l. else j (λ (z : j ≡ R + u). omega arith) ∙ m.kept j (λ z. absurd (let v : ⊥ = omega arith in v)) ∙ r.low j l;
    above = λ j l h. else j (λ (z : j ≡ R + u). omega arith) ∙ m.moved j l (omega arith) ∙ ap (lowered q) (r.high (suc j) (omega arith));
    last = ap (λ (l : List ℕ). get_or l (R + u) 0) e ∙ put k₂ (R + u) 0 0 (omega (arith, m.long, r.long));
    rest = λ j l. else j (λ (z : j ≡ R + u). omega arith) ∙ m.kept j (λ z. omega arith) ∙ r.high j (omega arith);
  }
    where
      else : (j : ℕ) → (j ≡ R + u → ⊥) → get_or k₃ j 0 ≡ get_or k₂ j 0
      else j d = ap (λ (l : List ℕ). get_or l j 0) e ∙ past k₂ (R + u) 0 j 0 d

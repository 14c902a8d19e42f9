-- A walk along the chain of a region: from its first word, and from the next word of the entry at hand, to the first of its entries from a place
-- on; the entries between are of other regions.
use Prim.Native.Nat.{ℕ, zero, suc, ◌+◌, ◌-◌, ◌≤◌, ◌<◌}
use Rattle.std.specs.Prelude.{List, ◌≡◌, length}
use Rattle.std.proofs.Common.{sym, ◌∙◌, length-take}
use Rattle.std.proofs.Math.Path.{ap, subst}
use native.Mathlib.Omega.{arith}
use Rattle.std.proofs.Math.Decide.{ℕ_discrete}
use Rattle.rules.specs.declared.Sizes.{Sizes}
use Rattle.rules.specs.Regions.{regions}
use Rattle.layout.specs.Places.{entries_used, slot_region_in, first_in, next_in, chains_words}
use Rattle.remember.specs.Table.{Entry, region, nth_region, entries_in}
use Rattle.remember.specs.TableWords.{to-long, to_at}
use Rattle.chains.specs.Chains.{ChainsWhole}
use Rattle.chains.specs.Firsts.{first_from}
use Rattle.chains.proofs.Firsts.{first-end, first-here, first-other, next-is, chains-long}
use Rattle.chains.proofs.Linking.{agreed-first, agreed-next}

-- x is 1 + the place of the first entry of region g from place i on, 0 if there is none
pub record Leads (g N : ℕ) (m : List ℕ) (i x : ℕ) : Type 0 where
  pub none : x ≡ 0 → (j : ℕ) → i ≤ j → j < entries_used m → slot_region_in N m j ≡ g → ⊥
  pub later : 0 < x → i < x
  pub low : x ≤ entries_used m
  pub region : 0 < x → slot_region_in N m (x - 1) ≡ g
  pub between : 0 < x → (j : ℕ) → i ≤ j → j < x - 1 → slot_region_in N m j ≡ g → ⊥

-- how far the walk can still go
abbrev pub ahead : List ℕ → ℕ → ℕ
ahead m zero = 0
ahead m (suc x) = suc (entries_used m) - x

pub ahead-less : (m : List ℕ) (x y : ℕ) → 0 < x → x ≤ entries_used m → (0 < y → x < y) → ahead m y < ahead m x
ahead-less m zero y p l h = absurd (let z : ⊥ = omega arith in z)
ahead-less m (suc x) zero p l h = omega arith
ahead-less m (suc x) (suc y) p l h = omega (arith, h (omega arith))

module _ (g N : ℕ) (m : List ℕ) where
  es : List Entry
  es = entries_in N m

  long : length es ≡ entries_used m
  unfolding es
  long = to-long N m (entries_used m)

  at : (i : ℕ) → i < entries_used m → nth_region es i ≡ slot_region_in N m i
  unfolding es
  at i l = ap region (to_at N m (entries_used m) i l)

  -- of the last n entries
  leads : (n i : ℕ) → i + n ≡ entries_used m → Leads g N m i (first_from g es i)
  leads zero i e =
      let z = first-end g es i (omega (arith, long)) in
      subst (Leads g N m i) (sym z)
      (record {
        none = λ q j l h w. omega arith;
        later = λ p. absurd (let z : ⊥ = omega arith in z);
        low = omega arith;
        region = λ p. absurd (let z : ⊥ = omega arith in z);
        between = λ p j l h w. omega arith;
      })
  leads (suc n) i e = go (ℕ_discrete (slot_region_in N m i) g) (leads n (suc i) (omega arith))
    where
      low : i < length es
      low = omega (arith, long)

      go : Dec (slot_region_in N m i ≡ g) → Leads g N m (suc i) (first_from g es (suc i)) → Leads g N m i (first_from g es i)
      go (yes q) rest =
          subst (Leads g N m i) (sym (first-here g es i low (at i (omega arith) ∙ q)))
          (record {
            none = λ z. absurd (let f : ⊥ = omega arith in f);
            later = λ p. omega arith;
            low = omega arith;
            region = λ p. ap (slot_region_in N m) (let v : suc i - 1 ≡ i = omega arith in v) ∙ q;
            between = λ p j l h w. omega arith;
          })
      go (no q) rest =
          subst (Leads g N m i) (sym (first-other g es i low (λ z. q (sym (at i (omega arith)) ∙ z))))
          (record {
            none = λ z j l h w. here j (ℕ_discrete j i) l w (λ k. rest.none z j k h w);
            later = λ p. omega (arith, rest.later p);
            low = rest.low;
            region = rest.region;
            between = λ p j l h w. here j (ℕ_discrete j i) l w (λ k. rest.between p j k h w);
          })
        where
          here : (j : ℕ) → Dec (j ≡ i) → i ≤ j → slot_region_in N m j ≡ g → (suc i ≤ j → ⊥) → ⊥
          here j (yes k) l w f = q (sym (ap (slot_region_in N m) k) ∙ w)
          here j (no k) l w f = f (omega arith)

-- words that are those of the chains
module _ {s : Sizes} {m k : List ℕ} (room : entries_used m ≤ s.entries) (whole : ChainsWhole s m k) where
  abbrev R : ℕ
  R = regions s

  abbrev N : ℕ
  N = s.entries

  few : length (entries_in N m) ≤ N
  few = omega (arith, to-long N m (entries_used m))

  pub whole_long : chains_words s ≤ length k
  whole_long = omega (arith, ap length whole.words, chains-long R N (entries_in N m) few, length-take (R + N) k)

  pub first-leads : (g : ℕ) → 1 ≤ g → g ≤ regions s → {x : ℕ} → x ≡ first_in k g → Leads g s.entries m 0 x
  unfolding es
  first-leads g l h {x} e =
      let q : suc (g - 1) ≡ g = omega arith in
      subst (Leads g N m 0) (sym (e ∙ agreed-first R N (entries_in N m) k few whole_long whole.words (g - 1) (omega arith) ∙ ap (λ (r : ℕ). first_from r (entries_in N m) 0) q))
      (leads g N m (entries_used m) 0 (omega arith))

  pub next-leads : {g i x : ℕ} → Leads g s.entries m i x → 0 < x → {y : ℕ} → y ≡ next_in (regions s) k (x - 1) → Leads g s.entries m x y
  unfolding es
  next-leads {g} {i} {x} l p {y} e =
      let low : x - 1 < entries_used m = omega (arith, l.low) in
      let v : suc (x - 1) ≡ x = omega arith in
      subst (Leads g N m x) (sym (e ∙ agreed-next R N (entries_in N m) k few whole_long whole.words (x - 1) (omega (arith, l.low))
      ∙ next-is (entries_in N m) (x - 1) (omega (arith, l.low, to-long N m (entries_used m)))
      ∙ ap (λ (r : ℕ). first_from r (entries_in N m) (suc (x - 1))) (at g N m (x - 1) low ∙ l.region p)
      ∙ ap (first_from g (entries_in N m)) v))
      (leads g N m (entries_used m - x) x (omega (arith, l.low)))

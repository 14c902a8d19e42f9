-- The chain of a region leads to exactly the places of its entries, in rising order, each once.
use Rattle.std.specs.Prelude.{ℕ, zero, suc, ◌+◌, ◌≤◌, ◌<◌, Bool, true, false, cond, List, [], ◌∷◌, ◌≡◌, refl, length, get_or, drop, eqb}
use Rattle.std.proofs.Common.{inl, inr, sym, ◌∙◌, subst, arith, drop_of_length-le, drop-cons, eq-eqb, ne_eqb}
use Rattle.std.proofs.Math.Path.{ap}
use Rattle.std.proofs.Math.Decide.{ℕ_discrete}
use Rattle.lists.specs.Members.{In}
use Rattle.remember.specs.Table.{Entry, nth_region, unused}
use Rattle.chains.specs.Chains.{chains_of, places_of, followed}
use Rattle.chains.specs.Firsts.{first_from, next_of}
use Rattle.chains.proofs.Firsts.{first-end, first-here, first-other, next-is, chain_first, chain_next}

abbrev places_from : ℕ → List Entry → ℕ → List ℕ
places_from g es i = places_of g i (drop i es)

-- words whose next words are those of the entries es
module _ (R : ℕ) (f : List ℕ) (es : List Entry) (nexts : (i : ℕ) → i < length es → get_or f (R + i) 0 ≡ next_of es i) (g : ℕ) where
  split : (i : ℕ) → i < length es → places_from g es i ≡ cond (eqb (nth_region es i) g) (i ∷ places_from g es (suc i)) (places_from g es (suc i))
  unfolding places_of
  split i l = ap (places_of g i) (drop-cons es i unused l)

  none_left : (i : ℕ) → length es ≤ i → places_from g es i ≡ []
  unfolding places_of
  none_left i l = ap (places_of g i) (drop_of_length-le es l)

  no_steps : (n : ℕ) → followed R f n 0 ≡ []
  no_steps zero = refl
  no_steps (suc n) = refl

  -- k entries from place i on, in n steps
  follow : (k i n : ℕ) → i + k ≡ length es → k ≤ n → followed R f n (first_from g es i) ≡ places_from g es i
  follow zero i n e l =
      ap (followed R f n) (first-end g es i (omega arith)) ∙ no_steps n ∙ sym (none_left i (omega arith))
  follow (suc k) i zero e l = absurd (let z : ⊥ = omega arith in z)
  follow (suc k) i (suc n) e l = go (ℕ_discrete (nth_region es i) g) (follow k (suc i))
    where
      low : i < length es
      low = omega arith

      go : Dec (nth_region es i ≡ g) → ((n : ℕ) → suc i + k ≡ length es → k ≤ n → followed R f n (first_from g es (suc i)) ≡ places_from g es (suc i))
          → followed R f (suc n) (first_from g es i) ≡ places_from g es i
      go (yes q) rest =
          ap (followed R f (suc n)) (first-here g es i low q)
          ∙ ap (λ l. i ∷ l) (ap (followed R f n) (nexts i low ∙ next-is es i low ∙ ap (λ (h : ℕ). first_from h es (suc i)) q) ∙ rest n (omega arith) (omega arith))
          ∙ sym (split i low ∙ ap (λ (b : Bool). cond b (i ∷ places_from g es (suc i)) (places_from g es (suc i))) (eq-eqb (nth_region es i) g q))
      go (no q) rest =
          ap (followed R f (suc n)) (first-other g es i low q) ∙ rest (suc n) (omega arith) (omega arith)
          ∙ sym (split i low ∙ ap (λ (b : Bool). cond b (i ∷ places_from g es (suc i)) (places_from g es (suc i))) (ne_eqb (nth_region es i) g q))

-- the words of the chains, with any words after them: the chain of region r + 1, in as many steps as there are entries or in more: it ends
pub chain-names : (R N : ℕ) (es : List Entry) (f : List ℕ) → length es ≤ N → ((j : ℕ) → j < R + N → get_or f j 0 ≡ get_or (chains_of R N es) j 0)
    → (n : ℕ) → length es ≤ n → (r : ℕ) → r < R → followed R f n (get_or f r 0) ≡ places_of (suc r) 0 es
chain-names R N es f few same n enough r l =
    ap (followed R f n) (same r (omega arith) ∙ chain_first R N es few r l)
    ∙ follow R f es (λ i h. same (R + i) (omega arith) ∙ chain_next R N es few i) (suc r) (length es) 0 n (omega arith) enough

-- ---- what places these are

-- each is the place of an entry of the region, and each such place is there
pub places-right : (g k : ℕ) (es : List Entry) (x : ℕ) → In x (places_of g k es) → (i : ℕ) × (i < length es) × (x ≡ k + i) × (nth_region es i ≡ g)
unfolding places_of
places-right g k [] x h = elim h [ ]
places-right g k (e ∷ es) x h = go (ℕ_discrete e.region g) h (λ h. let r = places-right g (suc k) es x h in (suc r.0, omega (arith, r.1), omega (arith, r.2), r.3))
  where
    go : Dec (e.region ≡ g) → In x (cond (eqb e.region g) (k ∷ places_of g (suc k) es) (places_of g (suc k) es))
        → (In x (places_of g (suc k) es) → (i : ℕ) × (i < length (e ∷ es)) × (x ≡ k + i) × (nth_region (e ∷ es) i ≡ g))
        → (i : ℕ) × (i < length (e ∷ es)) × (x ≡ k + i) × (nth_region (e ∷ es) i ≡ g)
    go (yes q) h there = pick (subst (λ (b : Bool). In x (cond b (k ∷ places_of g (suc k) es) (places_of g (suc k) es))) (eq-eqb e.region g q) h)
      where
        pick : In x (k ∷ places_of g (suc k) es) → (i : ℕ) × (i < length (e ∷ es)) × (x ≡ k + i) × (nth_region (e ∷ es) i ≡ g)
        pick (inl z) = (0, omega arith, omega (arith, z), q)
        pick (inr z) = there z
    go (no q) h there = there (subst (λ (b : Bool). In x (cond b (k ∷ places_of g (suc k) es) (places_of g (suc k) es))) (ne_eqb e.region g q) h)

pub places-all : (g k : ℕ) (es : List Entry) (i : ℕ) → i < length es → nth_region es i ≡ g → In (k + i) (places_of g k es)
unfolding places_of
places-all g k [] i l q = absurd (let z : ⊥ = omega arith in z)
places-all g k (e ∷ es) zero l q = rw (eq-eqb e.region g q) (inl (omega arith))
places-all g k (e ∷ es) (suc i) l q =
    let z : suc k + i ≡ k + suc i = omega arith in
    go (eqb e.region g) (subst (λ (x : ℕ). In x (places_of g (suc k) es)) z (places-all g (suc k) es i (omega arith) q))
  where
    go : (b : Bool) → In (k + suc i) (places_of g (suc k) es) → In (k + suc i) (cond b (k ∷ places_of g (suc k) es) (places_of g (suc k) es))
    go true rest = inr rest
    go false rest = rest

-- they rise, from k on
pub places-low : (g k : ℕ) (es : List Entry) (i : ℕ) → i < length (places_of g k es) → k ≤ get_or (places_of g k es) i 0
unfolding places_of
places-low g k [] i l = absurd (let z : ⊥ = omega arith in z)
places-low g k (e ∷ es) i l = go (eqb e.region g) i l (places-low g (suc k) es)
  where
    go : (b : Bool) (i : ℕ) → i < length (cond b (k ∷ places_of g (suc k) es) (places_of g (suc k) es))
        → ((i : ℕ) → i < length (places_of g (suc k) es) → suc k ≤ get_or (places_of g (suc k) es) i 0)
        → k ≤ get_or (cond b (k ∷ places_of g (suc k) es) (places_of g (suc k) es)) i 0
    go true zero l rest = omega arith
    go true (suc i) l rest = omega (arith, rest i (omega arith))
    go false i l rest = omega (arith, rest i l)

pub places-rise : (g k : ℕ) (es : List Entry) (i j : ℕ) → i < j → j < length (places_of g k es) → get_or (places_of g k es) i 0 < get_or (places_of g k es) j 0
unfolding places_of
places-rise g k [] i j h l = absurd (let z : ⊥ = omega arith in z)
places-rise g k (e ∷ es) i j h l = go (eqb e.region g) i j h l (places-rise g (suc k) es)
  where
    go : (b : Bool) (i j : ℕ) → i < j → j < length (cond b (k ∷ places_of g (suc k) es) (places_of g (suc k) es)) → ((i j : ℕ) → i < j → j < length (places_of g (suc k) es) → get_or (places_of g (suc k) es) i 0 < get_or (places_of g (suc k) es) j 0)
        → get_or (cond b (k ∷ places_of g (suc k) es) (places_of g (suc k) es)) i 0 < get_or (cond b (k ∷ places_of g (suc k) es) (places_of g (suc k) es)) j 0
    go true zero zero h l rest = absurd (let z : ⊥ = omega arith in z)
    go true zero (suc j) h l rest = places-low g (suc k) es j (omega arith)
    go true (suc i) zero h l rest = absurd (let z : ⊥ = omega arith in z)
    go true (suc i) (suc j) h l rest = rest i j (omega arith) (omega arith)
    go false i j h l rest = rest i j h l

-- Words that are chained by the regions of the entries are those of the chains, and the other way round.
use Rattle.std.specs.Prelude.{ℕ, zero, suc, ◌+◌, ◌-◌, ◌≤◌, ◌<◌, Bool, List, ◌++◌, ◌≡◌, refl, ltb, eqb, length, get_or, take, drop}
use Rattle.std.proofs.Math.Bool.{cond}
use Rattle.std.proofs.Common.{sym, subst, ◌∙◌, arith, take-append-drop, lt-ltb, le-ltb, eq-eqb, ne_eqb}
use Rattle.std.proofs.Math.Path.{ap}
use Rattle.std.proofs.Math.Decide.{ℕ_discrete, dec_lt}
use Rattle.lists.specs.Stores.{drop-same}
use Rattle.remember.specs.Table.{Entry, nth_region}
use Rattle.chains.specs.Chains.{Among, chains_of}
use Rattle.chains.specs.Firsts.{first_from, next_of}
use Rattle.chains.proofs.Firsts.{first-end, first-here, first-other, next-is, next-end}
use Rattle.chains.proofs.Linking.{agreed, agreed-first, agreed-next}
use Rattle.linking.specs.Words.{Names, names-one, Chained}
use Rattle.linking.specs.Shifting.{Parted}
use Rattle.linking.specs.Joining.{Else}

-- the region of the word at a position
unfoldable pub word_region : ℕ → List Entry → ℕ → ℕ
word_region R es w = cond (ltb w R) (suc w) (nth_region es (w - R))

module _ (R : ℕ) (es : List Entry) where
  pub region-first : (w : ℕ) → w < R → word_region R es w ≡ suc w
  unfolding word_region
  region-first w l = ap (λ (b : Bool). cond b (suc w) (nth_region es (w - R))) (lt-ltb w R l)

  pub region-next : (w : ℕ) → R ≤ w → word_region R es w ≡ nth_region es (w - R)
  unfolding word_region
  region-next w l = ap (λ (b : Bool). cond b (suc w) (nth_region es (w - R))) (le-ltb w R l)

  -- ---- what the chains of the entries name

  from-here : (g n i : ℕ) → i + n ≡ length es → Names 0 (length es) (nth_region es) g i (first_from g es i)
  from-here g zero i e =
      subst (Names 0 (length es) (nth_region es) g i) (sym (first-end g es i (omega arith)))
      (record {
        first = λ j l h w. absurd (let z : ⊥ = omega arith in z);
        later = λ p. absurd (let z : ⊥ = omega arith in z);
        low = λ p. absurd (let z : ⊥ = omega arith in z);
        same = λ p. absurd (let z : ⊥ = omega arith in z);
      })
  from-here g (suc n) i e = go (ℕ_discrete (nth_region es i) g) (from-here g n (suc i) (omega arith))
    where
      go : Dec (nth_region es i ≡ g) → Names 0 (length es) (nth_region es) g (suc i) (first_from g es (suc i)) → Names 0 (length es) (nth_region es) g i (first_from g es i)
      go (yes q) rest =
          let v : 0 + suc i - 1 ≡ i = omega arith in
          subst (Names 0 (length es) (nth_region es) g i) (sym (first-here g es i (omega arith) q))
          (record {
            first = λ j l h w. (omega arith, omega arith);
            later = λ p. omega arith;
            low = λ p. omega arith;
            same = λ p. ap (nth_region es) v ∙ q;
          })
      go (no q) rest =
          subst (Names 0 (length es) (nth_region es) g i) (sym (first-other g es i (omega arith) q))
          (record {
            first = λ j l h w. rest.first j (let d : j ≡ i → ⊥ = (λ z. q (sym (ap (nth_region es) z) ∙ w)) in omega (arith, d)) h w;
            later = λ p. omega (arith, rest.later p);
            low = rest.low;
            same = rest.same;
          })

  abbrev n : ℕ
  n = R + length es

  abbrev f : ℕ → ℕ
  f = word_region R es

  from_place : (g i : ℕ) → i ≤ length es → Names R n f g (R + i) (first_from g es i)
  from_place g i l =
      record {
        first = λ j a b w.
            let r = N.first (j - R) (omega arith) (omega arith) (sym (region-next j (omega arith)) ∙ w) in
            (r.0, omega (arith, r.1));
        later = λ p. omega (arith, N.later p);
        low = λ p. omega (arith, N.low p);
        same = λ p.
            let v : R + first_from g es i - 1 - R ≡ 0 + first_from g es i - 1 = omega arith in
            region-next (R + first_from g es i - 1) (omega arith) ∙ ap (nth_region es) v ∙ N.same p;
      }
    where
      N : Names 0 (length es) (nth_region es) g i (first_from g es i)
      N = from-here g (length es - i) i (omega arith)

  -- the first word of region w + 1, and the next word of entry j
  first-names : (w : ℕ) → w < R → Names R n f (f w) (suc w) (first_from (suc w) es 0)
  first-names w l =
      subst (λ (h : ℕ). Names R n f h (suc w) (first_from (suc w) es 0)) (sym (region-first w l))
      (record {
        first = λ j a b e. first j a b e (dec_lt j R);
        later = λ p. omega (arith, N.later p);
        low = N.low;
        same = N.same;
      })
    where
      N : Names R n f (suc w) (R + 0) (first_from (suc w) es 0)
      N = from_place (suc w) 0 (omega arith)

      first : (j : ℕ) → suc w ≤ j → j < n → f j ≡ suc w → Dec (j < R) → (0 < first_from (suc w) es 0) × (R + first_from (suc w) es 0 ≤ j + 1)
      first j a b e (yes h) = absurd (let z : ⊥ = omega (arith, region-first j h) in z)
      first j a b e (no h) = N.first j (omega arith) b e

  next-names : (j : ℕ) → j < length es → Names R n f (f (R + j)) (suc (R + j)) (next_of es j)
  next-names j l =
      let v : R + j - R ≡ j = omega arith in
      let u : R + suc j ≡ suc (R + j) = omega arith in
      subst (Names R n f (f (R + j)) (suc (R + j))) (sym (next-is es j l))
      (subst (λ (h : ℕ). Names R n f h (suc (R + j)) (first_from (nth_region es j) es (suc j))) (sym (region-next (R + j) (omega arith) ∙ ap (nth_region es) v))
      (subst (λ (s : ℕ). Names R n f (nth_region es j) s (first_from (nth_region es j) es (suc j))) u (from_place (nth_region es j) (suc j) l)))

  positive : Among R es → (w : ℕ) → w < n → 0 < f w
  positive a w l = go (dec_lt w R)
    where
      go : Dec (w < R) → 0 < f w
      go (yes h) = omega (arith, region-first w h)
      go (no h) = omega (arith, region-next w (omega arith), (a (w - R) (omega arith)).0)

  -- ---- the words

  module _ (N : ℕ) (k : List ℕ) (few : length es ≤ N) (room : R + N ≤ length k) (a : Among R es) where
    pub chains-chained : take (R + N) k ≡ chains_of R N es → Chained R n f k
    chains-chained e = record {
      on = λ w l p. on w l (dec_lt w R);
      off = λ w l z. absurd (let v : ⊥ = omega (arith, positive a w l) in v);
    }
      where
        on : (w : ℕ) → w < n → Dec (w < R) → Names R n f (f w) (suc w) (get_or k w 0)
        on w l (yes h) = subst (Names R n f (f w) (suc w)) (sym (agreed-first R N es k few room e w h)) (first-names w h)
        on w l (no h) =
            let v : R + (w - R) ≡ w = omega arith in
            subst (λ (i : ℕ). Names R n f (f i) (suc i) (get_or k i 0)) v
            (subst (Names R n f (f (R + (w - R))) (suc (R + (w - R)))) (sym (agreed-next R N es k few room e (w - R) (omega arith))) (next-names (w - R) (omega arith)))

    pub chains-rest : take (R + N) k ≡ chains_of R N es → (j : ℕ) → n ≤ j → j < R + N → get_or k j 0 ≡ 0
    chains-rest e j l h =
        let v : j ≡ R + (j - R) = omega arith in
        ap (λ (i : ℕ). get_or k i 0) v ∙ agreed-next R N es k few room e (j - R) (omega arith) ∙ next-end es (j - R) (omega arith)

    pub chained-chains : Chained R n f k → ((j : ℕ) → n ≤ j → j < R + N → get_or k j 0 ≡ 0) → take (R + N) k ≡ chains_of R N es
    chained-chains c z =
        agreed R N es k few room
        (λ r l. names-one (c.on r (omega arith) (positive a r (omega arith))) (first-names r l))
        (λ j l. next j l (dec_lt j (length es)))
      where
        next : (j : ℕ) → j < N → Dec (j < length es) → get_or k (R + j) 0 ≡ next_of es j
        next j l (yes h) = names-one (c.on (R + j) (omega arith) (positive a (R + j) (omega arith))) (next-names j h)
        next j l (no h) = z (R + j) (omega arith) (omega arith) ∙ sym (next-end es j (omega arith))

-- lists of one length that agree from n on, of which one begins with the words c
pub begins-with : (n : ℕ) (k k' c : List ℕ) → length k' ≡ length k → ((j : ℕ) → n ≤ j → get_or k' j 0 ≡ get_or k j 0) → take n k' ≡ c → k' ≡ c ++ drop n k
begins-with n k k' c long h e = sym (take-append-drop n k') ∙ ap (λ l. l ++ drop n k') e ∙ ap (λ l. c ++ l) (drop-same n k k' long h)

-- ---- the regions, with an entry in no chain

unfoldable pub without : ℕ → (ℕ → ℕ) → ℕ → ℕ
without Q f j = cond (eqb j Q) 0 (f j)

module _ (Q : ℕ) (f : ℕ → ℕ) where
  pub without-here : without Q f Q ≡ 0
  unfolding without
  without-here = ap (λ (b : Bool). cond b 0 (f Q)) (eq-eqb Q Q refl)

  pub without-else : Else Q f (without Q f)
  unfolding without
  without-else j d = ap (λ (b : Bool). cond b 0 (f j)) (ne_eqb j Q d)

-- es' has an entry at place q that es lacks
pub record Lacks (q : ℕ) (es es' : List Entry) : Type 0 where
  pub below : (j : ℕ) → j < q → nth_region es' j ≡ nth_region es j
  pub above : (j : ℕ) → q ≤ j → nth_region es' (suc j) ≡ nth_region es j

module _ (R : ℕ) {q : ℕ} (es es' : List Entry) where
  pub lacks-parted : Lacks q es es' → Parted (R + q) (word_region R es) (without (R + q) (word_region R es'))
  lacks-parted l = record {
    below = λ j h. without-else (R + q) (word_region R es') j (λ (z : j ≡ R + q). omega arith) ∙ below j h (dec_lt j R);
    here = without-here (R + q) (word_region R es');
    above = λ j h.
        let v : suc j - R ≡ suc (j - R) = omega arith in
        without-else (R + q) (word_region R es') (suc j) (λ (z : suc j ≡ R + q). omega arith)
        ∙ region-next R es' (suc j) (omega arith) ∙ ap (nth_region es') v ∙ l.above (j - R) (omega arith) ∙ sym (region-next R es j (omega arith));
  }
    where
      below : (j : ℕ) → j < R + q → Dec (j < R) → word_region R es' j ≡ word_region R es j
      below j h (yes b) = region-first R es' j b ∙ sym (region-first R es j b)
      below j h (no b) = region-next R es' j (omega arith) ∙ l.below (j - R) (omega arith) ∙ sym (region-next R es j (omega arith))

  pub same-else : ((j : ℕ) → (j ≡ q → ⊥) → nth_region es' j ≡ nth_region es j) → Else (R + q) (word_region R es) (word_region R es')
  same-else e j d = go (dec_lt j R)
    where
      go : Dec (j < R) → word_region R es' j ≡ word_region R es j
      go (yes b) = region-first R es' j b ∙ sym (region-first R es j b)
      go (no b) = region-next R es' j (omega arith) ∙ e (j - R) (λ (z : j - R ≡ q). d (omega arith)) ∙ sym (region-next R es j (omega arith))

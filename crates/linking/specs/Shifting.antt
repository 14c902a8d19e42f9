-- The words when a place is made for an entry that is in no chain, and when such an entry goes.
use Rattle.std.specs.Prelude.{ℕ, suc, ◌+◌, ◌-◌, ◌≤◌, ◌<◌, Bool, cond, List, ◌⊎◌, ◌≡◌, refl, ltb, length, get_or}
use Rattle.std.proofs.Common.{inl, inr, ⊎_elim, sym, ap, subst, ◌∙◌, arith, lt-ltb, le-ltb}
use Rattle.std.proofs.Math.Decide.{ℕ_discrete, dec_lt}
use Rattle.linking.specs.Words.{Names, Chained}

-- a word, when the entries from place q on stand one place higher, or those after it one lower
unfoldable pub raised : ℕ → ℕ → ℕ
raised q x = cond (ltb q x) (x + 1) x

unfoldable pub lowered : ℕ → ℕ → ℕ
lowered q x = cond (ltb q x) (x - 1) x

pub raised-more : (q x : ℕ) → q < x → raised q x ≡ x + 1
unfolding raised
raised-more q x l = ap (λ (b : Bool). cond b (x + 1) x) (lt-ltb q x l)

pub raised-same : (q x : ℕ) → x ≤ q → raised q x ≡ x
unfolding raised
raised-same q x l = ap (λ (b : Bool). cond b (x + 1) x) (le-ltb q x l)

pub lowered-less : (q x : ℕ) → q < x → lowered q x ≡ x - 1
unfolding lowered
lowered-less q x l = ap (λ (b : Bool). cond b (x - 1) x) (lt-ltb q x l)

pub lowered-same : (q x : ℕ) → x ≤ q → lowered q x ≡ x
unfolding lowered
lowered-same q x l = ap (λ (b : Bool). cond b (x - 1) x) (le-ltb q x l)

-- the regions f' are f, with a position Q of no region put in
pub record Parted (Q : ℕ) (f f' : ℕ → ℕ) : Type 0 where
  pub below : (j : ℕ) → j < Q → f' j ≡ f j
  pub here : f' Q ≡ 0
  pub above : (j : ℕ) → Q ≤ j → f' (suc j) ≡ f j

module _ (R n q : ℕ) (high : R + q ≤ n) {f f' : ℕ → ℕ} (p : Parted (R + q) f f') where
  abbrev Q : ℕ
  Q = R + q

  -- from s on, or from s' on after the place is made
  module _ {h s s' : ℕ} (pos : 0 < h) (to : ((s ≤ Q) × (s' ≡ s)) ⊎ ((Q ≤ s) × (s' ≡ suc s))) where
    below-from : {j : ℕ} → j < Q → s ≤ j → s' ≤ j
    below-from {j} l g = ⊎_elim {C = s' ≤ j} (λ v. omega (arith, v.0, v.1)) (λ v. omega (arith, v.0, v.1)) to

    from-below : {j : ℕ} → j < Q → s' ≤ j → s ≤ j
    from-below {j} l g = ⊎_elim {C = s ≤ j} (λ v. omega (arith, v.0, v.1)) (λ v. omega (arith, v.0, v.1)) to

    above_from : {j : ℕ} → Q ≤ j → s ≤ j → s' ≤ suc j
    above_from {j} l g = ⊎_elim {C = s' ≤ suc j} (λ v. omega (arith, v.0, v.1)) (λ v. omega (arith, v.0, v.1)) to

    from-above : {j : ℕ} → Q ≤ j → s' ≤ suc j → s ≤ j
    from-above {j} l g = ⊎_elim {C = s ≤ j} (λ v. omega (arith, v.0, v.1)) (λ v. omega (arith, v.0, v.1)) to

    names-up : {x : ℕ} → Names R n f h s x → Names R (suc n) f' h s' (raised q x)
    names-up {x} a = go (dec_lt q x)
      where
        found : (j : ℕ) → s' ≤ j → j < suc n → f' j ≡ h → Dec (j < Q) → Dec (Q < j) → (0 < x) × (R + x ≤ j + 1) × (q < x → R + x ≤ j)
        found j l b e (yes v) t =
            let i = a.first j (from-below v l) (omega arith) (sym (p.below j v) ∙ e) in
            (i.0, i.1, λ (y : q < x). omega (arith, i.1))
        found j l b e (no v) (yes t) =
            let k : suc (j - 1) ≡ j = omega arith in
            let i = a.first (j - 1) (from-above (omega arith) (omega arith)) (omega arith) (sym (p.above (j - 1) (omega arith)) ∙ ap f' k ∙ e) in
            (i.0, omega (arith, i.1), λ (y : q < x). omega (arith, i.1))
        found j l b e (no v) (no t) =
            let k : j ≡ Q = omega arith in
            absurd (let z : ⊥ = omega (arith, sym (ap f' k) ∙ e, p.here) in z)

        go : Dec (q < x) → Names R (suc n) f' h s' (raised q x)
        go (yes y) =
            let k : R + (x + 1) - 1 ≡ suc (R + x - 1) = omega arith in
            subst (Names R (suc n) f' h s') (sym (raised-more q x y))
            (record {
              first = λ j l b e. let i = found j l b e (dec_lt j Q) (dec_lt Q j) in (omega arith, omega (arith, i.2 y));
              later = λ z. let i = above_from {j = R + x - 1} (omega (arith, a.later (omega arith))) (omega (arith, a.later (omega arith))) in omega (arith, i);
              low = λ z. omega (arith, a.low (omega arith));
              same = λ z. ap f' k ∙ p.above (R + x - 1) (omega arith) ∙ a.same (omega arith);
            })
        go (no y) =
            subst (Names R (suc n) f' h s') (sym (raised-same q x (omega arith)))
            (record {
              first = λ j l b e. let i = found j l b e (dec_lt j Q) (dec_lt Q j) in (i.0, i.1);
              later = λ z. let i = below-from {j = R + x - 1} (omega arith) (omega (arith, a.later z)) in omega (arith, i);
              low = λ z. omega (arith, a.low z);
              same = λ z. p.below (R + x - 1) (omega arith) ∙ a.same z;
            })

    names-down : {x : ℕ} → Names R (suc n) f' h s' x → Names R n f h s (lowered q x)
    names-down {x} a = go (dec_lt q x)
      where
        other : q < x → q + 1 < x
        other o = go (ℕ_discrete x (q + 1))
          where
            go : Dec (x ≡ q + 1) → q + 1 < x
            go (yes e) =
                let k : R + x - 1 ≡ Q = omega arith in
                absurd (let z : ⊥ = omega (arith, a.same (omega arith), ap f' k, p.here) in z)
            go (no e) = omega arith

        found : (j : ℕ) → s ≤ j → j < n → f j ≡ h → Dec (j < Q) → (0 < x) × (R + x ≤ suc j + 1) × (x ≤ q → R + x ≤ j + 1)
        found j l b e (yes v) =
            let i = a.first j (below-from v l) (omega arith) (p.below j v ∙ e) in
            (i.0, omega (arith, i.1), λ (y : x ≤ q). i.1)
        found j l b e (no v) =
            let i = a.first (suc j) (above_from (omega arith) l) (omega arith) (p.above j (omega arith) ∙ e) in
            (i.0, i.1, λ (y : x ≤ q). omega arith)

        go : Dec (q < x) → Names R n f h s (lowered q x)
        go (yes y) =
            let o = other y in
            let k : suc (R + (x - 1) - 1) ≡ R + x - 1 = omega arith in
            subst (Names R n f h s) (sym (lowered-less q x y))
            (record {
              first = λ j l b e. let i = found j l b e (dec_lt j Q) in (omega arith, omega (arith, i.1));
              later = λ z. let i = from-above {j = R + (x - 1) - 1} (omega arith) (omega (arith, a.later (omega arith))) in omega (arith, i);
              low = λ z. omega (arith, a.low (omega arith));
              same = λ z. sym (p.above (R + (x - 1) - 1) (omega arith)) ∙ ap f' k ∙ a.same (omega arith);
            })
        go (no y) =
            subst (Names R n f h s) (sym (lowered-same q x (omega arith)))
            (record {
              first = λ j l b e. let i = found j l b e (dec_lt j Q) in (i.0, i.2 (omega arith));
              later = λ z. let i = from-below {j = R + x - 1} (omega arith) (omega (arith, a.later z)) in omega (arith, i);
              low = λ z. omega arith;
              same = λ z. sym (p.below (R + x - 1) (omega arith)) ∙ a.same z;
            })

-- ---- what the code does

-- of n words, those from position R + q on stand one place higher, all are renumbered, and the word at R + q is 0
pub record Opened (R n q : ℕ) (k k' : List ℕ) : Type 0 where
  pub long : length k' ≡ length k
  pub below : (j : ℕ) → j < R + q → get_or k' j 0 ≡ raised q (get_or k j 0)
  pub here : get_or k' (R + q) 0 ≡ 0
  pub above : (j : ℕ) → R + q ≤ j → j < n → get_or k' (suc j) 0 ≡ raised q (get_or k j 0)
  pub rest : (j : ℕ) → n < j → get_or k' j 0 ≡ get_or k j 0

pub opened-chained : {R n q : ℕ} {f f' : ℕ → ℕ} {k k' : List ℕ} → R + q ≤ n → Opened R n q k k' → Parted (R + q) f f' → Chained R n f k → Chained R (suc n) f' k'
opened-chained {R} {n} {q} {f} {f'} {k} {k'} high o p c = record {
  on = λ w l g. on w l g (dec_lt w (R + q)) (dec_lt (R + q) w);
  off = λ w l g. off w l g (dec_lt w (R + q)) (dec_lt (R + q) w);
}
  where
    on : (w : ℕ) → w < suc n → 0 < f' w → Dec (w < R + q) → Dec (R + q < w) → Names R (suc n) f' (f' w) (suc w) (get_or k' w 0)
    on w l g (yes a) b =
        let e = p.below w a in
        let N = c.on w (omega arith) (omega (arith, e)) in
        subst (Names R (suc n) f' (f' w) (suc w)) (sym (o.below w a))
        (subst (λ (h : ℕ). Names R (suc n) f' h (suc w) (raised q (get_or k w 0))) (sym e)
        (names-up R n q high p (omega (arith, e)) (inl (omega arith, refl)) N))
    on w l g (no a) (yes b) =
        let v : suc (w - 1) ≡ w = omega arith in
        let e : f' w ≡ f (w - 1) = ap f' (sym v) ∙ p.above (w - 1) (omega arith) in
        let N = c.on (w - 1) (omega arith) (omega (arith, e)) in
        subst (Names R (suc n) f' (f' w) (suc w)) (sym (ap (λ (i : ℕ). get_or k' i 0) (sym v) ∙ o.above (w - 1) (omega arith) (omega arith)))
        (subst (λ (h : ℕ). Names R (suc n) f' h (suc w) (raised q (get_or k (w - 1) 0))) (sym e)
        (names-up R n q high p (omega (arith, e)) (inr (omega arith, ap suc (sym v))) N))
    on w l g (no a) (no b) =
        let v : w ≡ R + q = omega arith in
        absurd (let z : ⊥ = omega (arith, ap f' v, p.here) in z)

    off : (w : ℕ) → w < suc n → f' w ≡ 0 → Dec (w < R + q) → Dec (R + q < w) → get_or k' w 0 ≡ 0
    off w l g (yes a) b = o.below w a ∙ ap (raised q) (c.off w (omega arith) (sym (p.below w a) ∙ g)) ∙ raised-same q 0 (omega arith)
    off w l g (no a) (yes b) =
        let v : suc (w - 1) ≡ w = omega arith in
        ap (λ (i : ℕ). get_or k' i 0) (sym v) ∙ o.above (w - 1) (omega arith) (omega arith)
        ∙ ap (raised q) (c.off (w - 1) (omega arith) (sym (p.above (w - 1) (omega arith)) ∙ ap f' v ∙ g)) ∙ raised-same q 0 (omega arith)
    off w l g (no a) (no b) = let v : w ≡ R + q = omega arith in ap (λ (i : ℕ). get_or k' i 0) v ∙ o.here

-- of n + 1 words, that at R + q goes, those after it stand one place lower, all are renumbered, and the last is 0
pub record Closed (R n q : ℕ) (k k' : List ℕ) : Type 0 where
  pub long : length k' ≡ length k
  pub below : (j : ℕ) → j < R + q → get_or k' j 0 ≡ lowered q (get_or k j 0)
  pub above : (j : ℕ) → R + q ≤ j → j < n → get_or k' j 0 ≡ lowered q (get_or k (suc j) 0)
  pub last : get_or k' n 0 ≡ 0
  pub rest : (j : ℕ) → n < j → get_or k' j 0 ≡ get_or k j 0

pub closed-chained : {R n q : ℕ} {f f' : ℕ → ℕ} {k k' : List ℕ} → R + q ≤ n → Closed R n q k k' → Parted (R + q) f f' → Chained R (suc n) f' k → Chained R n f k'
closed-chained {R} {n} {q} {f} {f'} {k} {k'} high o p c = record {
  on = λ w l g. on w l g (dec_lt w (R + q));
  off = λ w l g. off w l g (dec_lt w (R + q));
}
  where
    on : (w : ℕ) → w < n → 0 < f w → Dec (w < R + q) → Names R n f (f w) (suc w) (get_or k' w 0)
    on w l g (yes a) =
        let e = p.below w a in
        let N = c.on w (omega arith) (omega (arith, e)) in
        subst (Names R n f (f w) (suc w)) (sym (o.below w a))
        (names-down R n q high p g (inl (omega arith, refl))
        (subst (λ (h : ℕ). Names R (suc n) f' h (suc w) (get_or k w 0)) e N))
    on w l g (no a) =
        let e = p.above w (omega arith) in
        let N = c.on (suc w) (omega arith) (omega (arith, e)) in
        subst (Names R n f (f w) (suc w)) (sym (o.above w (omega arith) l))
        (names-down R n q high p g (inr (omega arith, refl))
        (subst (λ (h : ℕ). Names R (suc n) f' h (suc (suc w)) (get_or k (suc w) 0)) e N))

    off : (w : ℕ) → w < n → f w ≡ 0 → Dec (w < R + q) → get_or k' w 0 ≡ 0
    off w l g (yes a) = o.below w a ∙ ap (lowered q) (c.off w (omega arith) (p.below w a ∙ g)) ∙ lowered-same q 0 (omega arith)
    off w l g (no a) =
        o.above w (omega arith) l ∙ ap (lowered q) (c.off (suc w) (omega arith) (p.above w (omega arith) ∙ g)) ∙ lowered-same q 0 (omega arith)

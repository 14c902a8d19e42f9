-- An entry is taken into the chain of a region, or out of it: its own word and the word before it in the chain are stored, no other.
use Rattle.std.specs.Prelude.{ℕ, suc, ◌+◌, ◌-◌, ◌≤◌, ◌<◌, List, ◌≡◌, length, get_or, set}
use Rattle.std.proofs.Common.{sym, ap, subst, ◌∙◌, arith, length-set}
use Rattle.std.proofs.Math.Decide.{ℕ_discrete, dec_lt}
use Rattle.lists.specs.Stores.{put, past}
use Rattle.linking.specs.Words.{Names, Chained}

-- r is the last position of region g before that of entry q
pub record Before (R : ℕ) (f : ℕ → ℕ) (g q : ℕ) (k : List ℕ) (r : ℕ) : Type 0 where
  pub low : r < R + q
  pub same : f r ≡ g
  pub past : 0 < get_or k r 0 → q < get_or k r 0

-- f' is f but at position Q
abbrev pub Else : ℕ → (ℕ → ℕ) → (ℕ → ℕ) → Type 0
Else Q f f' = (j : ℕ) → (j ≡ Q → ⊥) → f' j ≡ f j

module _ {R n : ℕ} {f f' : ℕ → ℕ} {g q r : ℕ} {k : List ℕ} (c : Chained R n f k) (pos : 0 < g) (q-low : R + q < n) (b : Before R f g q k r) (e : Else (R + q) f f') where
  abbrev Q : ℕ
  Q = R + q

  abbrev x : ℕ
  x = get_or k r 0

  -- the word before
  ahead : Names R n f g (suc r) x
  ahead = subst (λ (h : ℕ). Names R n f h (suc r) x) b.same (c.on r (omega (arith, b.low)) (omega (arith, b.same)))

  -- no position between is of region g
  between : (j : ℕ) → r < j → j < Q → f j ≡ g → ⊥
  between j l h w = let i = ahead.first j l (omega arith) w in omega (arith, i.1, b.past i.0)

  -- another word of that chain below Q leads no further than r
  nearer : (w : ℕ) → w < Q → (w ≡ r → ⊥) → f w ≡ g → {y : ℕ} → Names R n f (f w) (suc w) y → (0 < y) × (R + y ≤ Q)
  nearer w l d a {y} o = go (dec_lt w r)
    where
      go : Dec (w < r) → (0 < y) × (R + y ≤ Q)
      go (yes h) = let i = o.first r h (omega (arith, b.low)) (b.same ∙ sym a) in (i.0, omega (arith, i.1, b.low))
      go (no h) = absurd (between w (omega arith) l a)

  module _ (none : f Q ≡ 0) (will : f' Q ≡ g) (long : n ≤ length k) where
    abbrev k' : List ℕ
    k' = set (set k Q x) r (q + 1)

    len : length (set k Q x) ≡ length k
    len = length-set k Q x

    -- a position that a word of a chain names is not Q
    off-Q : (i : ℕ) → 0 < f i → i ≡ Q → ⊥
    off-Q i p z = omega (arith, ap f z)

    own : Names R n f' g (suc Q) x
    own = record {
      first = λ j l h w. ahead.first j (omega (arith, b.low)) h (sym (e j (λ (z : j ≡ Q). omega arith)) ∙ w);
      later = λ p.
          let d : R + x - 1 ≡ Q → ⊥ = off-Q (R + x - 1) (omega (arith, ahead.same p)) in
          omega (arith, b.past p, d);
      low = ahead.low;
      same = λ p. e (R + x - 1) (off-Q (R + x - 1) (omega (arith, ahead.same p))) ∙ ahead.same p;
    }

    before : Names R n f' g (suc r) (q + 1)
    before = record {
      first = λ j l h w. first j l h w (dec_lt j Q);
      later = λ p. omega (arith, b.low);
      low = λ p. omega arith;
      same = λ p. let z : R + (q + 1) - 1 ≡ Q = omega arith in ap f' z ∙ will;
    }
      where
        first : (j : ℕ) → suc r ≤ j → j < n → f' j ≡ g → Dec (j < Q) → (0 < q + 1) × (R + (q + 1) ≤ j + 1)
        first j l h w (yes t) = absurd (between j l t (sym (e j (λ (z : j ≡ Q). omega arith)) ∙ w))
        first j l h w (no t) = (omega arith, omega arith)

    other : (w : ℕ) → (w ≡ Q → ⊥) → (w ≡ r → ⊥) → 0 < f w → {y : ℕ} → Names R n f (f w) (suc w) y → Names R n f' (f w) (suc w) y
    other w d d' p {y} o = record {
      first = λ j l h z. first j l h z (ℕ_discrete j Q);
      later = o.later;
      low = o.low;
      same = λ z. e (R + y - 1) (off-Q (R + y - 1) (omega (arith, o.same z))) ∙ o.same z;
    }
      where
        first : (j : ℕ) → suc w ≤ j → j < n → f' j ≡ f w → Dec (j ≡ Q) → (0 < y) × (R + y ≤ j + 1)
        first j l h z (yes t) =
            let i = nearer w (omega arith) d' (sym z ∙ ap f' t ∙ will) o in
            (i.0, omega (arith, i.1))
        first j l h z (no t) = o.first j l h (sym (e j t) ∙ z)

    pub linked-chained : Chained R n f' k'
    linked-chained = record {
      on = λ w l p. on w l p (ℕ_discrete w Q) (ℕ_discrete w r);
      off = λ w l p. off w l p (ℕ_discrete w Q) (ℕ_discrete w r);
    }
      where
        far : Q ≡ r → ⊥
        far z = omega (arith, b.low)

        on : (w : ℕ) → w < n → 0 < f' w → Dec (w ≡ Q) → Dec (w ≡ r) → Names R n f' (f' w) (suc w) (get_or k' w 0)
        on w l p (yes z) t =
            subst (λ (i : ℕ). Names R n f' (f' i) (suc i) (get_or k' i 0)) (sym z)
            (subst (Names R n f' (f' Q) (suc Q)) (sym (past (set k Q x) r (q + 1) Q 0 far ∙ put k Q x 0 (omega arith)))
            (subst (λ (i : ℕ). Names R n f' i (suc Q) x) (sym will) own))
        on w l p (no z) (yes t) =
            subst (λ (i : ℕ). Names R n f' (f' i) (suc i) (get_or k' i 0)) (sym t)
            (subst (Names R n f' (f' r) (suc r)) (sym (put (set k Q x) r (q + 1) 0 (omega (arith, len, b.low))))
            (subst (λ (i : ℕ). Names R n f' i (suc r) (q + 1)) (sym (e r (λ y. far (sym y)) ∙ b.same)) before))
        on w l p (no z) (no t) =
            subst (Names R n f' (f' w) (suc w)) (sym (past (set k Q x) r (q + 1) w 0 t ∙ past k Q x w 0 z))
            (subst (λ (i : ℕ). Names R n f' i (suc w) (get_or k w 0)) (sym (e w z))
            (other w z t (omega (arith, e w z)) (c.on w l (omega (arith, e w z)))))

        off : (w : ℕ) → w < n → f' w ≡ 0 → Dec (w ≡ Q) → Dec (w ≡ r) → get_or k' w 0 ≡ 0
        off w l p (yes z) t = absurd (let v : ⊥ = omega (arith, ap f' z) in v)
        off w l p (no z) (yes t) = absurd (let v : ⊥ = omega (arith, ap f t, e w z, b.same) in v)
        off w l p (no z) (no t) = past (set k Q x) r (q + 1) w 0 t ∙ past k Q x w 0 z ∙ c.off w l (sym (e w z) ∙ p)

  module _ (was : f Q ≡ g) (none : f' Q ≡ 0) (long : n ≤ length k) where
    abbrev y : ℕ
    y = get_or k Q 0

    abbrev k'' : List ℕ
    k'' = set (set k r y) Q 0

    len'' : length (set k r y) ≡ length k
    len'' = length-set k r y

    -- the word before names entry q, whose own word names the next
    reaches : R + x ≡ Q + 1
    reaches = let i = ahead.first Q b.low q-low was in omega (arith, i.1, b.past i.0)

    after : Names R n f g (suc Q) y
    after = subst (λ (h : ℕ). Names R n f h (suc Q) y) was (c.on Q q-low (omega (arith, was)))

    -- a position of a region is not Q any more
    off-Q'' : (i : ℕ) → 0 < f' i → i ≡ Q → ⊥
    off-Q'' i p z = omega (arith, ap f' z)

    skips : Names R n f' g (suc r) y
    skips = record {
      first = λ j l h w.
          let d = off-Q'' j (omega arith) in
          let v = sym (e j d) ∙ w in
          let i = ahead.first j l h v in
          after.first j (omega (arith, i.1, reaches, d)) h v;
      later = λ p. omega (arith, after.later p, b.low);
      low = after.low;
      same = λ p. e (R + y - 1) (λ (z : R + y - 1 ≡ Q). omega (arith, after.later p)) ∙ after.same p;
    }

    other'' : (w : ℕ) → (w ≡ Q → ⊥) → (w ≡ r → ⊥) → 0 < f w → {v : ℕ} → Names R n f (f w) (suc w) v → Names R n f' (f w) (suc w) v
    other'' w d d' p {v} o = record {
      first = λ j l h z. o.first j l h (sym (e j (off-Q'' j (omega arith))) ∙ z);
      later = o.later;
      low = o.low;
      same = λ z. e (R + v - 1) (λ (t : R + v - 1 ≡ Q).
          let i = nearer w (omega (arith, o.later z)) d' (sym (o.same z) ∙ ap f t ∙ was) o in
          omega (arith, i.1)) ∙ o.same z;
    }

    pub unlinked-chained : Chained R n f' k''
    unlinked-chained = record {
      on = λ w l p. on w l p (ℕ_discrete w Q) (ℕ_discrete w r);
      off = λ w l p. off w l p (ℕ_discrete w Q) (ℕ_discrete w r);
    }
      where
        far : r ≡ Q → ⊥
        far z = omega (arith, b.low)

        on : (w : ℕ) → w < n → 0 < f' w → Dec (w ≡ Q) → Dec (w ≡ r) → Names R n f' (f' w) (suc w) (get_or k'' w 0)
        on w l p (yes z) t = absurd (off-Q'' w p z)
        on w l p (no z) (yes t) =
            subst (λ (i : ℕ). Names R n f' (f' i) (suc i) (get_or k'' i 0)) (sym t)
            (subst (Names R n f' (f' r) (suc r)) (sym (past (set k r y) Q 0 r 0 far ∙ put k r y 0 (omega (arith, b.low))))
            (subst (λ (i : ℕ). Names R n f' i (suc r) y) (sym (e r far ∙ b.same)) skips))
        on w l p (no z) (no t) =
            subst (Names R n f' (f' w) (suc w)) (sym (past (set k r y) Q 0 w 0 z ∙ past k r y w 0 t))
            (subst (λ (i : ℕ). Names R n f' i (suc w) (get_or k w 0)) (sym (e w z))
            (other'' w z t (omega (arith, e w z)) (c.on w l (omega (arith, e w z)))))

        off : (w : ℕ) → w < n → f' w ≡ 0 → Dec (w ≡ Q) → Dec (w ≡ r) → get_or k'' w 0 ≡ 0
        off w l p (yes z) t = ap (λ (i : ℕ). get_or k'' i 0) z ∙ put (set k r y) Q 0 0 (omega (arith, len''))
        off w l p (no z) (yes t) = absurd (let v : ⊥ = omega (arith, ap f t, e w z, b.same) in v)
        off w l p (no z) (no t) = past (set k r y) Q 0 w 0 z ∙ past k r y w 0 t ∙ c.off w l (sym (e w z) ∙ p)

-- ---- what the code does

-- r is that position whatever the regions are that the words are chained by, the first word of g among them
abbrev pub IsBefore : ℕ → ℕ → ℕ → List ℕ → ℕ → Type 0
IsBefore R g q k r = (n : ℕ) (f : ℕ → ℕ) → Chained R n f k → R + q ≤ n → f (g - 1) ≡ g → Before R f g q k r

-- on the way to it: a position of that chain, and its word
pub record Walk (R g q : ℕ) (k : List ℕ) (at x : ℕ) : Type 0 where
  pub low : at < R + q
  pub word : x ≡ get_or k at 0
  pub same : (n : ℕ) (f : ℕ → ℕ) → Chained R n f k → R + q ≤ n → f (g - 1) ≡ g → f at ≡ g

module _ {R g q : ℕ} {k : List ℕ} where
  pub walk-starts : 1 ≤ g → g ≤ R → {x : ℕ} → x ≡ get_or k (g - 1) 0 → Walk R g q k (g - 1) x
  walk-starts l h e = record { low = omega arith; word = e; same = λ n f c b s. s }

  pub walk-goes-on : 1 ≤ g → {at x y : ℕ} → Walk R g q k at x → 0 < x → x ≤ q → y ≡ get_or k (R + x - 1) 0 → Walk R g q k (R + x - 1) y
  walk-goes-on pos {at} {x} w p l e = record {
    low = omega arith;
    word = e;
    same = λ n f c b s.
        let i = w.same n f c b s in
        let o = c.on at (omega (arith, w.low)) (omega (arith, i)) in
        ap (λ (z : ℕ). f (R + z - 1)) w.word ∙ o.same (omega (arith, w.word)) ∙ i;
  }

  pub walk_ends : {at x : ℕ} → Walk R g q k at x → (0 < x → q < x) → IsBefore R g q k at
  walk_ends {at} {x} w p n f c b s = record { low = w.low; same = w.same n f c b s; past = subst (λ (y : ℕ). 0 < y → q < y) w.word p }

-- entry q, which is in no chain, is taken into that of region g
pub record Linked (R g q : ℕ) (k k' : List ℕ) : Type 0 where
  pub before : ℕ
  pub low : before < R + q
  pub right : IsBefore R g q k before
  pub stored : k' ≡ set (set k (R + q) (get_or k before 0)) before (q + 1)

-- entry q is taken out of the chain of region g
pub record Unlinked (R g q : ℕ) (k k' : List ℕ) : Type 0 where
  pub before : ℕ
  pub low : before < R + q
  pub right : IsBefore R g q k before
  pub stored : k' ≡ set (set k before (get_or k (R + q) 0)) (R + q) 0

-- two stores up to Q
stored-long : (k : List ℕ) (i j x y : ℕ) {k' : List ℕ} → k' ≡ set (set k i x) j y → length k' ≡ length k
stored-long k i j x y e = ap length e ∙ length-set (set k i x) j y ∙ length-set k i x

stored-else : (k : List ℕ) (i j x y : ℕ) {k' : List ℕ} → k' ≡ set (set k i x) j y → (w : ℕ) → i < w → j < w → get_or k' w 0 ≡ get_or k w 0
stored-else k i j x y e w l h =
    ap (λ (l : List ℕ). get_or l w 0) e ∙ past (set k i x) j y w 0 (λ (z : w ≡ j). omega arith) ∙ past k i x w 0 (λ (z : w ≡ i). omega arith)

module _ {R g q : ℕ} {k k' : List ℕ} where
  pub linked_long : Linked R g q k k' → length k' ≡ length k
  linked_long l = stored-long k _ _ _ _ l.stored

  pub linked-else : Linked R g q k k' → (w : ℕ) → R + q < w → get_or k' w 0 ≡ get_or k w 0
  linked-else l w h = stored-else k _ _ _ _ l.stored w h (omega (arith, l.low))

  pub unlinked-long : Unlinked R g q k k' → length k' ≡ length k
  unlinked-long l = stored-long k _ _ _ _ l.stored

  pub unlinked-else : Unlinked R g q k k' → (w : ℕ) → R + q < w → get_or k' w 0 ≡ get_or k w 0
  unlinked-else l w h = stored-else k _ _ _ _ l.stored w (omega (arith, l.low)) h

module _ {R n g q : ℕ} {f f' : ℕ → ℕ} {k k' : List ℕ} (c : Chained R n f k) (pos : 0 < g) (low : R + q < n) (long : n ≤ length k) (head : f (g - 1) ≡ g) (e : Else (R + q) f f') where
  pub linked-chains : f (R + q) ≡ 0 → f' (R + q) ≡ g → Linked R g q k k' → Chained R n f' k'
  linked-chains none will l =
      subst (Chained R n f') (sym l.stored) (linked-chained c pos low (l.right n f c (omega arith) head) e none will long)

  pub unlinked-chains : f (R + q) ≡ g → f' (R + q) ≡ 0 → Unlinked R g q k k' → Chained R n f' k'
  unlinked-chains was none l =
      subst (Chained R n f') (sym l.stored) (unlinked-chained c pos low (l.right n f c (omega arith) head) e was none long)

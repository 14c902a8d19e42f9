-- The remembered slots, the fields of one cell and the variables are rewritten.
use Rattle.std.specs.Prelude.{◌≡◌, refl, ◌≢◌, ◌⊎◌, List, ℕ, ◌+◌, ◌-◌, ◌≤◌, ◌<◌, length, get_or, set}
use Rattle.std.proofs.Common.{sym, ap, ◌∙◌, subst, inl, inr, ⊎_elim, arith, length-set, get_or-set_same, get_or-set_other}
use Rattle.std.proofs.Math.Decide.{dec_lt, ℕ_discrete}
use Rattle.rules.specs.declared.Sizes.{Sizes}
use Rattle.layout.specs.Places.{Room, entries_used, var_at, var_count, var_of, slot_in, slot_region_in, vars_from, cells_words}
use Rattle.layout.specs.Cells.{field_at, page_of, word_of, most_fields}
use Rattle.layout.specs.Words.{Names}
use Rattle.remember.specs.Entries.{NamedWith, rising-once}
use Rattle.remember.specs.Staying.{Entries}
use Rattle.chains.proofs.Walking.{Leads}
use Rattle.settle.specs.Rewrite.{forwarded, Rewritten, rewritten-none, rewritten-one, rewritten-join, rewritten-like}

-- ---- the remembered slots with region r

-- entries whose slots are words of fields
pub record Slots (p : Sizes) (r n m : ℕ) (W M : List ℕ) : Type 0 where
  pub entries : Entries p r n m W M
  pub fields : (i : ℕ) → i < m → 2 ≤ word_of (slot_in M i)

module _ {p : Sizes} {r n m : ℕ} {W M W' : List ℕ} {i : ℕ} (a : Slots p r n m W M) (lt : i < m) (h : Rewritten (NamedWith r n i M) W W') where
  fresh : NamedWith r n i M (slot_in M i) → ⊥
  fresh q = rising-once M m a.entries.rising q.entry i q.low lt q.slot

  pub slot-names : slot_region_in n M i ≡ r → Names p (get_or W' (slot_in M i) 0)
  slot-names e = subst (λ (x : ℕ). Names p x) (sym (h.same (slot_in M i) fresh)) (a.entries.names i lt e)

  earlier : (x : ℕ) → NamedWith r n i M x → NamedWith r n (i + 1) M x
  earlier x q = record { entry = q.entry; low = omega (arith, q.low); region = q.region; slot = q.slot }

  split : (x : ℕ) → NamedWith r n (i + 1) M x → NamedWith r n i M x ⊎ ((slot_region_in n M i ≡ r) × (x ≡ slot_in M i))
  split x q = go (ℕ_discrete q.entry i)
    where
      go : Dec (q.entry ≡ i) → NamedWith r n i M x ⊎ ((slot_region_in n M i ≡ r) × (x ≡ slot_in M i))
      go (yes z) = inr (ap (λ (y : ℕ). slot_region_in n M y) (sym z) ∙ q.region, sym q.slot ∙ ap (λ (y : ℕ). slot_in M y) z)
      go (no z) = inl (record { entry = q.entry; low = omega (arith, q.low); region = q.region; slot = q.slot })

  pub slot-moved : (v s : ℕ) → s ≡ slot_in M i → slot_region_in n M i ≡ r → v ≡ forwarded W' (get_or W' s 0)
      → Rewritten (NamedWith r n (i + 1) M) W (set W' s v)
  slot-moved v s e reg ev =
      rewritten-join h
      (rewritten-one s v (omega (arith, a.entries.low i lt, a.entries.cells-long, h.size)) (subst (λ (z : ℕ). 2 ≤ word_of z) (sym e) (a.fields i lt)) ev)
      (λ x q z. fresh (subst (λ (y : ℕ). NamedWith r n i M y) (z ∙ e) q))
      (λ x q. ⊎_elim inl (λ z. inr (z.1 ∙ sym e)) (split x q))
      (λ x. ⊎_elim (earlier x) (λ z. record { entry = i; low = omega arith; region = reg; slot = sym (z ∙ e) }))

-- no entry from i to before k points into the region
pub slots-left : {r n i : ℕ} {W M W' : List ℕ} (k : ℕ) → i ≤ k → ((j : ℕ) → i ≤ j → j < k → slot_region_in n M j ≢ r) → Rewritten (NamedWith r n i M) W W'
    → Rewritten (NamedWith r n k M) W W'
slots-left {r} {n} {i} {W} {M} k le none h =
    rewritten-like h (λ x q. from x q (dec_lt q.entry i))
    (λ x q. record { entry = q.entry; low = omega (arith, q.low); region = q.region; slot = q.slot })
  where
    from : (x : ℕ) (q : NamedWith r n k M x) → Dec (q.entry < i) → NamedWith r n i M x
    from x q (yes l) = record { entry = q.entry; low = l; region = q.region; slot = q.slot }
    from x q (no l) = absurd (none q.entry (omega arith) q.low q.region)

-- along the chain of r: x leads to the first of its entries from a place on, and those before that place are done
pub record Along (r n : ℕ) (M : List ℕ) (x : ℕ) (W W' : List ℕ) : Type 0 where
  pub place : ℕ
  pub low : place ≤ entries_used M
  pub leads : Leads r n M place x
  pub done : Rewritten (NamedWith r n place M) W W'

pub along-start : {r n x : ℕ} {W M : List ℕ} → Leads r n M 0 x → Along r n M x W W
along-start {r} {n} {x} {W} {M} l =
    record { place = 0; low = omega arith; leads = l; done = rewritten-none (NamedWith r n 0 M) W (λ y q. omega (arith, q.low)) }

pub along-end : {r n x : ℕ} {W M W' : List ℕ} → Along r n M x W W' → x ≡ 0 → Rewritten (NamedWith r n (entries_used M) M) W W'
along-end {M = M} a z = slots-left (entries_used M) a.low (a.leads.none z) a.done

module _ {p : Sizes} {r n x : ℕ} {W M W' : List ℕ} (s : Slots p r n (entries_used M) W M) (a : Along r n M x W W') (pos : 0 < x) where
  pub along-low : x - 1 < entries_used M
  along-low = omega (arith, a.leads.low)

  here : Rewritten (NamedWith r n (x - 1) M) W W'
  here = slots-left (x - 1) (omega (arith, a.leads.later pos)) (a.leads.between pos) a.done

  pub along-names : Names p (get_or W' (slot_in M (x - 1)) 0)
  along-names = slot-names s along-low here (a.leads.region pos)

  pub along-turn : {y : ℕ} (v t : ℕ) → t ≡ slot_in M (x - 1) → v ≡ forwarded W' (get_or W' t 0) → Leads r n M x y → Along r n M y W (set W' t v)
  along-turn v t e f l =
      let q : x - 1 + 1 ≡ x = omega arith in
      record {
        place = x;
        low = a.leads.low;
        leads = l;
        done = subst (λ (k : ℕ). Rewritten (NamedWith r n k M) W (set W' t v)) q (slot-moved s along-low here v t e (a.leads.region pos) f);
      }

-- ---- the fields of one cell

pub record Field (d n x : ℕ) : Type 0 where
  pub field : ℕ
  pub low : field < n
  pub at : x ≡ field_at d field

pub record Fields (p : Sizes) (n d : ℕ) (W : List ℕ) : Type 0 where
  pub cells-long : cells_words p ≤ length W
  pub page : page_of d < p.pages
  pub few : n ≤ most_fields

-- ---- the variables: those below n, counted through all threads

pub record Variables (p : Sizes) (n : ℕ) (W T T' : List ℕ) : Type 0 where
  pub size : length T' ≡ length T
  pub moved : (i : ℕ) → i < n → var_of p T' i ≡ forwarded W (var_of p T i)
  pub same : (x : ℕ) → (vars_from p ≤ x → vars_from p + n ≤ x) → get_or T' x 0 ≡ get_or T x 0

pub variables-start : (p : Sizes) (W T : List ℕ) → Variables p 0 W T T
variables-start p W T =
    record { size = refl; moved = λ i l. absurd (let z : ⊥ = omega arith in z); same = λ x h. refl }

pub variables-next : {p : Sizes} {n : ℕ} {W T T' : List ℕ} → n < var_count p → Room p (length T) → Variables p n W T T' → (y : ℕ)
    → y ≡ forwarded W (var_of p T' n) → Variables p (n + 1) W T (set T' (var_at p n) y)
variables-next {p} {n} {W} {T} {T'} m room h y e =
    record {
      size = length-set T' (var_at p n) y ∙ h.size;
      moved = λ i l. at i l (ℕ_discrete i n);
      same = λ x k.
          get_or-set_other T' (var_at p n) x y 0 (λ z. let w : vars_from p + (n + 1) ≤ x = k (omega arith) in omega arith)
          ∙ h.same x (λ w. let u : vars_from p + (n + 1) ≤ x = k w in omega arith);
    }
  where
    value : y ≡ forwarded W (var_of p T n)
    value = e ∙ ap (forwarded W) (h.same (var_at p n) (λ w. omega arith))

    at : (i : ℕ) → i < n + 1 → Dec (i ≡ n) → var_of p (set T' (var_at p n) y) i ≡ forwarded W (var_of p T i)
    at i l (yes z) =
        subst (λ (w : ℕ). var_of p (set T' (var_at p n) y) w ≡ forwarded W (var_of p T w)) (sym z)
        (get_or-set_same T' (var_at p n) y 0 (omega (arith, h.size, room)) ∙ value)
    at i l (no z) = get_or-set_other T' (var_at p n) (var_at p i) y 0 (λ q. z (omega arith)) ∙ h.moved i (omega arith)

pub variables-names : {p : Sizes} {n : ℕ} {W T T' : List ℕ} → Variables p n W T T' → Names p (var_of p T n) → Names p (var_of p T' n)
variables-names {p} {n} h a = subst (λ (x : ℕ). Names p x) (sym (h.same (var_at p n) (λ w. omega arith))) a

-- The slots of the copies are settled in one pass: each is rewritten, and if it crosses as it reads then, its entry comes into the
-- remember table.
use Rattle.std.specs.Prelude.{◌≡◌, refl, ◌≢◌, ◌⊎◌, List, ℕ, ◌+◌, ◌-◌, ◌≤◌, ◌<◌, length, get_or, set}
use Rattle.std.proofs.Common.{sym, ap, ◌∙◌, subst, inl, inr, ⊎_elim, arith, get_or-set_same}
use Rattle.std.proofs.Math.Decide.{ℕ_discrete}
use Rattle.lists.specs.Part.{Off, Skips}
use Rattle.rules.specs.declared.Sizes.{Sizes}
use Rattle.layout.specs.Places.{owner_of, mark_of, slot_in, entries_words}
use Rattle.layout.specs.Cells.{field_at, field_of, refs_of, page_of, word_of, cell_of, most_fields, field-page, field-word, field-once, field_in}
use Rattle.layout.specs.Words.{Names}
use Rattle.copy.specs.Marks.{copied}
use Rattle.copy.specs.Forward.{forward}
use Rattle.settle.specs.Rewrite.{forwarded, Rewritten, ref-same, rewritten-none, rewritten-one, rewritten-join, rewritten-like}
use Rattle.remember.specs.Crossing.{crosses_from, crosses_to, crosses_at}
use Rattle.settle.specs.RewriteSlots.{Field, Fields}
use Rattle.settle.specs.RewriteCopies.{CopySlot, Wiring, Split, OnPage, OnPages, slot-less, slot-now, slot-then, slots_apart, pages_split, unmarked-none}
use Rattle.remember.specs.Entries.{entered}
use Rattle.remember.specs.Stretches.{Added, added_none, added-one, added-join, added-like}
use Rattle.remember.specs.Appending.{Crossing, crossing-in, added-read, AtMost, at-most-less, at-most-rest}

-- the region into which the word at x crosses once it goes by the forward reference, if it is a slot
abbrev pub cross_later : (p : Sizes) (W T : List ℕ) → ℕ → ℕ
cross_later p W T x = crosses_to p T (cell_of x) (forwarded W (get_or W x 0))

-- the slots of P are rewritten; those that cross then stand from entry j up to entry i
pub record Settled (p : Sizes) (n : ℕ) (P : ℕ → Type 0) (W M T : List ℕ) (j : ℕ) (W' M' : List ℕ) (i : ℕ) : Type 0 where
  pub rewritten : Rewritten P W W'
  pub added : Added n (Crossing p P W' T) j i M M'

-- they can be settled: each names a cell now and then, and those that cross then have room after j entries
pub record Settling (p : Sizes) (n : ℕ) (P : ℕ → Type 0) (W M T : List ℕ) (j : ℕ) : Type 0 where
  pub long : entries_words n ≤ length M
  pub low : j ≤ n
  pub names : (x : ℕ) → P x → Names p (get_or W x 0) × Names p (forwarded W (get_or W x 0))
  pub space : AtMost (λ x. P x × (cross_later p W T x ≢ 0)) (n - j)

-- ---- sets of slots

pub settled-none : (p : Sizes) (n : ℕ) (P : ℕ → Type 0) (W M T : List ℕ) (j : ℕ) → j ≤ n → ((x : ℕ) → P x → ⊥) → Settled p n P W M T j W M j
settled-none p n P W M T j l none =
    record { rewritten = rewritten-none P W none; added = added_none (Crossing p P W T) j M l (λ x h q. none x q.at) }

pub settled-like : {p : Sizes} {n j i : ℕ} {P R : ℕ → Type 0} {W M T W' M' : List ℕ} → Settled p n P W M T j W' M' i → ((x : ℕ) → R x → P x) → ((x : ℕ) → P x → R x)
    → Settled p n R W M T j W' M' i
settled-like h from to =
    record { rewritten = rewritten-like h.rewritten from to; added = added-like h.added (crossing-in from) (crossing-in to) }

-- one set of slots after another that has none of the first
settled-join : {p : Sizes} {n j i k : ℕ} {P Q R : ℕ → Type 0} {W M T W' M' W'' M'' : List ℕ} → Settled p n P W M T j W' M' i → Settled p n Q W' M' T i W'' M'' k
    → ((x : ℕ) → P x → Q x → ⊥) → ((x : ℕ) → R x → P x ⊎ Q x) → ((x : ℕ) → P x ⊎ Q x → R x) → Settled p n R W M T j W'' M'' k
settled-join a b apart from to =
    record {
      rewritten = rewritten-join a.rewritten b.rewritten apart from to;
      added =
          added-join (added-read (λ x q. b.rewritten.same x (apart x q)) a.added) b.added (λ x g h q q'. apart x q.at q'.at)
          (λ x h q.
          ⊎_elim (λ m. inl (record { at = m; region = q.region; kept = q.kept })) (λ m. inr (record { at = m; region = q.region; kept = q.kept })) (from x q.at))
          (λ x h. ⊎_elim (crossing-in (λ x q. to x (inl q)) x h) (crossing-in (λ x q. to x (inr q)) x h));
    }

-- after those of Q are settled, those of R can be
settling-next : {p : Sizes} {n j i : ℕ} {P Q R : ℕ → Type 0} {W M T W' M' : List ℕ} → Settling p n P W M T j → Settled p n Q W M T j W' M' i
    → ((x : ℕ) → Q x → P x) → ((x : ℕ) → R x → P x) → ((x : ℕ) → Q x → R x → ⊥) → Settling p n R W' M' T i
settling-next {p} {n} {j} {i} {P} {Q} {R} {W} {M} {T} {W'} {M'} s h fq fr apart =
    record {
      long = omega (arith, s.long, h.added.size);
      low = h.added.low;
      names = λ x q.
          let y = s.names x (fr x q) in
          (subst (λ (v : ℕ). Names p v) (sym (h.rewritten.same x (λ m. apart x m q))) y.0, subst (λ (v : ℕ). Names p v) (sym (same x q)) y.1);
      space =
          at-most-rest {Q = λ x. Q x × (cross_later p W T x ≢ 0)} (i - j) (n - i) (λ y. slot_in M' (j + y)) (omega (arith, h.added.grows, h.added.low)) s.space
          (λ y l. let q = h.added.named (j + y) (omega arith) (omega arith) in (q.at, λ z. q.kept (q.region ∙ into (slot_in M' (j + y)) (h.rewritten.moved (slot_in M' (j + y)) q.at) ∙ z)))
          (λ a b l m. h.added.once (j + a) (j + b) (omega arith) (omega arith) (omega arith))
          (λ x q. (fq x q.0, q.1)) (λ x q. (fr x q.0, λ z. q.1 (into x (same x q.0) ∙ z))) (λ x q q'. apart x q.0 q'.0);
    }
  where
    same : (x : ℕ) → R x → forwarded W' (get_or W' x 0) ≡ forwarded W (get_or W x 0)
    same x q = ref-same h.rewritten (get_or W' x 0) ∙ ap (forwarded W) (h.rewritten.same x (λ m. apart x m q))

    into : {v u : ℕ} (x : ℕ) → v ≡ u → crosses_to p T (cell_of x) v ≡ crosses_to p T (cell_of x) u
    into x = ap (crosses_to p T (cell_of x))

-- ---- one slot: v is what it becomes, h the region into which it crosses then, else 0

module _ {p : Sizes} {n x i : ℕ} {W M T : List ℕ} (s : Settling p n (λ y. y ≡ x) W M T i) (v h : ℕ) (ev : v ≡ forwarded W (get_or W x 0))
    (eh : h ≡ crosses_to p T (cell_of x) v) where
  slot-fits : h ≢ 0 → i < n
  slot-fits ne =
      omega (
        arith,
        s.space.few 1 (λ a. x) (λ a l. (refl, λ z. ne (eh ∙ ap (crosses_to p T (cell_of x)) ev ∙ z))) (λ a b l m. absurd (let z : ⊥ = omega arith in z)),
      )

  module _ (low : x < length W) (field : 2 ≤ word_of x) where
    crosses : (y : ℕ) → y ≡ x → crosses_at p (set W x v) T y ≡ h
    crosses y e = ap (crosses_at p (set W x v) T) e ∙ ap (crosses_to p T (cell_of x)) (get_or-set_same W x v 0 low) ∙ sym eh

    slot-comes : h ≢ 0 → Settled p n (λ y. y ≡ x) W M T i (set W x v) (entered n M i x h) (i + 1)
    slot-comes ne =
        record {
          rewritten = rewritten-one x v low field ev;
          added =
              added-like (added-one i x h M (slot-fits ne) s.long) (λ y g q. (q.at, q.region ∙ crosses y q.at))
              (λ y g q. record { at = q.0; region = q.1 ∙ sym (crosses y q.0); kept = λ z. ne (sym q.1 ∙ z) });
        }

    slot-stays : h ≡ 0 → Settled p n (λ y. y ≡ x) W M T i (set W x v) M i
    slot-stays z =
        record {
          rewritten = rewritten-one x v low field ev;
          added = added_none (Crossing p (λ y. y ≡ x) (set W x v) T) i M s.low (λ y g q. q.kept (q.region ∙ crosses y q.at ∙ z));
        }

-- ---- the fields of one cell

module _ {p : Sizes} {n d k f j i : ℕ} {W M T W' M' : List ℕ} (a : Fields p k d W) (s : Settling p n (Field d k) W M T j) (lt : f < k)
    (h : Settled p n (Field d f) W M T j W' M' i) where
  few : f < most_fields
  few = omega (arith, a.few)

  new : (x : ℕ) → Field d f x → x ≡ field_at d f → ⊥
  new x q e = omega (arith, q.low, field-once d f q.field (sym e ∙ q.at))

  field-settling : Settling p n (λ y. y ≡ field_at d f) W' M' T i
  field-settling =
      settling-next s h (λ x q. record { field = q.field; low = omega (arith, q.low); at = q.at }) (λ x e. record { field = f; low = lt; at = e }) new

  -- the field as it is read names a cell
  pub field-names : Names p (field_of W' d f)
  field-names = (field-settling.names (field_at d f) refl).0

  field-joins : {W'' M'' : List ℕ} {i' : ℕ} → Settled p n (λ y. y ≡ field_at d f) W' M' T i W'' M'' i' → Settled p n (Field d (f + 1)) W M T j W'' M'' i'
  field-joins b =
      settled-join h b new (λ x q. from x q (ℕ_discrete q.field f))
      (λ x. ⊎_elim (λ q. record { field = q.field; low = omega (arith, q.low); at = q.at }) (λ e. record { field = f; low = omega arith; at = e }))
    where
      from : (x : ℕ) (q : Field d (f + 1) x) → Dec (q.field ≡ f) → Field d f x ⊎ (x ≡ field_at d f)
      from x q (yes z) = inr (q.at ∙ ap (field_at d) z)
      from x q (no z) = inl (record { field = q.field; low = omega (arith, q.low); at = q.at })

  -- and so does what it becomes
  pub moved-names : (v : ℕ) → v ≡ forwarded W' (field_of W' d f) → Names p v
  moved-names v e = subst (λ (x : ℕ). Names p x) (sym e) (field-settling.names (field_at d f) refl).1

  -- v is the forwarded reference, w the region of the cell, g the region into which it crosses, as the code has them
  module _ (v w g : ℕ) (ev : v ≡ forwarded W' (field_of W' d f)) (ew : w ≡ owner_of p T (page_of d)) (eg : g ≡ crosses_from p T w v) where
    eg' : g ≡ crosses_to p T (cell_of (field_at d f)) v
    eg' = eg ∙ ap (λ (y : ℕ). crosses_from p T y v) (ew ∙ ap (λ (y : ℕ). owner_of p T y) (sym (field-page d f few)))

    low : field_at d f < length W'
    low = field_in p d f (omega (arith, a.cells-long, h.rewritten.size)) a.page few

    pub field_fits : g ≢ 0 → i < n
    field_fits = slot-fits field-settling v g ev eg'

    pub field-comes : (x : ℕ) → x ≡ field_at d f → g ≢ 0 → Settled p n (Field d (f + 1)) W M T j (set W' (field_at d f) v) (entered n M' i x g) (i + 1)
    field-comes x e ne =
        subst (λ (y : ℕ). Settled p n (Field d (f + 1)) W M T j (set W' (field_at d f) v) (entered n M' i y g) (i + 1)) (sym e)
        (field-joins (slot-comes field-settling v g ev eg' low (field-word d f few) ne))

    pub field-stays : g ≡ 0 → Settled p n (Field d (f + 1)) W M T j (set W' (field_at d f) v) M' i
    field-stays z = field-joins (slot-stays field-settling v g ev eg' low (field-word d f few) z)

-- ---- the copies of one set of cells after another

module _ {p : Sizes} {n j i : ℕ} {A P Q R : ℕ → Type 0} {W M T W' M' : List ℕ} (w : Wiring p A W T) (s : Split A P Q R)
    (h : Settled p n (CopySlot p P W T) W M T j W' M' i) where
  new-slots : (x : ℕ) → CopySlot p P W T x → CopySlot p Q W' T x → ⊥
  new-slots x a b = slots_apart w s h.rewritten x a (slot-then h.rewritten x b)

  pub second-settling : Settling p n (CopySlot p A W T) W M T j → Settling p n (CopySlot p Q W' T) W' M' T i
  second-settling a = settling-next a h (slot-less s.first) (λ x b. slot-less s.second x (slot-then h.rewritten x b)) new-slots

  pub second-settled : {W'' M'' : List ℕ} {i' : ℕ} → Settled p n (CopySlot p Q W' T) W' M' T i W'' M'' i' → Settled p n (CopySlot p R W T) W M T j W'' M'' i'
  second-settled k =
      settled-join h k new-slots (λ x a. from x a (s.from a.cell a.among))
      (λ x. ⊎_elim (slot-less (λ c m. s.to c (inl m)) x) (λ b. slot-less (λ c m. s.to c (inr m)) x (slot-then h.rewritten x b)))
    where
      from : (x : ℕ) (a : CopySlot p R W T x) → P a.cell ⊎ Q a.cell → CopySlot p P W T x ⊎ CopySlot p Q W' T x
      from x a (inl m) = inl (record { cell = a.cell; among = m; moved = a.moved; field = a.field })
      from x a (inr m) = inr (slot-now h.rewritten x (record { cell = a.cell; among = m; moved = a.moved; field = a.field }))

-- ---- the copy of one cell; d is that copy as the code has it

module _ {p : Sizes} {W T : List ℕ} {c : ℕ} (u : copied p T c ≡ 1) (d : ℕ) (e : d ≡ forward W c) where
  to-copy : (x : ℕ) → Field d (refs_of W d) x → CopySlot p (λ y. y ≡ c) W T x
  to-copy x f = record { cell = c; among = refl; moved = u; field = subst (λ (y : ℕ). Field y (refs_of W y) x) e f }

  from-copy : (x : ℕ) → CopySlot p (λ y. y ≡ c) W T x → Field d (refs_of W d) x
  from-copy x q = subst (λ (y : ℕ). Field y (refs_of W y) x) (sym (e ∙ ap (forward W) (sym q.among))) q.field

  pub copy-fields : Wiring p (λ y. y ≡ c) W T → Fields p (refs_of W d) d W
  copy-fields w = subst (λ (y : ℕ). Fields p (refs_of W y) y W) (sym e) (w.copies c refl u)

  pub copy-settling : {n i : ℕ} {M : List ℕ} → Settling p n (CopySlot p (λ y. y ≡ c) W T) W M T i → Settling p n (Field d (refs_of W d)) W M T i
  copy-settling s =
      record { long = s.long; low = s.low; names = λ x q. s.names x (to-copy x q); space = at-most-less (λ x q. (to-copy x q.0, q.1)) s.space }

  pub copy-settled : {n i i' : ℕ} {M W' M' : List ℕ} → Settled p n (Field d (refs_of W d)) W M T i W' M' i' → Settled p n (CopySlot p (λ y. y ≡ c) W T) W M T i W' M' i'
  copy-settled k = settled-like k from-copy to-copy

-- ---- all pages

-- a page without marks has no copies
pub settled-skips : {p : Sizes} {n j i : ℕ} {W M T W' M' : List ℕ} (k : ℕ) (l : List ℕ) → Wiring p (OnPages p.pages) W T
    → ((q : ℕ) → q < p.pages → Off l k q → mark_of p T q ≡ 0) → Skips p.pages k l (λ b. Settled p n (CopySlot p (OnPages b) W T) W M T j W' M' i)
settled-skips {p} {n} {i = i} {T = T} {W' = W'} {M' = M'} k l w none q lt off h =
    second-settled w (pages_split lt) h
    (settled-none p n (CopySlot p (OnPage q) W' T) W' M' T i h.added.low (unmarked-none (none q lt off)))

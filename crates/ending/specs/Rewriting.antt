-- After the rewriting of the holding slots and of the copies' own, every reference of an object that lives on leads to the cell of what it
-- names; its other words are as they were.
use Rattle.std.specs.Prelude.{◌≡◌, refl, ◌⊎◌, List, ℕ, zero, suc, ◌-◌, ◌≤◌, ◌<◌, get_or}
use Rattle.std.proofs.Common.{sym, ap, ap₂, subst, ◌∙◌, inl, inr, ⊎_elim, arith}
use Rattle.std.proofs.Math.Decide.{ℕ_discrete}
use Rattle.rules.specs.declared.Sizes.{Sizes}
use Rattle.laws.specs.SameRules.{renamed}
use Rattle.layout.specs.Places.{owner_of}
use Rattle.layout.specs.Cells.{field_at, head_of, work_of, field_of, refs_of, page_of, page_at, cell_of, cell_named, room_for}
use Rattle.layout.specs.Objects.{InUse, Covers, covers-field, begins-page, field-used, field-not-new, objects-apart}
use Rattle.layout.specs.Words.{Words, words, BeginsIn, Names, head_in, ref_count}
use Rattle.remember.specs.Crossing.{crosses_from, crosses_at}
use Rattle.promises.specs.Whole.{UnusedWhole}
use Rattle.promises.specs.Reading.{refs-few, ref-room}
use Rattle.promises.specs.Ends.{Part, Survivor, Lives, outside-lives, survivor-lives, lives-how}
use Rattle.mark.specs.Marks.{kept-head}
use Rattle.copy.specs.Marks.{copied}
use Rattle.copy.specs.Forward.{forward}
use Rattle.settle.specs.Rewrite.{forwarded, forward-null, forward-still, Rewritten, rewritten-join, link-same, heads-same}
use Rattle.settle.specs.RewriteSlots.{Fields}
use Rattle.settle.specs.RewriteCopies.{Wiring, wiring-now, OnPages, slot-now, slot-then}
use Rattle.remember.specs.Appending.{Crossing}
use Rattle.settle.specs.Settle.{cross_later}
use Rattle.settle.specs.Update.{Copies}
use Rattle.mark.specs.MarkedWords.{marked-survivor}
use Rattle.ending.specs.Placing.{OutsideSlot, HoldingSlots, LiveSlot, placed-page, outside-live, live-outside, refs-placed, live-slot, live-page}
use Rattle.ending.specs.Crossing.{cross_then, Told}
use Rattle.ending.specs.Copied.{HasMoved, placed, placing, forwarded-placed, still-used, outside-idle, on, copy, survivor-forward, survivor-placed, placed-field, placed-work, copied-unused}

module _ {s : Sizes} {w w₁ : Words} {e : Part} {W T : List ℕ} (h : HasMoved s w w₁ e W T) where
  copy-cell : (c : ℕ) → Survivor s w e c → work_of W c - 1 ≡ placed W c
  copy-cell c v = omega (arith, survivor-forward h c v, survivor-placed h c v)

  copied-survivor : (d : ℕ) → page_of d < s.pages → copied s T d ≡ 1 → Survivor s w e d
  copied-survivor d l z = marked-survivor h.marks d l (sym (h.forwards.bits d l) ∙ z)

  -- the slots of the copies are the survivors' references
  pub copy-survivor : (x : ℕ) → Copies s W T x → (q : LiveSlot s w e (placed W) x) × Survivor s w e q.object
  copy-survivor x q =
      let v = copied-survivor q.cell q.among q.moved in
      let z = copy-cell q.cell v in (
        record {
          object = q.cell;
          field = q.field.field;
          lives = survivor-lives v;
          low = omega (arith, q.field.low, ap (refs_of W) z, refs-placed (placing h) q.cell (survivor-lives v));
          at = q.field.at ∙ ap (λ (d : ℕ). field_at d q.field.field) z;
        },
        v,
      )

  pub copies-live : (x : ℕ) → Copies s W T x → LiveSlot s w e (placed W) x
  copies-live x q = (copy-survivor x q).0

  pub survivor-copy : (x : ℕ) (q : LiveSlot s w e (placed W) x) → Survivor s w e q.object → Copies s W T x
  survivor-copy x q v =
      let z = copy-cell q.object v in
      record {
        cell = q.object;
        among = begins-page _ _ _ _ v.used;
        moved = h.forwards.bits q.object (begins-page _ _ _ _ v.used) ∙ on h q.object v;
        field = record {
          field = q.field;
          low = omega (arith, q.low, ap (refs_of W) z, refs-placed (placing h) q.object q.lives);
          at = q.at ∙ ap (λ (d : ℕ). field_at d q.field) (sym z);
        };
      }

  -- none is a field of an object that was there before, whose words stand apart from those of a new cell
  pub old-no-copy : (c f : ℕ) → BeginsIn s w c → f < ref_count w c → Copies s W T (field_at c f) → ⊥
  old-no-copy c f u l q =
      let k = copy-survivor (field_at c f) q in
      let d : ℕ = k.0.object in
      field-not-new s w₁.cells w₁.tables c (still-used h c u) (forward W d) (head_in w d) (copy h d k.1).new f
      (subst (λ (n : ℕ). f < room_for n) (sym (kept-head h.marks.kept c)) (ref-room s w h.whole c f u l))
      (subst (Covers (forward W d) (head_in w d)) (sym (k.0.at ∙ ap (λ (y : ℕ). field_at y k.0.field) (survivor-placed h d k.1)))
      (covers-field (forward W d) (head_in w d) k.0.field (ref-room s w h.whole d k.0.field k.1.used k.0.low)))

  -- a reference of an object that lives on is as it was, and names a cell
  live-before : (x : ℕ) (q : LiveSlot s w e (placed W) x) → get_or W x 0 ≡ field_of w.cells q.object q.field
  live-before x q =
      ap (λ (y : ℕ). get_or W y 0) q.at ∙ placed-field h q.object q.lives q.field (ref-room s w h.whole q.object q.field q.lives.used q.low)

  pub live-names : (x : ℕ) → LiveSlot s w e (placed W) x → Names s (get_or W x 0)
  live-names x q =
      let d : ℕ = cell_named (field_of w.cells q.object q.field) in
      subst (Names s) (sym (live-before x q)) (λ n. begins-page _ _ _ _ (h.keeps.references q.object q.field d q.lives q.low (omega arith)).used)

  -- the forward references lead to the cell of what it names
  pub live-later : (x : ℕ) (q : LiveSlot s w e (placed W) x) → forwarded W (get_or W x 0) ≡ renamed (placed W) (field_of w.cells q.object q.field)
  live-later x q = ap (forwarded W) (live-before x q) ∙ forwarded-placed W (field_of w.cells q.object q.field)

  -- so it crosses where its object and what it names are then
  pub cross-live : (x : ℕ) (q : LiveSlot s w e (placed W) x) → cross_later s W T x ≡ cross_then s w (words W w.remember T) (placed W) q.object q.field
  cross-live x q = ap₂ (λ (p y : ℕ). crosses_from s T (owner_of s T p) y) (live-page (placing h) x q) (live-later x q)

  pub names-later : (x : ℕ) → LiveSlot s w e (placed W) x → Names s (forwarded W (get_or W x 0))
  names-later x q = subst (Names s) (sym (live-later x q)) (go (field_of w.cells q.object q.field) refl)
    where
      go : (v : ℕ) → field_of w.cells q.object q.field ≡ v → Names s (renamed (placed W) v)
      go zero z n = absurd (n refl)
      go (suc d) z n =
          subst (λ (x : ℕ). page_of x < s.pages) (let y : placed W d ≡ cell_named (suc (placed W d)) = omega arith in y)
          (placed-page (placing h) d (h.keeps.references q.object q.field d q.lives q.low z))

  -- what the rewriting of the copies' slots asks
  wired : Wiring s (OnPages s.pages) W T
  wired =
      record {
        cells-long = h.ready.cells-long;
        tables-long = h.ready.room;
        moved = λ d q u z. let y : ⊥ = omega (arith, survivor-forward h d (copied-survivor d q u), z) in y;
        copies = λ d q u. fields d (copied-survivor d q u);
        once = λ x y q q' u v z.
            let a = copied-survivor x q u in
            let b = copied-survivor y q' v in
            (placing h).placement.apart x y (survivor-lives a) (survivor-lives b) (sym (copy-cell x a) ∙ ap (λ (i : ℕ). i - 1) z ∙ copy-cell y b);
      }
    where
      fields : (d : ℕ) → Survivor s w e d → Fields s (refs_of W (work_of W d - 1)) (work_of W d - 1) W
      fields d v =
          subst (λ (x : ℕ). Fields s (refs_of W x) x W) (sym (copy-cell d v))
          (record {
            cells-long = h.ready.cells-long;
            page = placed-page (placing h) d (survivor-lives v);
            few = omega (arith, refs-placed (placing h) d (survivor-lives v), refs-few s w h.whole d v.used);
          })

-- ---- the holding slots are rewritten

module _ {s : Sizes} {w w₁ : Words} {e : Part} {W T : List ℕ} (h : HasMoved s w w₁ e W T) {S : ℕ → Type 0} (H : HoldingSlots s w e S) where
  pub held-live : (x : ℕ) → S x → LiveSlot s w e (placed W) x
  held-live x q = outside-live (placing h) x (H.slot x q)

  pub no_copy : (x : ℕ) → Copies s W T x → S x → ⊥
  no_copy x q z = let o = H.slot x z in old-no-copy h o.object o.field o.outside.used o.low (subst (Copies s W T) o.at q)

  module _ {W₂ : List ℕ} (R₂ : Rewritten S W W₂) where
    -- the copies' own slots are to be rewritten still
    pub copies-ask : Wiring s (OnPages s.pages) W₂ T
    copies-ask = wiring-now R₂ (wired h)

    pub rewritten-both : {W₃ : List ℕ} → Rewritten (Copies s W₂ T) W₂ W₃ → Rewritten (λ x. S x ⊎ Copies s W T x) W W₃
    rewritten-both R₃ =
        rewritten-join R₂ R₃ (λ x z q. no_copy x (slot-then R₂ x q) z) (λ x. ⊎_elim inl (λ q. inr (slot-now R₂ x q))) (λ x. ⊎_elim inl (λ q. inr (slot-then R₂ x q)))

  -- the slots of objects outside the part lead where they should once the holding slots are rewritten, with others or alone
  module _ {P : ℕ → Type 0} {X : List ℕ} (R : Rewritten P W X) (among : (x : ℕ) → S x → P x) where
    -- a reference that is not to be moved stays, whether its slot is looked at or not
    unmoved : (x : ℕ) → forwarded W (get_or W x 0) ≡ get_or W x 0 → get_or X x 0 ≡ forwarded W (get_or W x 0)
    unmoved x still = go (ℕ_discrete (get_or X x 0) (get_or W x 0))
      where
        go : Dec (get_or X x 0 ≡ get_or W x 0) → get_or X x 0 ≡ forwarded W (get_or W x 0)
        go (yes z) = z ∙ sym still
        go (no n) = absurd (n (R.same x (λ q. n (R.moved x q ∙ still))))

    pub outside-after : (x : ℕ) → OutsideSlot s w e x → get_or X x 0 ≡ forwarded W (get_or W x 0)
    outside-after x q = go (field_of w.cells q.object q.field) refl
      where
        before : get_or W x 0 ≡ field_of w.cells q.object q.field
        before = live-before h x (outside-live (placing h) x q)

        go : (v : ℕ) → field_of w.cells q.object q.field ≡ v → get_or X x 0 ≡ forwarded W (get_or W x 0)
        go zero z = unmoved x (forward-null W (get_or W x 0) (before ∙ z) ∙ sym (before ∙ z))
        go (suc d) z =
            ⊎_elim (λ o. unmoved x (forward-still W (get_or W x 0) (ap (work_of W) (let y : cell_named (get_or W x 0) ≡ d = omega (arith, before ∙ z) in y) ∙ outside-idle h d o)))
            (λ v. R.moved x (among x (subst S (sym q.at) (H.every q.object q.field d q.outside q.low z v.within))))
            (lives-how (h.keeps.references q.object q.field d (outside-lives q.outside) q.low z))

-- ---- after the rewriting of both

pub record HasRewritten (s : Sizes) (w w₁ : Words) (e : Part) (W T : List ℕ) (S : ℕ → Type 0) (W' : List ℕ) : Type 0 where
  pub moved : HasMoved s w w₁ e W T
  pub holding : HoldingSlots s w e S
  pub cells : Rewritten (λ x. S x ⊎ Copies s W T x) W W'

module _ {s : Sizes} {w w₁ : Words} {e : Part} {W T : List ℕ} {S : ℕ → Type 0} {W' : List ℕ} (r : HasRewritten s w w₁ e W T S W') where
  h : HasMoved s w w₁ e W T
  h = r.moved

  pub head-after : (c : ℕ) → Lives s w e c → head_of W' (placed W c) ≡ head_in w c
  head-after c l = heads-same r.cells (placed W c) ∙ (placing h).placement.head c l

  pub work-after : (c : ℕ) → Lives s w e c → work_of W' (placed W c) ≡ 0
  work-after c l = link-same r.cells (placed W c) ∙ placed-work h c l

  pub live-after : (x : ℕ) → LiveSlot s w e (placed W) x → get_or W' x 0 ≡ forwarded W (get_or W x 0)
  live-after x q =
      ⊎_elim (λ o. outside-after h r.holding r.cells (λ y. inl) x (live-outside (placing h) x q o)) (λ v. r.cells.moved x (inr (survivor-copy h x q v)))
      (lives-how q.lives)

  pub slot-after : (c f : ℕ) → Lives s w e c → f < ref_count w c → field_of W' (placed W c) f ≡ renamed (placed W) (field_of w.cells c f)
  slot-after c f l m =
      let q : LiveSlot s w e (placed W) (field_at (placed W c) f) = record { object = c; field = f; lives = l; low = m; at = refl } in
      live-after (field_at (placed W c) f) q ∙ live-later h (field_at (placed W c) f) q

  -- a word after the references is no slot
  pub rest-after : (c f : ℕ) → Lives s w e c → ref_count w c ≤ f → f < room_for (head_in w c) → field_of W' (placed W c) f ≡ field_of w.cells c f
  rest-after c f l ge m =
      r.cells.same (field_at (placed W c) f) (⊎_elim (λ q. none (held-live h r.holding (field_at (placed W c) f) q)) (λ q. none (copies-live h (field_at (placed W c) f) q))) ∙ placed-field h c l f m
    where
      none : LiveSlot s w e (placed W) (field_at (placed W c) f) → ⊥
      none q =
          let o = live-slot (placing h) (field_at (placed W c) f) q in
          let y = objects-apart s W T (placed W c) ((placing h).placement.used c l) o.object o.begins o.field o.room f (subst (λ (n : ℕ). f < room_for n) (sym ((placing h).placement.head c l)) m) q.at in
          let x : c ≡ q.object = (placing h).placement.apart c q.object l q.lives y.0 in
          omega (arith, y.1, q.low, ap (ref_count w) x)

  -- no slot lies in a cell that is not in use
  pub unused-after : UnusedWhole s (words W' w.remember T)
  unused-after q n =
      r.cells.same q (⊎_elim (λ x. none (held-live h r.holding q x)) (λ x. none (copies-live h q x))) ∙ copied-unused h q n
    where
      none : LiveSlot s w e (placed W) q → ⊥
      none x =
          let o = live-slot (placing h) q x in
          n.unused (subst (λ (i : ℕ). InUse s T (cell_of i)) o.at (field-used s W T o.object o.begins o.field o.room))

  -- the entries of the copies' slots, as they read then
  pub copies-told : Told s w e (words W w.remember T) (placed W) (Survivor s w e) (Crossing s (Copies s W' T) W' T)
  copies-told =
      record {
        live = λ x g q. let l = copies-live h x (slot-then r.cells x q.at) in (l, q.region ∙ now x l);
        kept = λ x g q. q.kept;
        every = λ x q v n. record { at = slot-now r.cells x (survivor-copy h x q v); region = sym (now x q); kept = n };
      }
    where
      now : (x : ℕ) (q : LiveSlot s w e (placed W) x) → crosses_at s W' T x ≡ cross_then s w (words W w.remember T) (placed W) q.object q.field
      now x q = ap (λ (y : ℕ). crosses_from s T (owner_of s T (page_at x)) y) (live-after x q) ∙ cross-live h x q

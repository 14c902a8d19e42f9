-- The slots from one position to another are rewritten: field by field of a cell, then stretch after stretch.
use Rattle.std.specs.Prelude.{◌≡◌, refl, ◌⊎◌, List, ℕ, ◌+◌, ◌≤◌, ◌<◌, set}
use Rattle.std.proofs.Common.{sym, ap, ◌∙◌, subst, subst₂, inl, inr, ⊎_elim, arith}
use Rattle.std.proofs.Math.Decide.{dec_lt, ℕ_discrete}
use Rattle.rules.specs.declared.Sizes.{Sizes}
use Rattle.layout.specs.Cells.{head_at, field_at, field_of, head_of, refs_of, most_fields, most-is, room_for, room-is, page_cells, cell_on, field-word, field-once}
use Rattle.layout.specs.Objects.{Begins, Slot}
use Rattle.layout.specs.Words.{Names}
use Rattle.settle.specs.Rewrite.{forwarded, Rewritten, heads-same, refs-same, begins-now, begins-then, rewritten-none, rewritten-one, rewritten-join, rewritten-like}
use Rattle.settle.specs.RewriteSlots.{Field}
use Rattle.retell.specs.SlotStretches.{SlotFrom, NoSlot, gap-past, Readable, CellReadable, own-slot, cell-readable, PageReadable, used-most, begins-here}

-- ---- the fields of one cell

module _ {k f : ℕ} {W W' : List ℕ} (r : CellReadable k W) (lt : f < refs_of W k) (h : Rewritten (Field k f) W W') where
  few : f < most_fields
  few = omega (arith, r.few)

  new : (x : ℕ) → Field k f x → x ≡ field_at k f → ⊥
  new x q e = omega (arith, q.low, field-once k f q.field (sym e ∙ q.at))

  -- the field is still as it was
  pub field-still : field_of W' k f ≡ field_of W k f
  field-still = h.same (field_at k f) (λ q. new (field_at k f) q refl)

  field-set : (v : ℕ) → v ≡ forwarded W' (field_of W' k f) → Rewritten (Field k (f + 1)) W (set W' (field_at k f) v)
  field-set v e =
      rewritten-join h (rewritten-one (field_at k f) v (omega (arith, r.inside.1, h.size, few, most-is)) (field-word k f few) e) new
      (λ x q. from x q (ℕ_discrete q.field f))
      (λ x. ⊎_elim (λ q. record { field = q.field; low = omega (arith, q.low); at = q.at }) (λ z. record { field = f; low = omega arith; at = z }))
    where
      from : (x : ℕ) (q : Field k (f + 1) x) → Dec (q.field ≡ f) → Field k f x ⊎ (x ≡ field_at k f)
      from x q (yes z) = inr (q.at ∙ ap (field_at k) z)
      from x q (no z) = inl (record { field = q.field; low = omega (arith, q.low); at = q.at })

  pub field-forwarded : {W'' : List ℕ} (v : ℕ) → v ≡ forwarded W' (field_of W' k f) → W'' ≡ set W' (field_at k f) v → Rewritten (Field k (f + 1)) W W''
  field-forwarded v e z = subst (λ (X : List ℕ). Rewritten (Field k (f + 1)) W X) (sym z) (field-set v e)

-- they are its slots
pub cell-forwarded : {p : Sizes} {k : ℕ} {W T W' : List ℕ} → Begins p W T k → refs_of W k ≤ most_fields → Rewritten (Field k (refs_of W k)) W W'
    → Rewritten (SlotFrom p (head_at k) (head_at (k + 1)) W T) W W'
cell-forwarded {p} {k} {W} {T} b few h =
    rewritten-like h
    (λ x s.
    let o = s.slot in
    let e : o.object ≡ k = omega (arith, o.at, o.room, room-is (head_of W o.object), s.from, s.below) in
    record { field = o.field; low = omega (arith, o.low, ap (refs_of W) e); at = omega (arith, o.at) })
    (λ x q. subst (SlotFrom p (head_at k) (head_at (k + 1)) W T) (sym q.at) (own-slot k q.field b few q.low))

-- ---- slots are where they were

module _ {P : ℕ → Type 0} {W W' : List ℕ} (h : Rewritten P W W') {p : Sizes} {T : List ℕ} where
  pub slots-now : (x : ℕ) → Slot p W T x → Slot p W' T x
  slots-now x o =
      record {
        object = o.object;
        field = o.field;
        begins = begins-now h p T o.object o.begins;
        room = omega (arith, o.room, ap room_for (heads-same h o.object));
        low = omega (arith, o.low, refs-same h o.object);
        at = o.at;
      }

  pub slots-then : (x : ℕ) → Slot p W' T x → Slot p W T x
  slots-then x o =
      record {
        object = o.object;
        field = o.field;
        begins = begins-then h p T o.object o.begins;
        room = omega (arith, o.room, ap room_for (heads-same h o.object));
        low = omega (arith, o.low, refs-same h o.object);
        at = o.at;
      }

-- ---- stretch after stretch

module _ {p : Sizes} {a b : ℕ} {W T W' : List ℕ} (h : Rewritten (SlotFrom p a b W T) W W') where
  -- the slots that come can still be read
  pub readable-rest : {c d : ℕ} → Readable p a d W T → a ≤ b → c ≤ d → Readable p b c W' T
  readable-rest r l m =
      record {
        cells-long = omega (arith, r.cells-long, h.size);
        tables-long = r.tables-long;
        used = r.used;
        few = λ k u. omega (arith, r.few k (begins-then h p T k u), refs-same h k);
        names = λ x s.
            subst (λ (y : ℕ). Names p y) (sym (h.same x (λ q. omega (arith, q.below, s.from))))
            (r.names x (record { slot = slots-then h x s.slot; from = omega (arith, s.from); below = omega (arith, s.below) }));
      }

  pub forwarded-on : {c : ℕ} {W'' : List ℕ} → a ≤ b → b ≤ c → Rewritten (SlotFrom p b c W' T) W' W'' → Rewritten (SlotFrom p a c W T) W W''
  forwarded-on {c} l m k =
      rewritten-join h k (λ x s q. omega (arith, s.below, q.from)) (λ x s. part x s (dec_lt x b))
      (λ x. ⊎_elim (λ s. record { slot = s.slot; from = s.from; below = omega (arith, s.below) })
      (λ s. record { slot = slots-then h x s.slot; from = omega (arith, s.from); below = s.below }))
    where
      part : (x : ℕ) → SlotFrom p a c W T x → Dec (x < b) → SlotFrom p a b W T x ⊎ SlotFrom p b c W' T x
      part x s (yes z) = inl (record { slot = s.slot; from = s.from; below = z })
      part x s (no z) = inr (record { slot = slots-now h x s.slot; from = omega arith; below = s.below })

  -- over a gap
  pub forwarded-gap : {c : ℕ} → a ≤ b → b ≤ c → NoSlot p b c W' T → Rewritten (SlotFrom p a c W T) W W'
  forwarded-gap {c} l m none = forwarded-on l m (rewritten-none (SlotFrom p b c W' T) W' none)

pub forwarded-start : (p : Sizes) (a : ℕ) (W T : List ℕ) → Rewritten (SlotFrom p a a W T) W W
forwarded-start p a W T = rewritten-none (SlotFrom p a a W T) W (λ x s. omega (arith, s.from, s.below))

-- all slots lie below the end
pub forwarded-all : {p : Sizes} {n : ℕ} {W T W' : List ℕ} → ((x : ℕ) → Slot p W T x → x < n) → Rewritten (SlotFrom p 0 n W T) W W' → Rewritten (Slot p W T) W W'
forwarded-all low h = rewritten-like h (λ x o. record { slot = o; from = omega arith; below = low x o }) (λ x s. s.slot)

-- ---- the cells in use of a page before a place; k is the cell there as the code has it

module _ {p : Sizes} {page used place : ℕ} {W T W' : List ℕ} (r : PageReadable p page used W T)
    (h : Rewritten (SlotFrom p (head_at (cell_on page 0)) (head_at (cell_on page place)) W T) W W') where
  module _ (k : ℕ) (l : place < used) (e : k ≡ cell_on page place) where
    begins-still : Begins p W' T k
    begins-still = begins-now h p T k (begins-here r k place l e)

    rest : Readable p (head_at k) (head_at (k + 1)) W' T
    rest = readable-rest (subst (λ (y : ℕ). Rewritten (SlotFrom p (head_at (cell_on page 0)) y W T) W W') (ap head_at (sym e)) h) r.readable (omega arith) (omega (arith, used-most r))

    pub place-readable : CellReadable k W'
    place-readable = cell-readable k begins-still rest

    pub place-forwarded : {W'' : List ℕ} → Rewritten (Field k (refs_of W' k)) W' W'' → Rewritten (SlotFrom p (head_at (cell_on page 0)) (head_at (cell_on page (place + 1))) W T) W W''
    place-forwarded {W''} z =
        let i : head_at k ≡ head_at (cell_on page place) = ap head_at e in
        let j : head_at (k + 1) ≡ head_at (cell_on page (place + 1)) = omega arith in
        forwarded-on h (omega arith) (omega arith)
        (subst₂ (λ (x y : ℕ). Rewritten (SlotFrom p x y W' T) W' W'') i j (cell-forwarded begins-still place-readable.few z))

  pub page-forwarded : used ≤ place → place ≤ page_cells → Rewritten (SlotFrom p (head_at (cell_on page 0)) (head_at (cell_on (page + 1) 0)) W T) W W'
  page-forwarded l m = forwarded-gap h (omega arith) (omega arith) (gap-past p W' T page place (omega (arith, r.cells)) m)

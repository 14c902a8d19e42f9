-- Where slots and the regions they cross into are the same, crossing is; and a store to one slot.
use Rattle.std.specs.Prelude.{ℕ, suc, ◌-◌, ◌<◌, List, cond, ◌≡◌, refl, ◌⊎◌, get_or, length, set, ltb, eqb}
use Rattle.std.proofs.Common.{sym, ap, ap₂, subst, ◌∙◌, inl, ⊎_elim, arith, le-ltb}
use Rattle.std.proofs.Math.Logic.{by_cases}
use Rattle.std.proofs.Math.Decide.{dec_lt}
use Rattle.lists.specs.Stores.{put, past}
use Rattle.rules.specs.declared.Sizes.{Sizes}
use Rattle.layout.specs.Places.{owner_of, used_of}
use Rattle.layout.specs.Cells.{head_at, head_of, field_count, room_for, page_of, page_at, cell_of}
use Rattle.layout.specs.declared.Kind.TheVariants.{Reference}
use Rattle.layout.specs.Objects.{Begins, begins-page, begins-same, begins-back, field-not-head, Slot, slot?, slot-on}
use Rattle.remember.specs.Crossing.{other, region_of, crosses_to, crosses_at, cross_to}
use Rattle.remember.proofs.Crosses.{slot-cross, no-cross, region-there}
use Rattle.remember.specs.Entries.{Elsewhere}

-- the region of a reference to a cell of the heap
pub region-of : (p : Sizes) (t : List ℕ) (c : ℕ) → page_of c < p.pages → region_of p t (suc c) ≡ owner_of p t (page_of c)
region-of p t c l = sym (region-there p t (suc c) (λ (z : suc c ≡ 0). omega arith) (let e : c ≡ suc c - 1 = omega arith in e) refl l refl)

-- an object that keeps its word 0 keeps its slots
pub slot-stays : {p : Sizes} {c t c' t' : List ℕ} {q : ℕ} (o : Slot p c t q) → Begins p c' t' o.object → head_of c' o.object ≡ head_of c o.object → Slot p c' t' q
slot-stays {c' = c'} o b e =
    record {
      object = o.object;
      field = o.field;
      begins = b;
      room = subst (λ (h : ℕ). o.field < room_for h) (sym e) o.room;
      low = subst (λ (h : ℕ). o.field < field_count Reference h) (sym e) o.low;
      at = o.at;
    }

-- ---- the same slots cross into the same regions

module _ (p : Sizes) (c t c' t' : List ℕ) (q : ℕ) where
  pub cross-same : (Slot p c t q → Slot p c' t' q × (crosses_at p c' t' q ≡ crosses_at p c t q))
      → (Slot p c' t' q → Slot p c t q ⊎ (crosses_at p c' t' q ≡ 0)) → cross_to p c' t' q ≡ cross_to p c t q
  cross-same kept new =
      by_cases (slot? p c t q) (λ o. let k = kept o in slot-cross p c' t' q k.0 ∙ k.1 ∙ sym (slot-cross p c t q o))
      (λ n. by_cases (slot? p c' t' q) (λ o. slot-cross p c' t' q o ∙ ⊎_elim (λ x. absurd (n x)) (λ z. z) (new o)) (no-cross p c' t' q) ∙ sym (no-cross p c t q n))

-- so where owners, used words and heads are the same, by the words of the slots
module _ (p : Sizes) (c t c' t' : List ℕ) (used : (page : ℕ) → page < p.pages → used_of p t' page ≡ used_of p t page)
    (heads : (k : ℕ) → Begins p c t k → head_of c' k ≡ head_of c k) where
  pub begins-kept : (k : ℕ) → Begins p c t k → Begins p c' t' k
  begins-kept k b = begins-same p c t c' t' k (used (page_of k) (begins-page p c t k b)) (λ j b e. heads j b) b

  pub begins-were : (k : ℕ) → Begins p c' t' k → Begins p c t k
  begins-were k b = begins-back p c t c' t' k (used (page_of k) (begins-page p c' t' k b)) (λ j b e. heads j b) b

  module _ (owners : (page : ℕ) → page < p.pages → owner_of p t' page ≡ owner_of p t page) where
    region-same : (x : ℕ) → region_of p t' x ≡ region_of p t x
    region-same x =
        by_cases (dec_lt (page_of (x - 1)) p.pages) (λ l. ap (λ (n : ℕ). cond (eqb x 0) 0 (cond (ltb (page_of (x - 1)) p.pages) n 0)) (owners (page_of (x - 1)) l))
        (λ l. rw (le-ltb (page_of (x - 1)) p.pages (omega arith)))

    pub cross-alike : (q : ℕ) → (Slot p c t q → get_or c' q 0 ≡ get_or c q 0) → cross_to p c' t' q ≡ cross_to p c t q
    cross-alike q word =
        cross-same p c t c' t' q
        (λ o. (
          slot-stays o (begins-kept o.object o.begins) (heads o.object o.begins),
          ap₂ other (owners (page_at q) (slot-on p c t q o)) (ap (region_of p t') (word o) ∙ region-same (get_or c q 0)),
        ))
        (λ o. let b = begins-were o.object o.begins in inl (slot-stays o b (sym (heads o.object b))))

-- ---- a store to one slot

module _ (p : Sizes) (c t : List ℕ) (at x : ℕ) (o : Slot p c t at) where
  -- word 0 of an object is no slot
  head-past : (k : ℕ) → Begins p c t k → head_of (set c at x) k ≡ head_of c k
  head-past k b = past c at x (head_at k) 0 (λ e. field-not-head p c t k b o.object o.begins o.field o.room (e ∙ sym o.at))

  pub cross-stored : at < length c → cross_to p (set c at x) t at ≡ crosses_to p t (cell_of at) x
  cross-stored l =
      slot-cross p (set c at x) t at (slot-stays o (begins-kept p c t (set c at x) t (λ page l. refl) head-past o.object o.begins) (head-past o.object o.begins))
      ∙ ap (crosses_to p t (cell_of at)) (put c at x 0 l)

  pub cross-elsewhere : Elsewhere (cross_to p c t) (cross_to p (set c at x) t) at
  cross-elsewhere q d = cross-alike p c t (set c at x) t (λ page l. refl) head-past (λ page l. refl) q (λ s. past c at x q 0 d)

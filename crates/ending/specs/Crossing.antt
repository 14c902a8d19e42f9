-- Crossing slots and their entries after an end, where they are references of the objects that live on, in their cells.
use Rattle.std.specs.Prelude.{◌≡◌, refl, ◌≢◌, ◌⊎◌, ℕ, zero, suc, ◌<◌, get_or}
use Rattle.std.proofs.Common.{sym, ap, ap₂, subst, ◌∙◌, inl, inr, ⊎_elim, pos_of_ne-zero, arith}
use Rattle.rules.specs.declared.Sizes.{Sizes}
use Rattle.laws.specs.SameRules.{renamed}
use Rattle.layout.specs.Places.{cells_words}
use Rattle.layout.specs.Cells.{field_at, field_of, page_of, cell_named}
use Rattle.layout.specs.Objects.{Slot}
use Rattle.layout.specs.Words.{Words, BeginsIn, owner_in, ref_count}
use Rattle.remember.specs.Crossing.{other, region_of, cross_to, crosses_from}
use Rattle.remember.proofs.Crosses.{crosses-into, into-crosses, crosses-null, slot-cross, cross-slot}
use Rattle.remember.specs.Renewed.{Renewed, renewed-exact}
use Rattle.promises.specs.Whole.{RememberWhole}
use Rattle.promises.specs.Slots.{region-of}
use Rattle.promises.specs.Ends.{Part, Outside, Survivor, Lives, lives-how}
use Rattle.ending.specs.Placing.{Placing, LiveSlot, placed-page, refs-placed, live-slot, live-page, live-low}

-- the region that reference f of the object that was in cell c crosses into, with the objects in their cells
abbrev pub cross_then : Sizes → Words → Words → (ℕ → ℕ) → ℕ → ℕ → ℕ
cross_then s w w' cell c f = crosses_from s w'.tables (owner_in s w' (page_of (cell c))) (renamed cell (field_of w.cells c f))

-- The entries E, each by its slot and its region, are those of the slots of objects of O that cross then.
pub record Told (s : Sizes) (w : Words) (e : Part) (w' : Words) (cell : ℕ → ℕ) (O : ℕ → Type 0) (E : ℕ → ℕ → Type 0) : Type 0 where
  pub live : (x h : ℕ) → E x h → (q : LiveSlot s w e cell x) × (h ≡ cross_then s w w' cell q.object q.field)
  pub kept : (x h : ℕ) → E x h → h ≢ 0
  pub every : (x : ℕ) (q : LiveSlot s w e cell x) → O q.object → cross_then s w w' cell q.object q.field ≢ 0 → E x (cross_then s w w' cell q.object q.field)

-- those of the objects outside the part and of the survivors are all
pub told-both : {s : Sizes} {w : Words} {e : Part} {w' : Words} {cell : ℕ → ℕ} {D E : ℕ → ℕ → Type 0} → Told s w e w' cell (Outside s w e) D → Told s w e w' cell (Survivor s w e) E
    → Told s w e w' cell (Lives s w e) (λ x h. D x h ⊎ E x h)
told-both a b =
    record {
      live = λ x h. ⊎_elim (a.live x h) (b.live x h);
      kept = λ x h. ⊎_elim (a.kept x h) (b.kept x h);
      every = λ x q l n. ⊎_elim (λ o. inl (a.every x q o n)) (λ v. inr (b.every x q v n)) (lives-how l);
    }

module _ {s : Sizes} {w : Words} {e : Part} {w' : Words} {cell : ℕ → ℕ} (h : Placing s w e w' cell) where
  -- the region of an object that lives on
  abbrev home : ℕ → ℕ
  home c = owner_in s w' (page_of (cell c))

  module _ (c f : ℕ) (l : Lives s w e c) (m : f < ref_count w c) where
    -- a reference crosses exactly if it names an object of another region than its own and than the control space
    pub crosses-names : cross_then s w w' cell c f ≢ 0
        → (d : ℕ) × Lives s w e d × (field_of w.cells c f ≡ suc d) × (cross_then s w w' cell c f ≡ home d) × (1 < home d) × (home d ≢ home c)
    crosses-names n = go (field_of w.cells c f) refl
      where
        go : (v : ℕ) → field_of w.cells c f ≡ v
            → (d : ℕ) × Lives s w e d × (field_of w.cells c f ≡ suc d) × (cross_then s w w' cell c f ≡ home d) × (1 < home d) × (home d ≢ home c)
        go zero z = absurd (n (ap (λ (y : ℕ). crosses_from s w'.tables (home c) (renamed cell y)) z ∙ sym (crosses-null s w'.tables (home c) 0 refl)))
        go (suc d) z =
            let v = crosses-into s w'.tables (home c) (suc (cell d)) (cross_then s w w' cell c f) (ap (λ (y : ℕ). crosses_from s w'.tables (home c) (renamed cell y)) z) n in
            let y : cell_named (suc (cell d)) ≡ cell d = omega arith in
            let o : cross_then s w w' cell c f ≡ home d = v.region ∙ ap (λ (y : ℕ). owner_in s w' (page_of y)) y in
            (d, h.keeps.references c f d l m z, z, o, omega (arith, v.high, o), λ p. v.other (o ∙ p))

    pub names-cross : (d : ℕ) → field_of w.cells c f ≡ suc d → 1 < home d → home d ≢ home c → cross_then s w w' cell c f ≡ home d
    names-cross d z up ne =
        let y : cell_named (suc (cell d)) ≡ cell d = omega arith in
        ap (λ (y : ℕ). crosses_from s w'.tables (home c) (renamed cell y)) z
        ∙ sym (into-crosses s w'.tables (home c) (suc (cell d)) (home d)
        (record {
          real = λ p. omega arith;
          page = subst (λ (x : ℕ). page_of x < s.pages) (sym y) (placed-page h d (h.keeps.references c f d l m z));
          region = ap (λ (x : ℕ). owner_in s w' (page_of x)) (sym y);
          high = up;
          other = ne;
        }))

  -- ---- by later words in which the objects are in the same cells, on pages of the same owners

  module _ {w'' : Words} (k : Placing s w e w'' cell) (same : (c : ℕ) → Lives s w e c → owner_in s w'' (page_of (cell c)) ≡ owner_in s w' (page_of (cell c))) where
    crosses-same : (c f : ℕ) → Lives s w e c → f < ref_count w c → cross_then s w w'' cell c f ≡ cross_then s w w' cell c f
    crosses-same c f l m = ap₂ other (same c l) (go (field_of w.cells c f) refl)
      where
        go : (v : ℕ) → field_of w.cells c f ≡ v → region_of s w''.tables (renamed cell v) ≡ region_of s w'.tables (renamed cell v)
        go zero z = refl
        go (suc d) z =
            let y = h.keeps.references c f d l m z in
            region-of s w''.tables (cell d) (placed-page k d y) ∙ same d y ∙ sym (region-of s w'.tables (cell d) (placed-page h d y))

    pub told-later : {O : ℕ → Type 0} {E : ℕ → ℕ → Type 0} → Told s w e w' cell O E → Told s w e w'' cell O E
    told-later {O} {E} t =
        record {
          live = λ x g q. let y = t.live x g q in (y.0, y.1 ∙ sym (crosses-same y.0.object y.0.field y.0.lives y.0.low));
          kept = t.kept;
          every = λ x q o n. let z = crosses-same q.object q.field q.lives q.low in subst (E x) (sym z) (t.every x q o (λ y. n (z ∙ y)));
        }

  -- ---- the table of such entries is whole, where the references lead to the cells of what they named and no other object is there

  module _ (references : (c f : ℕ) → Lives s w e c → f < ref_count w c → field_of w'.cells (cell c) f ≡ renamed cell (field_of w.cells c f))
      (only : (d : ℕ) → BeginsIn s w' d → (c : ℕ) × Lives s w e c × (cell c ≡ d)) where
    pub live_here : (x : ℕ) → Slot s w'.cells w'.tables x → LiveSlot s w e cell x
    live_here x q =
        let o = only q.object q.begins in
        record {
          object = o.0;
          field = q.field;
          lives = o.1;
          low = omega (arith, q.low, ap (ref_count w') (sym o.2) ∙ refs-placed h o.0 o.1);
          at = sym q.at ∙ ap (λ (d : ℕ). field_at d q.field) (sym o.2);
        }

    pub cross-here : (x : ℕ) (q : LiveSlot s w e cell x) → cross_to s w'.cells w'.tables x ≡ cross_then s w w' cell q.object q.field
    cross-here x q =
        slot-cross s w'.cells w'.tables x (live-slot h x q)
        ∙ ap₂ (λ (p y : ℕ). other (owner_in s w' p) (region_of s w'.tables y)) (live-page h x q)
        (ap (λ (y : ℕ). get_or w'.cells y 0) q.at ∙ references q.object q.field q.lives q.low)

    pub told-whole : {E : ℕ → ℕ → Type 0} → Told s w e w' cell (Lives s w e) E → Renewed E s.entries w.remember w'.remember → RememberWhole s w'
    told-whole {E} t =
        renewed-exact (cross_to s w'.cells w'.tables) (cells_words s)
        (λ x g q.
        let y = t.live x g q in
        record { slot = live-low h x y.0; region = pos_of_ne-zero (t.kept x g q); right = cross-here x y.0 ∙ sym y.1 })
        (λ x l p.
        let y = live_here x (cross-slot s w'.cells w'.tables x p) in
        let z = cross-here x y in
        subst (E x) (sym z) (t.every x y y.lives (λ n. omega (arith, z))))

-- What would cross after the end of r, on the old cells: an object lies then where its word 1 says, if that is not 0, else where it lies.
use Rattle.std.specs.Prelude.{◌≡◌, Bool, true, false, List, ℕ, ◌+◌, ◌-◌, ◌≤◌, ltb, eqb, get_or}
use Rattle.std.proofs.Math.Path.{sym, ap, ap₂}
use Rattle.std.proofs.Common.{◌∙◌, arith, lt-ltb, eq-eqb, ne_eqb}
use Rattle.std.proofs.Math.Bool.{cond}
use Rattle.lists.specs.Counting.{sum, bit, bit-le-one}
use Rattle.rules.specs.declared.Sizes.{Sizes}
use Rattle.layout.specs.Places.{owner_of, entries_used, slot_in}
use Rattle.layout.specs.Cells.{work_of, field_of, page_of, page_at, refs_of}
use Rattle.remember.specs.Crossing.{other}
use Rattle.mark.specs.Marks.{owner}
use Rattle.census.specs.Counted.{over_marked}

-- the region of a cell after the end
unfoldable pub home_after : Sizes → List ℕ → List ℕ → ℕ → ℕ
home_after p W T c = cond (eqb (work_of W c) 0) (owner p T c) (work_of W c)

-- a slot of an object in region `from` that points into region h
abbrev pub cross_one : ℕ → ℕ → ℕ
cross_one «from» h = bit (ltb 0 (other «from» h))

-- 1 if reference x crosses from that region after the end, else 0
unfoldable pub cross_after : Sizes → List ℕ → List ℕ → ℕ → ℕ → ℕ
cross_after p W T «from» x = cond (eqb x 0) 0 (cross_one «from» (home_after p W T (x - 1)))

-- the slots of survivor c that cross
unfoldable pub cell_crosses : Sizes → List ℕ → List ℕ → ℕ → ℕ
cell_crosses p W T c = sum (λ f. cross_after p W T (work_of W c) (field_of W c f)) (refs_of W c)

-- 1 if the slot at word q lies outside r and crosses, else 0
unfoldable pub slot_crosses : Sizes → List ℕ → List ℕ → ℕ → ℕ → ℕ
slot_crosses p W T r q = cond (eqb (owner_of p T (page_at q)) r) 0 (cross_after p W T (owner_of p T (page_at q)) (get_or W q 0))

-- remembered slots outside r, and the survivors' slots
abbrev pub entries_cross : Sizes → List ℕ → List ℕ → List ℕ → ℕ → ℕ
entries_cross p W m T r = sum (λ i. slot_crosses p W T r (slot_in m i)) (entries_used m)

abbrev pub crossing_counted : Sizes → List ℕ → List ℕ → List ℕ → ℕ → ℕ
crossing_counted p W m T r = entries_cross p W m T r + over_marked p T (cell_crosses p W T) p.pages

-- ---- as the code decides it; page, q, v and h are what it read

module _ (p : Sizes) (W T : List ℕ) where
  pub after-moved : (c v : ℕ) → v ≡ work_of W c → (v ≡ 0 → ⊥) → v ≡ home_after p W T c
  unfolding home_after
  after-moved c v e n = e ∙ sym (ap (λ (b : Bool). cond b (owner p T c) (work_of W c)) (ne_eqb (work_of W c) 0 (λ z. n (e ∙ z))))

  pub after-still : (c page q v : ℕ) → v ≡ work_of W c → v ≡ 0 → page ≡ page_of c → q ≡ owner_of p T page → q ≡ home_after p W T c
  unfolding home_after
  after-still c page q v e z ep eq =
      eq ∙ ap (λ (x : ℕ). owner_of p T x) ep ∙ sym (ap (λ (b : Bool). cond b (owner p T c) (work_of W c)) (eq-eqb (work_of W c) 0 (sym e ∙ z)))

  pub cross-after-null : («from» x : ℕ) → x ≡ 0 → 0 ≡ cross_after p W T «from» x
  unfolding cross_after
  cross-after-null «from» x z = sym (ap (λ (b : Bool). cond b 0 (cross_one «from» (home_after p W T (x - 1)))) (eq-eqb x 0 z))

  -- c is the cell that x names
  cross-some : («from» x c h : ℕ) → (x ≡ 0 → ⊥) → c ≡ x - 1 → h ≡ home_after p W T c → cross_after p W T «from» x ≡ cross_one «from» h
  unfolding cross_after
  cross-some «from» x c h n ec e =
      ap (λ (b : Bool). cond b 0 (cross_one «from» (home_after p W T (x - 1)))) (ne_eqb x 0 n)
      ∙ ap (cross_one «from») (ap (home_after p W T) (sym ec) ∙ sym e)

  -- g is the region that the reference crosses into then
  pub cross-not : («from» x c h g : ℕ) → (x ≡ 0 → ⊥) → c ≡ x - 1 → h ≡ home_after p W T c → g ≡ other «from» h → g ≡ 0 → 0 ≡ cross_after p W T «from» x
  cross-not «from» x c h g n ec e f z = sym (cross-some «from» x c h n ec e ∙ ap (λ (y : ℕ). bit (ltb 0 y)) (sym f ∙ z))

  pub cross-out : («from» x c h g : ℕ) → (x ≡ 0 → ⊥) → c ≡ x - 1 → h ≡ home_after p W T c → g ≡ other «from» h → (g ≡ 0 → ⊥) → 1 ≡ cross_after p W T «from» x
  cross-out «from» x c h g n ec e f z = sym (cross-some «from» x c h n ec e ∙ ap bit (lt-ltb 0 (other «from» h) (omega arith)))

  cond-le : (b : Bool) (x : ℕ) → x ≤ 1 → cond b 0 x ≤ 1
  cond-le true x l = omega arith
  cond-le false x l = l

  pub cross-le : («from» x : ℕ) → cross_after p W T «from» x ≤ 1
  unfolding cross_after
  cross-le «from» x = cond-le (eqb x 0) _ (bit-le-one (ltb 0 (other «from» (home_after p W T (x - 1)))))

  pub slot-le : (r q : ℕ) → slot_crosses p W T r q ≤ 1
  unfolding slot_crosses
  slot-le r q = cond-le (eqb (owner_of p T (page_at q)) r) _ (cross-le (owner_of p T (page_at q)) (get_or W q 0))

  -- the slot at q, as the code came to it
  pub slot-in : (r q page o : ℕ) → page ≡ page_at q → o ≡ owner_of p T page → o ≡ r → 0 ≡ slot_crosses p W T r q
  unfolding slot_crosses
  slot-in r q page o ep eo n =
      let f : o ≡ owner_of p T (page_at q) = eo ∙ ap (λ (z : ℕ). owner_of p T z) ep in
      sym (ap (λ (b : Bool). cond b 0 (cross_after p W T (owner_of p T (page_at q)) (get_or W q 0))) (eq-eqb (owner_of p T (page_at q)) r (sym f ∙ n)))

  pub slot-out : (r q page o v x : ℕ) → page ≡ page_at q → o ≡ owner_of p T page → (o ≡ r → ⊥) → v ≡ get_or W q 0 → x ≡ cross_after p W T o v
      → x ≡ slot_crosses p W T r q
  unfolding slot_crosses
  slot-out r q page o v x ep eo n ev ex =
      let f : o ≡ owner_of p T (page_at q) = eo ∙ ap (λ (z : ℕ). owner_of p T z) ep in
      ex ∙ ap₂ (cross_after p W T) f ev
      ∙ sym (ap (λ (b : Bool). cond b 0 (cross_after p W T (owner_of p T (page_at q)) (get_or W q 0))) (ne_eqb (owner_of p T (page_at q)) r (λ z. n (f ∙ z))))

  -- f is past the last slot
  pub cells-cross : (c f n : ℕ) → f ≡ refs_of W c → n ≡ sum (λ i. cross_after p W T (work_of W c) (field_of W c i)) f → n ≡ cell_crosses p W T c
  unfolding cell_crosses
  cells-cross c f n e d = d ∙ ap (sum (λ i. cross_after p W T (work_of W c) (field_of W c i))) e

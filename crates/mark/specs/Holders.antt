-- The holders at the end of region r, read from the words: all variables, and the remembered slots that point into r. Each holds a
-- reference and calls for a region.
use Rattle.std.specs.Prelude.{◌≡◌, refl, Bool, true, false, List, ◌++◌, ℕ, ◌+◌, ◌-◌, ◌*◌, ◌/◌, ◌≤◌, ◌<◌, eqb, length, get_or}
use Rattle.std.proofs.Math.Path.{sym, ap, ap₂}
use Rattle.std.proofs.Common.{◌∙◌, subst, arith, div-add-mod', mod-lt, eq-eqb, ne_eqb}
use Rattle.std.proofs.Math.Bool.{cond}
use Rattle.lists.specs.Listed.{listed}
use Rattle.lists.specs.Products.{flat-row}
use Rattle.rules.specs.Regions.{join}
use Rattle.rules.specs.declared.Sizes.{Sizes}
use Rattle.layout.specs.Places.{Room, var_of, owner_of, entries_used, slot_in, slot_region_in, vars_from, cells_words, remember_words, var_count}
use Rattle.layout.specs.Cells.{page_at, cell_of, at-page}
use Rattle.layout.specs.Objects.{Slot, slot-word}
use Rattle.layout.specs.Words.{words}
use Rattle.remember.proofs.Crosses.{cross-slot}
use Rattle.promises.specs.Whole.{IsRef, VariablesWhole, RememberWhole}
use Rattle.promises.proofs.Frames.{variables-frame, remember-frame}
use Rattle.mark.specs.Marks.{Shaped, Kept, kept-only, kept-owner}

-- reference x of a holder that calls for q, or null if that is not g
abbrev pub held_for : ℕ → ℕ → ℕ → ℕ
held_for g q x = cond (eqb q g) x 0

-- what variable i calls for: outer if it is the ending thread's, else the control space
abbrev pub var_calls : Sizes → ℕ → ℕ → ℕ → ℕ
var_calls p thread outer i = cond (eqb (i / p.variables) thread) outer 1

unfoldable pub var_held : Sizes → List ℕ → ℕ → ℕ → ℕ → ℕ → ℕ
var_held p T thread outer g i = held_for g (var_calls p thread outer i) (var_of p T i)

-- what the slot of entry i calls for: the join of r and the region that the slot lies in
abbrev pub slot_calls : Sizes → List ℕ → List ℕ → ℕ → ℕ → ℕ
slot_calls p m T r i = join p r (owner_of p T (page_at (slot_in m i)))

unfoldable pub slot_held : Sizes → List ℕ → List ℕ → List ℕ → ℕ → ℕ → ℕ → ℕ
slot_held p W m T r g i = cond (eqb (slot_region_in p.entries m i) r) (held_for g (slot_calls p m T r i) (get_or W (slot_in m i) 0)) 0

-- the references that holders hold which call for g
unfoldable pub held_refs : Sizes → List ℕ → List ℕ → List ℕ → ℕ → ℕ → ℕ → ℕ → List ℕ
held_refs p W m T r thread outer g = listed (var_held p T thread outer g) (var_count p) ++ listed (slot_held p W m T r g) (entries_used m)

-- the variables and the remember table are whole, and can be read
pub record Holding (p : Sizes) (W m T : List ℕ) : Type 0 where
  pub some : 1 ≤ p.variables
  pub long : remember_words p ≤ length m
  pub variables : VariablesWhole p (words W m T)
  pub remember : RememberWhole p (words W m T)

module _ {p : Sizes} {W m T : List ℕ} (h : Holding p W m T) where
  -- the slot of entry i
  pub slot-low : (i : ℕ) → i < entries_used m → slot_in m i < cells_words p
  slot-low i l = (h.remember.entries.named i l).slot

  entry-slot : (i : ℕ) → i < entries_used m → Slot p W T (slot_in m i)
  entry-slot i l = let e = h.remember.entries.named i l in cross-slot p W T (slot_in m i) (omega (arith, e.region, e.right))

  -- what it holds is null or names an object
  pub slot-ref : Shaped p W T → (i : ℕ) → i < entries_used m → IsRef p W T (get_or W (slot_in m i) 0)
  slot-ref s i l =
      let o = entry-slot i l in
      subst (λ (q : ℕ). IsRef p W T (get_or W q 0)) o.at ((s.objects o.object o.begins).references o.field o.low)

cond-ref : (p : Sizes) (W T : List ℕ) (b : Bool) (x : ℕ) → IsRef p W T x → IsRef p W T (cond b x 0)
cond-ref p W T true x h = h
cond-ref p W T false x h = λ l. absurd (let z : ⊥ = omega arith in z)

module _ {p : Sizes} {W m T : List ℕ} (s : Shaped p W T) (h : Holding p W m T) where
  pub var-held-ref : (thread outer g i : ℕ) → i < var_count p → IsRef p W T (var_held p T thread outer g i)
  unfolding var_held
  var-held-ref thread outer g i l = cond-ref p W T (eqb (var_calls p thread outer i) g) (var_of p T i) (h.variables i l)

  pub slot-held-ref : (r g i : ℕ) → i < entries_used m → IsRef p W T (slot_held p W m T r g i)
  unfolding slot_held
  slot-held-ref r g i l =
      cond-ref p W T (eqb (slot_region_in p.entries m i) r) (held_for g (slot_calls p m T r i) (get_or W (slot_in m i) 0))
      (cond-ref p W T (eqb (slot_calls p m T r i) g) (get_or W (slot_in m i) 0) (slot-ref h s i l))

-- ---- what is held, as the code decides it

-- whether variable i is the thread's, told by where its variables stand
module _ (p : Sizes) (thread i : ℕ) (some : 1 ≤ p.variables) where
  pub own-from : i / p.variables ≡ thread → thread * p.variables ≤ i
  own-from e =
      let d = div-add-mod' i p.variables in
      let z = ap (λ (t : ℕ). t * p.variables) e in
      omega (arith, d, z)

  pub own-to : i / p.variables ≡ thread → i < thread * p.variables + p.variables
  own-to e =
      let d = div-add-mod' i p.variables in
      let z = ap (λ (t : ℕ). t * p.variables) e in
      omega (arith, d, z, mod-lt i some)

  pub own-between : thread * p.variables ≤ i → i < thread * p.variables + p.variables → i / p.variables ≡ thread
  own-between l h =
      let a = i - thread * p.variables in
      let e : i ≡ thread * p.variables + a = omega arith in
      ap (λ (j : ℕ). j / p.variables) e ∙ flat-row thread (omega arith)

pub calls-own : (p : Sizes) (thread outer i : ℕ) → i / p.variables ≡ thread → outer ≡ var_calls p thread outer i
calls-own p thread outer i e = sym (ap (λ (b : Bool). cond b outer 1) (eq-eqb (i / p.variables) thread e))

pub calls-other : (p : Sizes) (thread outer i : ℕ) → (i / p.variables ≡ thread → ⊥) → 1 ≡ var_calls p thread outer i
calls-other p thread outer i n = sym (ap (λ (b : Bool). cond b outer 1) (ne_eqb (i / p.variables) thread n))

-- q is what the holder calls for, x what it holds
pub var-none : (p : Sizes) (T : List ℕ) (thread outer g i q : ℕ) → q ≡ var_calls p thread outer i → (q ≡ g → ⊥) → 0 ≡ var_held p T thread outer g i
unfolding var_held
var-none p T thread outer g i q e n =
    sym (ap (λ (b : Bool). cond b (var_of p T i) 0) (ne_eqb (var_calls p thread outer i) g (λ z. n (e ∙ z))))

pub var-some : (p : Sizes) (T : List ℕ) (thread outer g i q x : ℕ) → q ≡ var_calls p thread outer i → q ≡ g → x ≡ var_of p T i → x ≡ var_held p T thread outer g i
unfolding var_held
var-some p T thread outer g i q x e n f = f ∙ sym (ap (λ (b : Bool). cond b (var_of p T i) 0) (eq-eqb (var_calls p thread outer i) g (sym e ∙ n)))

module _ (p : Sizes) (W m T : List ℕ) (r g i : ℕ) where
  pub slot-elsewhere : (slot_region_in p.entries m i ≡ r → ⊥) → 0 ≡ slot_held p W m T r g i
  unfolding slot_held
  slot-elsewhere n =
      sym (ap (λ (b : Bool). cond b (held_for g (slot_calls p m T r i) (get_or W (slot_in m i) 0)) 0) (ne_eqb (slot_region_in p.entries m i) r n))

  pub slot-none : slot_region_in p.entries m i ≡ r → (slot_calls p m T r i ≡ g → ⊥) → 0 ≡ slot_held p W m T r g i
  unfolding slot_held
  slot-none a n =
      sym
      (ap₂ (λ (b d : Bool). cond b (cond d (get_or W (slot_in m i) 0) 0) 0) (eq-eqb (slot_region_in p.entries m i) r a) (ne_eqb (slot_calls p m T r i) g n))

  pub slot-some : slot_region_in p.entries m i ≡ r → slot_calls p m T r i ≡ g → get_or W (slot_in m i) 0 ≡ slot_held p W m T r g i
  unfolding slot_held
  slot-some a n =
      sym
      (ap₂ (λ (b d : Bool). cond b (cond d (get_or W (slot_in m i) 0) 0) 0) (eq-eqb (slot_region_in p.entries m i) r a) (eq-eqb (slot_calls p m T r i) g n))

  -- the region that the slot of entry i calls for, as the code came to it
  pub slot-call : (a at page q u : ℕ) → a ≡ slot_in m i → at ≡ a → page ≡ page_at at → q ≡ owner_of p T page → u ≡ join p r q
      → u ≡ slot_calls p m T r i
  slot-call a at page q u ea eat ep eq eu =
      eu ∙ ap (join p r) (eq ∙ ap (λ (z : ℕ). owner_of p T z) (ep ∙ ap page_at (eat ∙ ea)))

-- ---- a marking changes none of it

module _ {p : Sizes} {W T W' T' : List ℕ} (k : Kept p W T W' T') (room : Room p (length T)) {m : List ℕ} (h : Holding p W m T) where
  pub holding-kept : Holding p W' m T'
  holding-kept =
      let o = kept-only k room m in
      record { some = h.some; long = h.long; variables = variables-frame o refl refl refl h.variables; remember = remember-frame o refl refl refl refl refl h.remember }

  pub kept-var-held : (thread outer g i : ℕ) → i < var_count p → var_held p T' thread outer g i ≡ var_held p T thread outer g i
  unfolding var_held
  kept-var-held thread outer g i l = ap (held_for g (var_calls p thread outer i)) (k.tables (vars_from p + i) (λ page h e. omega arith))

  pub kept-slot-held : (r g i : ℕ) → i < entries_used m → slot_held p W' m T' r g i ≡ slot_held p W m T r g i
  unfolding slot_held
  kept-slot-held r g i l =
      let page : page_at (slot_in m i) < p.pages = at-page p (slot_in m i) (slot-low h i l) in
      ap₂ (λ (q x : ℕ). cond (eqb (slot_region_in p.entries m i) r) (held_for g (join p r q) x) 0) (kept-owner k room (cell_of (slot_in m i)) page) (k.cells (slot_in m i) (λ c b e. omega (arith, (slot-word p W T (slot_in m i) (entry-slot h i l)).1)))

-- variables call for outer or the control space, and for nothing else
pub var-elsewhere : (p : Sizes) (T : List ℕ) (thread outer g : ℕ) → (g ≡ 1 → ⊥) → (g ≡ outer → ⊥) → (i : ℕ) → var_held p T thread outer g i ≡ 0
unfolding var_held
var-elsewhere p T thread outer g n m i =
    ap (λ (b : Bool). cond b (var_of p T i) 0) (ne_eqb (var_calls p thread outer i) g (λ e. go (eqb (i / p.variables) thread) (sym e)))
  where
    go : (b : Bool) → g ≡ cond b outer 1 → ⊥
    go true e = m e
    go false e = n e

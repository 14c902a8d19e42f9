-- A collection of the control space, as 02, W5 states it: what stays and what is freed; that it takes no new page and makes no slot cross; and that
-- a second one finds nothing to free.
use Rattle.std.specs.Prelude.{ℕ, zero, suc, ◌/◌, ◌≤◌, ◌<◌, ◌≡◌, ◌↔◌, Bool, not, ◌&&◌, get_or, eqb}
use native.Mathlib.Omega.{arith}
use Rattle.std.proofs.Math.Decide.{ℕ_discrete}
use Rattle.std.proofs.Math.Path.{refl, sym, ap}
use Rattle.std.proofs.Common.{ap₂, subst, ◌∙◌, inl, inr, eq-eqb, ne_eqb}
use mathlib.Core.List.{List, [], ◌∷◌}
use Rattle.std.proofs.Math.Bool.{cond}
use Rattle.lists.specs.Counting.{bit, sum-le, sum-none, sum_same}
use Rattle.lists.specs.Members.{In, tally}
use Rattle.rules.specs.declared.Sizes.{Sizes}
use Rattle.rules.specs.Regions.{control, thread_of, parent, join, regions}
use Rattle.rules.specs.Graph.{Graph, slots_of, target, ended, freed_by, crossing, objects_in, new_pages}
use Rattle.laws.specs.RegionLaws.{join-control}
use Rattle.laws.specs.GraphLaws.{Alive, Closed, Refers, Leads, itself, along, Holds, by_slot, by_own, by_other, holds-around, target-absorbs, target-reached, target-called}
use Rattle.laws.specs.EndLaws.{home-stayed, home-went, was-alive, closed-ended}
use Rattle.laws.specs.Counts.{cross_in, cross_at, crossing-sum, cross_ref, cross-cons}
use Rattle.laws.specs.Counters.{living, living-ended}
use Rattle.laws.specs.RulesLaws.{control-pos}

-- a variable, or a slot of an object in an open region, holds object y
pub data Holder (g : Graph) (y : ℕ) : Type 0 where
  variable : (i : ℕ) → get_or g.vars i 0 ≡ suc y → Holder g y
  slot : (z : ℕ) → Refers g z y → (g.home z ≡ control → ⊥) → Holder g y

module _ (s : Sizes) (g : Graph) where
  abbrev g' : Graph
  g' = ended s g control

  -- every holder calls for the control space
  pub all-call : (x q : ℕ) → Holds s g control x q → q ≡ control
  all-call x q h = sym (holds-around s g control x q h).is ∙ join-control s q

  pub kept_target : (x : ℕ) → 0 < target s g control x → target s g control x ≡ control
  kept_target x l = let c = target-called s g control x l in all-call c.first (target s g control x) c.held

  -- what is there afterwards lies where it lay
  pub home-kept : (x : ℕ) → Alive g' x → g'.home x ≡ g.home x
  home-kept x a = go (ℕ_discrete (g.home x) control)
    where
      go : Dec (g.home x ≡ control) → g'.home x ≡ g.home x
      go (no n) = home-stayed s g control x n
      go (yes e) =
          let w = home-went s g control x e in
          let nz : target s g control x ≡ 0 → ⊥ = λ z. a (w ∙ z) in
          w ∙ kept_target x (omega arith) ∙ sym e

  -- so the rules' holders of it are these
  pub holder-calls : (y : ℕ) → Holder g y → Holds s g control y control
  holder-calls y h = let c = some h in subst (λ (q : ℕ). Holds s g control y q) (all-call y c.0 c.1) c.1
    where
      some : Holder g y → (q : ℕ) × Holds s g control y q
      some (slot z f o) = (join s control (g.home z), by_slot z f o refl)
      some (variable i at) = go (ℕ_discrete (i / s.variables) (thread_of s control))
        where
          go : Dec (i / s.variables ≡ thread_of s control) → (q : ℕ) × Holds s g control y q
          go (yes e) = (parent s control, by_own i at e refl)
          go (no n) = (1, by_other i at n refl)

  pub calls-holder : (y q : ℕ) → Holds s g control y q → Holder g y
  calls-holder y q (by_slot z f o e) = slot z f o
  calls-holder y q (by_own i at t e) = variable i at
  calls-holder y q (by_other i at t e) = variable i at

  -- AN OBJECT OF THE CONTROL SPACE IS KEPT exactly if a holder leads to it by a chain of slots inside the space
  pub kept-exactly : (x : ℕ) → g.home x ≡ control → Alive g' x ↔ ((y : ℕ) × Holder g y × (g.home y ≡ control) × Leads g control y x)
  kept-exactly x e = (
    λ a.
        let nz : target s g control x ≡ 0 → ⊥ = λ z. a (home-went s g control x e ∙ z) in
        let r = target-reached s g control x (omega arith) in
        (r.1.first, calls-holder r.1.first r.0 r.1.held, r.1.lies, r.1.leads),
    λ h z.
        omega (
          arith,
          (target-absorbs s g control x control (record { first = h.0; lies = h.2; held = holder-calls h.0 h.1; leads = h.3 })).some,
          home-went s g control x e,
        ),
  )

  -- ---- it takes no new page

  -- a region has no more objects than before
  pub objects-fewer : (q : ℕ) → 0 < q → objects_in g' q ≤ objects_in g q
  unfolding objects_in ended
  objects-fewer q pos = sum-le _ _ g.count (λ x l. go x (ℕ_discrete (g'.home x) q))
    where
      go : (x : ℕ) → Dec (g'.home x ≡ q) → cond (eqb (g'.home x) q) 1 0 ≤ cond (eqb (g.home x) q) 1 0
      go x (no n) = omega (arith, ap {B = ℕ} (λ (b : Bool). cond b 1 0) (ne_eqb (g'.home x) q n))
      go x (yes e) =
          let same : g.home x ≡ q = sym (home-kept x (λ z. omega arith)) ∙ e in
          omega (arith, ap {B = ℕ} (λ (b : Bool). cond b 1 0) (eq-eqb (g'.home x) q e), ap {B = ℕ} (λ (b : Bool). cond b 1 0) (eq-eqb (g.home x) q same))

  pub takes-no-page : new_pages s g g' ≡ 0
  unfolding new_pages
  takes-no-page = sum-none _ (regions s) (λ i l. omega (arith, objects-fewer (suc i) (omega arith)))

  -- ---- no slot comes to cross

  module _ (k : Closed g) where
    k' : Closed g'
    k' = closed-ended s g control control-pos k

    cross-ref : (x : ℕ) → Alive g' x → (v : ℕ) → ((y : ℕ) → v ≡ suc y → Alive g' y) → cross_ref g' x v ≡ cross_ref g x v
    cross-ref x a zero f = refl
    cross-ref x a (suc y) f = ap₂ (λ (p q : ℕ). cond (not (eqb p q) && not (eqb q 1)) 1 0) (home-kept x a) (home-kept y (f y refl))

    cross-in : (x : ℕ) → Alive g' x → (vs : List ℕ) → ((y : ℕ) → In (suc y) vs → Alive g' y) → cross_in g' x vs ≡ cross_in g x vs
    unfolding cross_in slots_of tally
    cross-in x a [] f = refl
    cross-in x a (v ∷ vs) f =
        omega (arith, cross-cons g' x v vs, cross-cons g x v vs, cross-ref x a v (λ y e. f y (inl (sym e))), cross-in x a vs (λ y i. f y (inr i)))

    cross-fewer : (x : ℕ) → cross_at g' x ≤ cross_at g x
    unfolding cross_at ended
    cross-fewer x = go (ℕ_discrete (g'.home x) 0)
      where
        go : Dec (g'.home x ≡ 0) → cross_at g' x ≤ cross_at g x
        go (yes z) = omega (arith, ap (λ (b : Bool). cond b 0 (cross_in g' x (g.refs x))) (eq-eqb (g'.home x) 0 z))
        go (no a) =
            omega (
              arith,
              ap (λ (b : Bool). cond b 0 (cross_in g' x (g.refs x))) (ne_eqb (g'.home x) 0 a),
              ap (λ (b : Bool). cond b 0 (cross_in g x (g.refs x))) (ne_eqb (g.home x) 0 (was-alive s g control control-pos k x a)),
              cross-in x a (g.refs x) (λ y i. k'.refs x y a i),
            )

    pub crossing-fewer : crossing g' ≤ crossing g
    unfolding ended
    crossing-fewer = omega (arith, crossing-sum g', crossing-sum g, sum-le (cross_at g') (cross_at g) g.count (λ x l. cross-fewer x))

  -- ---- a second one

  -- what a chain reaches is there afterwards
  reached-stays : (y q x : ℕ) → g.home y ≡ control → Holds s g control y q → g.home x ≡ control → Leads g control y x → g'.home x ≡ control
  reached-stays y q x l h e c =
      home-went s g control x e ∙ kept_target x (target-absorbs s g control x q (record { first = y; lies = l; held = h; leads = c })).some

  leads_stays : (y q x : ℕ) → g.home y ≡ control → Holds s g control y q → Leads g control y x → Leads g' control y x
  unfolding ended
  leads_stays y q x l h itself = itself
  leads_stays y q x l h (along {y = m} {z = z} c f a b) =
      let hm = reached-stays y q m l h a c in
      along (leads_stays y q m l h c) (record { below = f.below; there = λ (e : g'.home m ≡ 0). omega arith; slot = f.slot }) hm
      (reached-stays y q z l h b (along c f a b))

  holds-stays : (y q : ℕ) → Holds s g control y q → Holds s g' control y q
  unfolding ended
  holds-stays y q (by_slot z f o e) =
      let same = home-stayed s g control z o in
      by_slot z (record { below = f.below; there = λ w. f.there (sym same ∙ w); slot = f.slot }) (λ w. o (sym same ∙ w)) (e ∙ ap (join s control) (sym same))
  holds-stays y q (by_own i at t e) = by_own i at t e
  holds-stays y q (by_other i at t e) = by_other i at t e

  -- everything that is there has a holder still
  still-reached : (x : ℕ) → g'.home x ≡ control → 0 < target s g' control x
  still-reached x e =
      let home : g.home x ≡ control = sym (home-kept x (λ (z : g'.home x ≡ 0). omega arith)) ∙ e in
      let w = home-went s g control x home in
      let r = target-reached s g control x (omega (arith, w)) in
      let y = r.1.first in
      let q = r.0 in
      (target-absorbs s g' control x q
      (record {
        first = y;
        lies = reached-stays y q y r.1.lies r.1.held r.1.lies itself;
        held = holds-stays y q r.1.held;
        leads = leads_stays y q x r.1.lies r.1.held r.1.leads;
      })).some

module _ (s : Sizes) (g : Graph) where
  -- COLLECTING TWICE frees nothing the second time
  pub again : (x : ℕ) → (ended s (ended s g control) control).home x ≡ (ended s g control).home x
  again x = go (ℕ_discrete ((ended s g control).home x) control)
    where
      go : Dec ((ended s g control).home x ≡ control) → (ended s (ended s g control) control).home x ≡ (ended s g control).home x
      go (no n) = home-stayed s (ended s g control) control x n
      go (yes e) = home-went s (ended s g control) control x e ∙ kept_target s (ended s g control) x (still-reached s g x e) ∙ sym e

  living-again : living (ended s (ended s g control) control) ≡ living (ended s g control)
  unfolding living ended
  living-again = sum_same _ _ g.count (λ x l. ap (λ (q : ℕ). bit (not (eqb q 0))) (again x))

  pub freed-again : freed_by s (ended s g control) control ≡ 0
  freed-again = omega (arith, living-ended s (ended s g control) control control-pos, living-again)

-- Counts that a command changes: crossing slots after a store, objects and pages after a new object.
use Prim.Native.Nat.{ℕ, zero, suc, ◌+◌, ◌-◌, ◌≤◌, ◌<◌}
use native.Mathlib.Omega.{arith}
use Rattle.std.proofs.Math.Decide.{ℕ_discrete}
use Rattle.std.proofs.Common.{zero-add, add-zero, sym, subst, ◌∙◌, eq-eqb, ne_eqb, eqb-true}
use Rattle.std.proofs.Math.Nat.{add_comm, sub_self}
use Rattle.std.specs.Prelude.{◌≡◌, refl, List, [], ◌∷◌, Bool, true, false, length, get_or, set, eqb}
use Rattle.std.proofs.Math.Path.{ap, ap₂}
use Rattle.std.proofs.Math.Bool.{cond}
use Rattle.rules.specs.declared.Sizes.{Sizes}
use Rattle.lists.specs.Members.{tally, tally-append, tally-cons}
use Rattle.lists.specs.Counting.{sum, sum_same, sum-plus, sum-change, but, but_same, but-other, sum-but, sum-none}
use Rattle.rules.specs.Regions.{regions}
use Rattle.rules.specs.Graph.{Graph, slots_of, slots_below, slots, target, ended, crosses, crossing, pages_of, objects_in, free_pages, new_pages}
use Rattle.laws.specs.GraphLaws.{Alive}

-- ---- crossing slots, object by object

-- the crossing slots of object x, if its references are vs
unfoldable pub cross_in : Graph → ℕ → List ℕ → ℕ
cross_in g x vs = tally (crosses g) (slots_of x vs)

unfoldable pub cross_at : Graph → ℕ → ℕ
cross_at g x = cond (eqb (g.home x) 0) 0 (cross_in g x (g.refs x))

pub cross-alive : (g : Graph) (x : ℕ) → 0 < cross_at g x → Alive g x
unfolding cross_at
cross-alive g x k z = absurd (omega (arith, ap (λ (b : Bool). cond b 0 (cross_in g x (g.refs x))) (eq-eqb _ _ z)))

crossing-below : (g : Graph) (n : ℕ) → tally (crosses g) (slots_below g n) ≡ sum (cross_at g) n
unfolding slots_below cross_at cross_in tally
crossing-below g zero = refl
crossing-below g (suc n) =
    tally-append (crosses g) (cond (eqb (g.home n) 0) [] (slots_of n (g.refs n))) (slots_below g n)
    ∙ ap₂ ◌+◌ (go (eqb (g.home n) 0)) (crossing-below g n) ∙ add_comm _ _
  where
    go : (b : Bool) → tally (crosses g) (cond b [] (slots_of n (g.refs n))) ≡ cond b 0 (tally (crosses g) (slots_of n (g.refs n)))
    go true = refl
    go false = refl

pub crossing-sum : (g : Graph) → crossing g ≡ sum (cross_at g) g.count
unfolding crossing slots
crossing-sum g = crossing-below g g.count

-- ---- pages follow from the objects in each region

abbrev pub SameObjects : Graph → Graph → Type 0
SameObjects g h = (q : ℕ) → 0 < q → objects_in g q ≡ objects_in h q

pub same-free : (s : Sizes) (g h : Graph) → SameObjects g h → free_pages s g ≡ free_pages s h
unfolding free_pages
same-free s g h e = ap (λ (n : ℕ). s.pages - n) (sum_same _ _ (regions s) (λ i l. ap pages_of (e (suc i) (omega arith))))

pub same_new : (s : Sizes) (g g' h h' : Graph) → SameObjects g h → SameObjects g' h' → new_pages s g g' ≡ new_pages s h h'
unfolding new_pages
same_new s g g' h h' e e' =
    sum_same _ _ (regions s) (λ i l. ap₂ (λ (m n : ℕ). pages_of m - pages_of n) (e' (suc i) (omega arith)) (e (suc i) (omega arith)))

-- ---- a store

-- whether reference v in object x crosses
abbrev pub cross_ref : Graph → ℕ → ℕ → ℕ
cross_ref g x zero = 0
cross_ref g x (suc y) = cond (crosses g (record { «from» = x; to = y })) 1 0

pub cross-cons : (g : Graph) (x v : ℕ) (vs : List ℕ) → cross_in g x (v ∷ vs) ≡ cross_ref g x v + cross_in g x vs
unfolding cross_in slots_of
cross-cons g x zero vs = sym (zero-add _)
cross-cons g x (suc y) vs = tally-cons (crosses g) (record { «from» = x; to = y }) (slots_of x vs)

cross-set : (g : Graph) (x : ℕ) (vs : List ℕ) (b v : ℕ) → b < length vs → cross_in g x (set vs b v) + cross_ref g x (get_or vs b 0) ≡ cross_in g x vs + cross_ref g x v
cross-set g x [] b v l = absurd (omega arith)
cross-set g x (w ∷ vs) zero v l = omega (arith, cross-cons g x w vs, cross-cons g x v vs)
cross-set g x (w ∷ vs) (suc b) v l = omega (arith, cross-cons g x w vs, cross-cons g x w (set vs b v), cross-set g x vs b v (omega arith))

-- the graph after reference b of object x became v
unfoldable pub stored : Graph → ℕ → ℕ → ℕ → Graph
stored g x b v = record { count = g.count; home = g.home; refs = λ y. cond (eqb y x) (set (g.refs y) b v) (g.refs y); vars = g.vars }

pub crossing-stored : (g : Graph) (x b v : ℕ) → x < g.count → Alive g x → b < length (g.refs x)
    → crossing (stored g x b v) + cross_ref g x (get_or (g.refs x) b 0) ≡ crossing g + cross_ref g x v
unfolding stored cross_at cross_in
crossing-stored g x b v l a k =
    omega (arith, crossing-sum g, crossing-sum (stored g x b v), sum-change (cross_at (stored g x b v)) (cross_at g) x g.count l (λ y k. other y), here, was, cross-set g x (g.refs x) b v k)
  where
    other : (y : ℕ) → (y ≡ x → ⊥) → cross_at (stored g x b v) y ≡ cross_at g y
    other y n = ap (λ (t : Bool). cond (eqb (g.home y) 0) 0 (cross_in g y (cond t (set (g.refs y) b v) (g.refs y)))) (ne_eqb y x n)

    here : cross_at (stored g x b v) x ≡ cross_in g x (set (g.refs x) b v)
    here =
        ap (λ (t : Bool). cond (eqb (g.home x) 0) 0 (cross_in g x (cond t (set (g.refs x) b v) (g.refs x)))) (eq-eqb x x refl)
        ∙ ap (λ (t : Bool). cond t 0 (cross_in g x (set (g.refs x) b v))) (ne_eqb (g.home x) 0 a)

    was : cross_at g x ≡ cross_in g x (g.refs x)
    was = ap (λ (t : Bool). cond t 0 (cross_in g x (g.refs x))) (ne_eqb (g.home x) 0 a)

-- ---- a new object

-- the graph after an object with references rs was made in region q
unfoldable pub grown : Graph → ℕ → List ℕ → List ℕ → Graph
grown g q rs vs = record { count = suc g.count; home = λ x. cond (eqb x g.count) q (g.home x); refs = λ x. cond (eqb x g.count) rs (g.refs x); vars = vs }

module _ (g : Graph) (q : ℕ) (rs vs : List ℕ) where
  pub objects-grown : (p : ℕ) → objects_in (grown g q rs vs) p ≡ cond (eqb q p) 1 0 + objects_in g p
  unfolding grown objects_in
  objects-grown p =
      add_comm _ _ ∙ ap₂ ◌+◌ (ap (λ (t : Bool). cond (eqb (cond t q (g.home g.count)) p) 1 0) (eq-eqb g.count g.count refl))
      (sum_same _ _ g.count (λ x l. ap (λ (t : Bool). cond (eqb (cond t q (g.home x)) p) 1 0) (ne_eqb x g.count (omega arith))))

  -- one page more where the region's pages are full
  pub new-pages : (s : Sizes) → 0 < q → q ≤ regions s → new_pages s g (grown g q rs vs) ≡ pages_of (objects_in g q + 1) - pages_of (objects_in g q)
  unfolding new_pages
  new-pages s pos le =
      sum-but more (q - 1) (regions s) (omega arith)
      ∙ ap₂ ◌+◌ here (sum-none (but (q - 1) more) (regions s) (λ i l. none i (ℕ_discrete i (q - 1)))) ∙ omega arith
    where
      more : ℕ → ℕ
      more i = pages_of (objects_in (grown g q rs vs) (suc i)) - pages_of (objects_in g (suc i))

      at : suc (q - 1) ≡ q
      at = omega arith

      here : more (q - 1) ≡ pages_of (objects_in g q + 1) - pages_of (objects_in g q)
      here =
          ap (λ (p : ℕ). pages_of (objects_in (grown g q rs vs) p) - pages_of (objects_in g p)) at
          ∙ ap (λ (n : ℕ). pages_of n - pages_of (objects_in g q))
          (objects-grown q ∙ ap (λ (t : Bool). cond t 1 0 + objects_in g q) (eq-eqb q q refl) ∙ omega arith)

      none : (i : ℕ) → Dec (i ≡ q - 1) → but (q - 1) more i ≡ 0
      none i (yes e) = subst (λ (k : ℕ). but (q - 1) more k ≡ 0) (sym e) (but_same (q - 1) more)
      none i (no e) =
          let same : objects_in (grown g q rs vs) (suc i) ≡ objects_in g (suc i) =
          objects-grown (suc i) ∙ ap (λ (t : Bool). cond t 1 0 + objects_in g (suc i)) (ne_eqb q (suc i) (λ (z : q ≡ suc i). omega arith)) ∙ zero-add _ in
          but-other (q - 1) more i e ∙ ap (λ (n : ℕ). pages_of n - pages_of (objects_in g (suc i))) same ∙ sub_self _

-- ---- the end of a region

-- the objects of r that go to region q
unfoldable pub landed : Sizes → Graph → ℕ → ℕ → ℕ
landed s g r q = sum (λ x. cond (eqb (g.home x) r) (cond (eqb (target s g r x) q) 1 0) 0) g.count

pub objects-ended : (s : Sizes) (g : Graph) (r q : ℕ) → (q ≡ r → ⊥) → objects_in (ended s g r) q ≡ objects_in g q + landed s g r q
unfolding ended objects_in landed target
objects-ended s g r q n = sum_same _ _ g.count (λ x l. go x (eqb (g.home x) r) refl) ∙ sum-plus _ _ g.count
  where
    go : (x : ℕ) (t : Bool) → eqb (g.home x) r ≡ t
        → cond (eqb (cond t (target s g r x) (g.home x)) q) 1 0 ≡ cond (eqb (g.home x) q) 1 0 + cond t (cond (eqb (target s g r x) q) 1 0) 0
    go x true e =
        let d : g.home x ≡ r = eqb-true (g.home x) r e in
        sym (ap (λ (b : Bool). cond b 1 0 + cond (eqb (target s g r x) q) 1 0) (ne_eqb (g.home x) q (λ z. n (sym z ∙ d))) ∙ zero-add _)
    go x false e = sym (add-zero _)

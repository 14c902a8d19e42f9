-- The object in a cell. Two heaps whose objects correspond and lie in the same cells place new objects and survivors alike: the placement goes by
-- cells, and not by the numbers of objects.
use Rattle.std.specs.Prelude.{ℕ, zero, suc, ◌<◌, ◌≡◌, refl, Bool, true, cond, ◌&&◌, length, eqb}
use Rattle.std.proofs.Common.{arith, ◌∙◌, eq-eqb, ne_eqb, eqb-true}
use Rattle.std.proofs.Math.Decide.{ℕ_discrete}
use Rattle.std.proofs.Math.Path.{sym, ap, ap₂}
use mathlib.Core.List.{List, [], ◌∷◌, map}
use Rattle.std.proofs.Math.Bool.{not}
use Rattle.std.proofs.Math.ListN.{get_or, get_or-map}
use Rattle.std.proofs.lemmas.List.{length-map}
use Rattle.lists.specs.Says.{true-not-false}
use Rattle.lists.specs.Tests.{both_true}
use Rattle.lists.specs.Members.{in_bounds}
use Rattle.lists.specs.Listed.{listed_same}
use Rattle.rules.specs.declared.Sizes.{Sizes}
use Rattle.rules.specs.Regions.{regions, only}
use Rattle.rules.specs.Graph.{Graph}
use Rattle.rules.specs.Pages.{Pages, Move, Placing, none_moved, place_all, new_cell, released, owned_from, slide_below, filled_by}
use Rattle.rules.specs.Rules as ru
use Rattle.rules.specs.Rules.{Regioned, graph, home_of, object_cell, cell_count, object_at, goal_of, copies, vacated, slides, slid}
use Rattle.laws.specs.Highest.{highest-some, highest-zero}
use Rattle.laws.specs.GraphLaws.{Alive}
use Rattle.laws.specs.EndLaws.{home-went}
use Rattle.laws.specs.SameRules.{Partners, same_target}
use Rattle.laws.specs.RulesLaws.{Sound, graph-ended}

-- ---- the object in a cell

-- objects that are there lie in different cells
abbrev pub Apart : Regioned → Type 0
Apart h = (x y : ℕ) → Alive (graph h) x → Alive (graph h) y → object_cell h x ≡ object_cell h y → x ≡ y

pub data Held (h : Regioned) (c : ℕ) : Type 0 where
  by : (x : ℕ) → object_at h c ≡ suc x → Alive (graph h) x → object_cell h x ≡ c → Held h c
  none : object_at h c ≡ 0 → ((x : ℕ) → Alive (graph h) x → object_cell h x ≡ c → ⊥) → Held h c

pub held_by : (h : Regioned) (c : ℕ) → Held h c
unfolding object_at
held_by h c = go (object_at h c) refl
  where
    test : ℕ → Bool
    test x = not (eqb (home_of h x) 0) && eqb (object_cell h x) c

    passes : (x : ℕ) → Alive (graph h) x → object_cell h x ≡ c → test x ≡ true
    passes x a e = ap₂ (λ (p q : Bool). not p && q) (ne_eqb (home_of h x) 0 a) (eq-eqb (object_cell h x) c e)

    go : (n : ℕ) → object_at h c ≡ n → Held h c
    go zero e = none e (λ x a f. highest-zero test (length h.homes) e x (in_bounds h.homes x a) (passes x a f))
    go (suc x) e =
        let t = both_true _ _ (highest-some test (length h.homes) x e).1 in
        by x e (λ z. true-not-false (sym (ap not (eq-eqb (home_of h x) 0 z)) ∙ t.0)) (eqb-true (object_cell h x) c t.1)

pub object-there : (h : Regioned) → Apart h → (c x : ℕ) → Alive (graph h) x → object_cell h x ≡ c → object_at h c ≡ suc x
object-there h apart c x a e = go (held_by h c)
  where
    go : Held h c → object_at h c ≡ suc x
    go (by y q b f) = q ∙ ap suc (apart y x b a (f ∙ sym e))
    go (none q n) = absurd (n x a e)

-- ---- two heaps whose objects lie in the same cells

pub record SameOccupancy (to : ℕ → ℕ) (h k : Regioned) : Type 0 where
  pub pages : k.occupancy.pages ≡ h.occupancy.pages
  pub cells : (x : ℕ) → Alive (graph h) x → object_cell k (to x) ≡ object_cell h x

-- which element a list has at a place inside does not rest on the default
inside-any : {A : Type 0} (l : List A) (i : ℕ) (a b : A) → i < length l → get_or l i a ≡ get_or l i b
inside-any [] i a b l = absurd (let z : ⊥ = omega arith in z)
inside-any (x ∷ l) zero a b m = refl
inside-any (x ∷ l) (suc i) a b m = inside-any l i a b (omega arith)

-- the cell of an object after moves
pub moved-cell : (ms : List Move) (cs : List ℕ) (x : ℕ) → x < length cs → get_or (map (new_cell ms) cs) x 0 ≡ new_cell ms (get_or cs x 0)
moved-cell ms cs x l =
    inside-any (map (new_cell ms) cs) x 0 (new_cell ms 0) (omega (arith, length-map cs (new_cell ms))) ∙ get_or-map (new_cell ms) cs x 0

module _ (s : Sizes) (to : ℕ → ℕ) (h k : Regioned) (sh : Sound h) (sk : Sound k) (p : Partners to (graph h) (graph k)) (o : SameOccupancy to h k) (apart : Apart h) where
  abbrev there : (x : ℕ) → Alive (graph h) x → Alive (graph k) (to x)
  there x a z = a (sym (p.home x a) ∙ z)

  apart-there : Apart k
  apart-there y z a b e =
      let u = p.onto y a in
      let v = p.onto z b in
      sym u.2
      ∙ ap to (apart u.0 v.0 u.1 v.1 (sym (o.cells u.0 u.1) ∙ ap (object_cell k) u.2 ∙ e ∙ sym (ap (object_cell k) v.2) ∙ o.cells v.0 v.1))
      ∙ v.2

  module _ (r : ℕ) (pos : 0 < r) where
    home-after : (x : ℕ) → Alive (graph h) x → home_of h x ≡ r → get_or (ru.ended s k r) (to x) 0 ≡ get_or (ru.ended s h r) x 0
    home-after x a e =
        ap (λ (g : Graph). g.home (to x)) (graph-ended s k r pos []) ∙ home-went s (graph k) r (to x) (p.home x a ∙ e)
        ∙ same_target s to (graph h) (graph k) sh.closed sk.closed p r pos x a
        ∙ sym (ap (λ (g : Graph). g.home x) (graph-ended s h r pos []) ∙ home-went s (graph h) r x e)

    goal-there : (x : ℕ) → Alive (graph h) x → goal_of k (only r) (ru.ended s k r) (suc (to x)) ≡ goal_of h (only r) (ru.ended s h r) (suc x)
    goal-there x a = go (ℕ_discrete (home_of h x) r)
      where
        go : Dec (home_of h x ≡ r) → goal_of k (only r) (ru.ended s k r) (suc (to x)) ≡ goal_of h (only r) (ru.ended s h r) (suc x)
        go (yes e) = ap₂ (λ (b : Bool) (n : ℕ). cond b n 0) (eq-eqb (home_of k (to x)) r (p.home x a ∙ e) ∙ sym (eq-eqb (home_of h x) r e)) (home-after x a e)
        go (no n) =
            ap (λ (b : Bool). cond b (get_or (ru.ended s k r) (to x) 0) 0) (ne_eqb (home_of k (to x)) r (λ e. n (sym (p.home x a) ∙ e)))
            ∙ sym (ap (λ (b : Bool). cond b (get_or (ru.ended s h r) x 0) 0) (ne_eqb (home_of h x) r n))

    goal-like : (c : ℕ) → goal_of k (only r) (ru.ended s k r) (object_at k c) ≡ goal_of h (only r) (ru.ended s h r) (object_at h c)
    goal-like c = go (held_by h c) (held_by k c)
      where
        G : ℕ → ℕ
        G = goal_of k (only r) (ru.ended s k r)

        F : ℕ → ℕ
        F = goal_of h (only r) (ru.ended s h r)

        go : Held h c → Held k c → G (object_at k c) ≡ F (object_at h c)
        go (by x e a f) q =
            ap G (object-there k apart-there c (to x) (there x a) (o.cells x a ∙ f)) ∙ goal-there x a ∙ ap F (sym e)
        go (none e n) (none f m) = ap G f ∙ ap F (sym e)
        go (none e n) (by y f b g) = let u = p.onto y b in absurd (n u.0 u.1 (sym (o.cells u.0 u.1) ∙ ap (object_cell k) u.2 ∙ g))

    copies-like : copies s k (only r) (ru.ended s k r) ≡ copies s h (only r) (ru.ended s h r)
    unfolding copies ru.goals
    copies-like =
        ap₂ (λ (gs : List ℕ) (ps : Pages). place_all (λ c. get_or gs c 0) (cell_count s) (regions s) (none_moved ps))
        (listed_same _ _ (cell_count s) (λ c l. goal-like c)) o.pages

    pub vacated-pages : (vacated s k (only r) (ru.ended s k r)).pages ≡ (vacated s h (only r) (ru.ended s h r)).pages
    unfolding vacated
    vacated-pages = ap (λ (q : Placing). released (only r) q.pages) copies-like

    pub vacated-cells : (x : ℕ) → Alive (graph h) x → get_or (vacated s k (only r) (ru.ended s k r)).cells (to x) 0 ≡ get_or (vacated s h (only r) (ru.ended s h r)).cells x 0
    unfolding vacated
    vacated-cells x a =
        moved-cell _ k.occupancy.cells (to x) (omega (arith, sk.celled, in_bounds k.homes (to x) (there x a)))
        ∙ ap₂ (λ (q : Placing) (c : ℕ). new_cell q.moves c) copies-like (o.cells x a)
        ∙ sym (moved-cell _ h.occupancy.cells x (omega (arith, sh.celled, in_bounds h.homes x a)))

    -- ---- a collection of r

    slides-like : slides s k r (ru.ended s k r) ≡ slides s h r (ru.ended s h r)
    unfolding slides ru.goals
    slides-like =
        ap₂ (λ (gs : List ℕ) (ps : Pages). slide_below (λ c. not (eqb (get_or gs c 0) 0)) (owned_from r 0 ps) (cell_count s))
        (listed_same _ _ (cell_count s) (λ c l. goal-like c)) o.pages

    pub slid-pages : (slid s k r (ru.ended s k r)).pages ≡ (slid s h r (ru.ended s h r)).pages
    unfolding slid
    slid-pages = ap₂ (λ (ms : List Move) (ps : Pages). filled_by r (length ms) ps) slides-like o.pages

    pub slid-cells : (x : ℕ) → Alive (graph h) x → get_or (slid s k r (ru.ended s k r)).cells (to x) 0 ≡ get_or (slid s h r (ru.ended s h r)).cells x 0
    unfolding slid
    slid-cells x a =
        moved-cell _ k.occupancy.cells (to x) (omega (arith, sk.celled, in_bounds k.homes (to x) (there x a)))
        ∙ ap₂ (λ (ms : List Move) (c : ℕ). new_cell ms c) slides-like (o.cells x a)
        ∙ sym (moved-cell _ h.occupancy.cells x (omega (arith, sh.celled, in_bounds h.homes x a)))

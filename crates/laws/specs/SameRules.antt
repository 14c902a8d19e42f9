-- Two graphs whose objects correspond obey the same rules: targets, counts of objects, of those freed, pages and crossing slots are the same.
use Rattle.std.specs.Prelude.{ℕ, zero, suc, ◌<◌, ◌≡◌, ◌⊎◌, Bool, true, false, not, ◌&&◌, get_or, replicate, eqb}
use Rattle.std.proofs.Common.{arith, eq-zero-or-pos, subst, ◌∙◌, inl, inr, ne_eqb, eqb-true}
use Rattle.std.proofs.Math.Decide.{ℕ_discrete}
use Rattle.std.proofs.Math.Nat.{suc_inj}
use Rattle.std.proofs.Math.Path.{refl, sym, ap, ap₂}
use mathlib.Core.List.{List, [], ◌∷◌, map}
use Rattle.std.proofs.Math.Bool.{cond}
use Rattle.std.proofs.Math.ListN.{get_or-map}
use Rattle.rules.specs.declared.Sizes.{Sizes}
use Rattle.lists.specs.Members.{In, in_map, map-in, tally}
use Rattle.lists.specs.Counting.{bit, sum}
use Rattle.lists.specs.OneToOne.{sum-paired}
use Rattle.laws.specs.Counts.{cross_at, cross_in, cross-alive, crossing-sum, same_new}
use Rattle.rules.specs.Regions.{join}
use Rattle.rules.specs.Graph.{Graph, slots_of, target, ended, freed_by, crosses, crossing, objects_in, new_pages}
use Rattle.laws.specs.Joins.{from-map, join-of-one}
use Rattle.laws.specs.JoinLaws.{joins}
use Rattle.laws.specs.EndLaws.{was-alive, home-went, home-stayed, closed-ended}
use Rattle.laws.specs.GraphLaws.{Alive, Closed, Refers, Leads, itself, along, Holds, by_slot, by_own, by_other, Reaches, reaches-around, target-from, target-absorbs, target-reached}

-- a reference to an object's partner
abbrev pub renamed : (ℕ → ℕ) → ℕ → ℕ
renamed to zero = zero
renamed to (suc x) = suc (to x)

pub renamed-zeros : (n : ℕ) (to : ℕ → ℕ) → map (renamed to) (replicate n 0) ≡ replicate n 0
renamed-zeros zero to = refl
renamed-zeros (suc n) to = ap (λ (l : List ℕ). 0 ∷ l) (renamed-zeros n to)

-- `to` pairs the objects of g with those of h, with their homes, references and variables
pub record Partners (to : ℕ → ℕ) (g h : Graph) : Type 0 where
  pub home : (x : ℕ) → Alive g x → h.home (to x) ≡ g.home x
  pub apart : (x y : ℕ) → Alive g x → Alive g y → to x ≡ to y → x ≡ y
  pub onto : (y : ℕ) → Alive h y → (x : ℕ) × Alive g x × (to x ≡ y)
  pub refs : (x : ℕ) → Alive g x → h.refs (to x) ≡ map (renamed to) (g.refs x)
  pub vars : h.vars ≡ map (renamed to) g.vars

renamed-suc : (to : ℕ → ℕ) (v y : ℕ) → suc y ≡ renamed to v → (x : ℕ) × (v ≡ suc x) × (to x ≡ y)
renamed-suc to zero y e = absurd (omega arith)
renamed-suc to (suc x) y e = (x, refl, sym (suc_inj e))

module _ (s : Sizes) (to : ℕ → ℕ) (g h : Graph) (cg : Closed g) (ch : Closed h) (p : Partners to g h) where
  alive-to : (x : ℕ) → Alive g x → Alive h (to x)
  alive-to x a z = a (sym (p.home x a) ∙ z)

  refers_to : (x y : ℕ) → Refers g x y → Refers h (to x) (to y)
  refers_to x y f =
      record {
        below = ch.below (to x) (alive-to x f.there);
        there = alive-to x f.there;
        slot = subst (λ (vs : List ℕ). In (suc (to y)) vs) (sym (p.refs x f.there)) (map-in (renamed to) (suc y) (g.refs x) f.slot);
      }

  refers-back : (x y' : ℕ) → Alive g x → Refers h (to x) y' → (y : ℕ) × (to y ≡ y') × Refers g x y
  refers-back x y' a f =
      let m = in_map (renamed to) (suc y') (g.refs x) (subst (λ (vs : List ℕ). In (suc y') vs) (p.refs x a) f.slot) in
      let r = renamed-suc to m.0 y' m.2 in
      (r.0, r.2, record { below = cg.below x a; there = a; slot = subst (λ (v : ℕ). In v (g.refs x)) r.1 m.1 })

  refers-alive : (x y : ℕ) → Refers g x y → Alive g y
  refers-alive x y f = cg.refs x y f.there f.slot

  var-to : (i x : ℕ) → get_or g.vars i 0 ≡ suc x → get_or h.vars i 0 ≡ suc (to x)
  var-to i x e = ap (λ (vs : List ℕ). get_or vs i 0) p.vars ∙ get_or-map (renamed to) g.vars i 0 ∙ ap (renamed to) e

  var-back : (i y : ℕ) → get_or h.vars i 0 ≡ suc y → (x : ℕ) × (get_or g.vars i 0 ≡ suc x) × (to x ≡ y)
  var-back i y e = renamed-suc to (get_or g.vars i 0) y (sym e ∙ ap (λ (vs : List ℕ). get_or vs i 0) p.vars ∙ get_or-map (renamed to) g.vars i 0)

  module _ (r : ℕ) (pos : 0 < r) where
    lies-alive : (x : ℕ) → g.home x ≡ r → Alive g x
    lies-alive x e z = omega arith

    lies-alive' : (x : ℕ) → h.home x ≡ r → Alive h x
    lies-alive' x e z = omega arith

    leads-to : (x y : ℕ) → Leads g r x y → Leads h r (to x) (to y)
    leads-to x y itself = itself
    leads-to x y (along {y = m} {z = z} c f a b) =
        along (leads-to x m c) (refers_to m z f) (p.home m (lies-alive m a) ∙ a) (p.home z (lies-alive z b) ∙ b)

    leads-back : (x y' : ℕ) → g.home x ≡ r → Leads h r (to x) y' → (y : ℕ) × (to y ≡ y') × (g.home y ≡ r) × Leads g r x y
    leads-back x y' l itself = (x, refl, l, itself)
    leads-back x y' l (along {y = m'} {z = z} c f a b) = go (leads-back x m' l c)
      where
        go : (m : ℕ) × (to m ≡ m') × (g.home m ≡ r) × Leads g r x m → (y : ℕ) × (to y ≡ z) × (g.home y ≡ r) × Leads g r x y
        go (m, e, hm, d) =
            let k = refers-back m z (lies-alive m hm) (subst (λ (u : ℕ). Refers h u z) (sym e) f) in
            let al : Alive g k.0 = refers-alive m k.0 k.2 in
            let hz : g.home k.0 ≡ r = sym (p.home k.0 al) ∙ ap h.home k.1 ∙ b in
            (k.0, k.1, hz, along d k.2 hm hz)

    holds-to : (x q : ℕ) → Holds s g r x q → Holds s h r (to x) q
    holds-to x q (by_slot y f o e) =
        let hy = p.home y f.there in by_slot (to y) (refers_to y x f) (λ z. o (sym hy ∙ z)) (e ∙ ap (join s r) (sym hy))
    holds-to x q (by_own i at t e) = by_own i (var-to i x at) t e
    holds-to x q (by_other i at t e) = by_other i (var-to i x at) t e

    holds-back : (x q : ℕ) → Alive g x → Holds s h r (to x) q → Holds s g r x q
    holds-back x q a (by_slot y' f o e) =
        let w = p.onto y' f.there in
        let hy : h.home y' ≡ g.home w.0 = ap h.home (sym w.2) ∙ p.home w.0 w.1 in
        let k = refers-back w.0 (to x) w.1 (subst (λ (u : ℕ). Refers h u (to x)) (sym w.2) f) in
        let same : k.0 ≡ x = p.apart k.0 x (refers-alive w.0 k.0 k.2) a k.1 in
        by_slot w.0 (subst (λ (u : ℕ). Refers g w.0 u) same k.2) (λ z. o (hy ∙ z)) (e ∙ ap (join s r) hy)
    holds-back x q a (by_own i at t e) =
        let k = var-back i (to x) at in
        by_own i (k.1 ∙ ap suc (p.apart k.0 x (cg.vars i k.0 k.1) a k.2)) t e
    holds-back x q a (by_other i at t e) =
        let k = var-back i (to x) at in
        by_other i (k.1 ∙ ap suc (p.apart k.0 x (cg.vars i k.0 k.1) a k.2)) t e

    reaches-to : (q x : ℕ) → Reaches s g r q x → Reaches s h r q (to x)
    reaches-to q x c =
        record {
          first = to c.first;
          lies = p.home c.first (lies-alive c.first c.lies) ∙ c.lies;
          held = holds-to c.first q c.held;
          leads = leads-to c.first x c.leads;
        }

    reaches-back : (q x : ℕ) → Alive g x → Reaches s h r q (to x) → Reaches s g r q x
    reaches-back q x a c =
        let w = p.onto c.first (lies-alive' c.first c.lies) in
        let l : g.home w.0 ≡ r = sym (p.home w.0 w.1) ∙ ap h.home w.2 ∙ c.lies in
        let k = leads-back w.0 (to x) l (subst (λ (u : ℕ). Leads h r u (to x)) (sym w.2) c.leads) in
        let same : k.0 ≡ x = p.apart k.0 x (lies-alive k.0 k.2) a k.1 in
        record {
          first = w.0;
          lies = l;
          held = holds-back w.0 q w.1 (subst (λ (u : ℕ). Holds s h r u q) (sym w.2) c.held);
          leads = subst (λ (u : ℕ). Leads g r w.0 u) same k.3;
        }

    pub same_target : (x : ℕ) → Alive g x → target s h r (to x) ≡ target s g r x
    same_target x a = go (eq-zero-or-pos (target s g r x)) (eq-zero-or-pos (target s h r (to x)))
      where
        go : (target s g r x ≡ 0) ⊎ (0 < target s g r x) → (target s h r (to x) ≡ 0) ⊎ (0 < target s h r (to x)) → target s h r (to x) ≡ target s g r x
        go (inl e) (inl f) = f ∙ sym e
        go (inl e) (inr f) = let k = target-reached s h r (to x) f in absurd (omega (arith, (target-absorbs s g r x k.0 (reaches-back k.0 x a k.1)).some))
        go (inr e) (inl f) = let k = target-reached s g r x e in absurd (omega (arith, (target-absorbs s h r (to x) k.0 (reaches-to k.0 x k.1)).some))
        go (inr e) (inr f) =
            join-of-one (joins s) (λ q k. (reaches-around s g r x q k).some)
            (record { «from» = from-map (λ q. reaches-back q x a) (target-from s h r (to x) f); absorbs = λ q k. target-absorbs s h r (to x) q (reaches-to q x k) })
            (record { «from» = target-from s g r x e; absorbs = target-absorbs s g r x })

    -- the graphs after the end of r correspond too
    pub partners-ended : Partners to (ended s g r) (ended s h r)
    unfolding ended
    partners-ended =
        record {
          home = λ x a. home' x (was-alive s g r pos cg x a) (ℕ_discrete (g.home x) r);
          apart = λ x y a b e. p.apart x y (was-alive s g r pos cg x a) (was-alive s g r pos cg y b) e;
          onto = λ y a. onto' y a (p.onto y (was-alive s h r pos ch y a));
          refs = λ x a. p.refs x (was-alive s g r pos cg x a);
          vars = p.vars;
        }
      where
        home' : (x : ℕ) → Alive g x → Dec (g.home x ≡ r) → (ended s h r).home (to x) ≡ (ended s g r).home x
        home' x a (yes e) = home-went s h r (to x) (p.home x a ∙ e) ∙ same_target x a ∙ sym (home-went s g r x e)
        home' x a (no n) = home-stayed s h r (to x) (λ e. n (sym (p.home x a) ∙ e)) ∙ p.home x a ∙ sym (home-stayed s g r x n)

        onto' : (y : ℕ) → Alive (ended s h r) y → (x : ℕ) × Alive g x × (to x ≡ y) → (x : ℕ) × Alive (ended s g r) x × (to x ≡ y)
        onto' y a (x, b, e) =
            (x, λ z. a (ap (ended s h r).home (sym e) ∙ home' x b (ℕ_discrete (g.home x) r) ∙ z), e)

  -- ---- counts

  -- what is counted of objects that are there
  same_count : (f f' : ℕ → ℕ) → ((x : ℕ) → 0 < f x → Alive g x) → ((y : ℕ) → 0 < f' y → Alive h y) → ((x : ℕ) → Alive g x → f' (to x) ≡ f x) → sum f g.count ≡ sum f' h.count
  same_count f f' ag ah same =
      sum-paired to f g.count f' h.count
      (record {
        goes = λ x l k. let a = ag x k in (ch.below (to x) (alive-to x a), same x a);
        apart = λ x y l m k j e. p.apart x y (ag x k) (ag y j) e;
        onto = λ y l k. let w = p.onto y (ah y k) in (w.0, cg.below w.0 w.1, subst (λ (n : ℕ). 0 < n) (ap f' (sym w.2) ∙ same w.0 w.1) k, w.2);
      })

  -- of those of region q
  lies-there : (q : ℕ) → 0 < q → (f : Graph) (n : ℕ → ℕ) (x : ℕ) → 0 < cond (eqb (f.home x) q) (n x) 0 → Alive f x
  lies-there q pos f n x k z = go (eqb (f.home x) q) refl k
    where
      go : (b : Bool) → eqb (f.home x) q ≡ b → 0 < cond b (n x) 0 → ⊥
      go true e k = omega (arith, eqb-true (f.home x) q e)
      go false e k = omega arith

  pub same-objects : (q : ℕ) → 0 < q → objects_in g q ≡ objects_in h q
  unfolding objects_in
  same-objects q pos = same_count _ _ (lies-there q pos g (λ x. 1)) (lies-there q pos h (λ x. 1)) (λ x a. ap (λ (n : ℕ). cond (eqb n q) 1 0) (p.home x a))

  pub same-freed : (r : ℕ) → 0 < r → freed_by s g r ≡ freed_by s h r
  unfolding freed_by target
  same-freed r pos =
      same_count _ _ (lies-there r pos g (λ x. bit (eqb (target s g r x) 0))) (lies-there r pos h (λ x. bit (eqb (target s h r x) 0)))
      (λ x a. ap₂ (λ (m n : ℕ). cond (eqb m r) (bit (eqb n 0)) 0) (p.home x a) (same_target r pos x a))

  crosses-to : (x y : ℕ) → Alive g x → Alive g y → crosses h (record { «from» = to x; to = to y }) ≡ crosses g (record { «from» = x; to = y })
  crosses-to x y a b = ap₂ (λ (m n : ℕ). not (eqb m n) && not (eqb n 1)) (p.home x a) (p.home y b)

  cross-refs : (x : ℕ) → Alive g x → (vs : List ℕ) → ((y : ℕ) → In (suc y) vs → Alive g y)
      → cross_in h (to x) (map (renamed to) vs) ≡ cross_in g x vs
  unfolding cross_in tally slots_of
  cross-refs x a [] k = refl
  cross-refs x a (zero ∷ vs) k = cross-refs x a vs (λ y i. k y (inr i))
  cross-refs x a (suc y ∷ vs) k =
      ap₂ (λ (b : Bool) (n : ℕ). cond b (suc n) n) (crosses-to x y a (k y (inl refl))) (cross-refs x a vs (λ z i. k z (inr i)))

  cross-to : (x : ℕ) → Alive g x → cross_at h (to x) ≡ cross_at g x
  unfolding cross_at
  cross-to x a =
      ap (λ (b : Bool). cond b 0 (cross_in h (to x) (h.refs (to x)))) (ne_eqb _ _ (alive-to x a))
      ∙ ap (λ (vs : List ℕ). cross_in h (to x) vs) (p.refs x a)
      ∙ cross-refs x a (g.refs x) (λ y i. cg.refs x y a i)
      ∙ sym (ap (λ (b : Bool). cond b 0 (cross_in g x (g.refs x))) (ne_eqb _ _ a))

  pub same-crossing : crossing g ≡ crossing h
  same-crossing =
      crossing-sum g
      ∙ same_count (cross_at g) (cross_at h) (cross-alive g) (cross-alive h) cross-to
      ∙ sym (crossing-sum h)

-- ---- so an end is refused in both or in neither

module _ (s : Sizes) (to : ℕ → ℕ) (g h : Graph) (cg : Closed g) (ch : Closed h) (p : Partners to g h) (r : ℕ) (pos : 0 < r) where
  pub same-new-ended : new_pages s g (ended s g r) ≡ new_pages s h (ended s h r)
  same-new-ended =
      same_new s g (ended s g r) h (ended s h r) (same-objects s to g h cg ch p)
      (same-objects s to (ended s g r) (ended s h r) (closed-ended s g r pos cg) (closed-ended s h r pos ch) (partners-ended s to g h cg ch p r pos))

  pub same-crossing-ended : crossing (ended s g r) ≡ crossing (ended s h r)
  same-crossing-ended =
      same-crossing s to (ended s g r) (ended s h r) (closed-ended s g r pos cg) (closed-ended s h r pos ch) (partners-ended s to g h cg ch p r pos)

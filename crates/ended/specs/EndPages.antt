-- The new pages of an end are those of the regions around r alone: thread t's at the levels up to k, the control space for level 0.
use Prim.Native.Nat.{ℕ, suc, ◌-◌, ◌≤◌, ◌<◌}
use native.Mathlib.Omega.{arith}
use Rattle.std.proofs.Math.Decide.{dec_lt, ℕ_discrete}
use Rattle.std.specs.Prelude.{◌≡◌, Bool}
use Rattle.std.proofs.Math.Path.{refl, sym, ap, subst}
use Rattle.std.proofs.Common.{◌∙◌}
use Rattle.std.proofs.Math.Bool.{true, false, cond}
use Rattle.std.proofs.Math.Dec.{eqb}
use borrow.Author.Tests.{eqb-true}
use Rattle.lists.specs.Counting.{sum-none, sum-pos}
use Rattle.lists.specs.OneToOne.{Paired, sum-paired}
use Rattle.rules.specs.declared.Sizes.{Sizes}
use Rattle.rules.specs.Regions.{region_at, regions}
use Rattle.rules.specs.Graph.{Graph, target, ended, objects_in, pages_of, new_pages}
use Rattle.laws.specs.RegionLaws.{numbers-rise, region-bounds}
use Rattle.laws.specs.RulesLaws.{region-pos}
use Rattle.laws.specs.Counts.{landed, objects-ended}
use Rattle.laws.specs.EndLaws.{home-went, home-stayed}
use Rattle.layout.specs.Words.{Words, depth_in, home_in, graph_of}
use Rattle.promises.specs.Whole.{WholeFor}
use Rattle.promises.proofs.OwnedPages.{counted-objects}
use Rattle.promises.specs.Arriving.{more_pages, region_more, more_below}
use Rattle.ended.specs.WordsPlaced.{target-level}
use Rattle.ended.specs.EndQuestion.{pages_needed}

-- the regions of one thread at two levels are two
levels-apart : (s : Sizes) (t i j : ℕ) → region_at s t i ≡ region_at s t j → i ≡ j
levels-apart s t i j e = go (dec_lt i j) (dec_lt j i)
  where
    go : Dec (i < j) → Dec (j < i) → i ≡ j
    go (yes l) d = absurd (let z : ⊥ = omega (arith, numbers-rise s t i j l) in z)
    go (no l) (yes m) = absurd (let z : ⊥ = omega (arith, numbers-rise s t j i m) in z)
    go (no l) (no m) = omega arith

module _ (s : Sizes) (w : Words) (whole : WholeFor s w) (t k : ℕ) (th : t < s.threads) (deep : depth_in w t ≡ suc k) where
  abbrev r : ℕ
  r = region_at s t (suc k)

  abbrev g : Graph
  g = graph_of s w

  pos : 0 < r
  pos = region-pos s t (suc k)

  low : k < s.depth
  low = omega (arith, whole.depths t th)

  -- a region that survivors go to is around r
  landed-level : (q : ℕ) → 0 < q → 0 < landed s g r q → (j : ℕ) × (j ≤ k) × (q ≡ region_at s t j)
  unfolding landed
  landed-level q qp l =
      let x = sum-pos (λ x. cond (eqb (home_in s w x) r) (cond (eqb (target s g r x) q) 1 0) 0) g.count l in
      go x.0 (eqb (home_in s w x.0) r) refl (eqb (target s g r x.0) q) refl x.2
    where
      go : (x : ℕ) (a : Bool) → eqb (home_in s w x) r ≡ a → (b : Bool) → eqb (target s g r x) q ≡ b → 0 < cond a (cond b 1 0) 0 → (j : ℕ) × (j ≤ k) × (q ≡ region_at s t j)
      go x true e true f z =
          let same : target s g r x ≡ q = eqb-true (target s g r x) q f in
          subst (λ (v : ℕ). (j : ℕ) × (j ≤ k) × (v ≡ region_at s t j)) same (target-level s w whole t k th deep x (eqb-true (home_in s w x) r e) (omega arith))
      go x true e false f z = absurd (let y : ⊥ = omega arith in y)
      go x false e b f z = absurd (let y : ⊥ = omega arith in y)

  -- none goes to r, so r has no object afterwards
  none_left : objects_in (ended s g r) r ≡ 0
  unfolding objects_in ended
  none_left = sum-none _ g.count (λ x l. go x (eqb ((ended s g r).home x) r) refl)
    where
      away : (x : ℕ) → (ended s g r).home x ≡ r → ⊥
      away x e = home (ℕ_discrete (home_in s w x) r)
        where
          home : Dec (home_in s w x ≡ r) → ⊥
          home (no n) = n (sym (home-stayed s g r x n) ∙ e)
          home (yes q) =
              let same : target s g r x ≡ r = sym (home-went s g r x q) ∙ e in
              let j = target-level s w whole t k th deep x q (omega (arith, pos)) in
              let i : suc k ≡ j.0 = levels-apart s t (suc k) j.0 (sym same ∙ j.2) in
              omega (arith, j.1)

      go : (x : ℕ) (b : Bool) → eqb ((ended s g r).home x) r ≡ b → ◌≡◌ {A = ℕ} (cond b 1 0) 0
      go x true e = absurd (away x (eqb-true ((ended s g r).home x) r e))
      go x false e = refl

  abbrev more : ℕ → ℕ
  more i = pages_of (objects_in (ended s g r) (suc i)) - pages_of (objects_in g (suc i))

  abbrev level : ℕ → ℕ
  level j = region_more s w.tables (landed s g r) (region_at s t j)

  more-level : (i j : ℕ) → suc i ≡ region_at s t j → j ≤ k → more i ≡ level j
  unfolding region_more
  more-level i j e l =
      ap (λ (q : ℕ). pages_of (objects_in (ended s g r) q) - pages_of (objects_in g q)) e
      ∙ ap (λ (n : ℕ). pages_of n - pages_of (objects_in g (region_at s t j)))
      (objects-ended s g r (region_at s t j) (λ z. let d = levels-apart s t j (suc k) z in omega arith))
      ∙ ap (λ (n : ℕ). more_pages n (landed s g r (region_at s t j)))
      (sym (counted-objects s w whole (region_at s t j) (region-pos s t j) (region-bounds s t j th (omega (arith, low))).1))

  -- a region that grows is around r
  grows : (i : ℕ) → 0 < more i → (j : ℕ) × (j ≤ k) × (suc i ≡ region_at s t j)
  grows i p = go (ℕ_discrete (suc i) r) (dec_lt 0 (landed s g r (suc i)))
    where
      go : Dec (suc i ≡ r) → Dec (0 < landed s g r (suc i)) → (j : ℕ) × (j ≤ k) × (suc i ≡ region_at s t j)
      go (yes e) d = absurd (let z : ⊥ = omega (arith, p, ap (objects_in (ended s g r)) e, none_left) in z)
      go (no n) (yes l) = landed-level (suc i) (omega arith) l
      go (no n) (no l) = absurd (let z : ⊥ = omega (arith, p, objects-ended s g r (suc i) n) in z)

  pub new-pages-ended : pages_needed s w r ≡ more_below s w.tables (landed s g r) (region_at s t) (suc k)
  unfolding new_pages
  new-pages-ended = sym (sum-paired (λ j. region_at s t j - 1) level (suc k) more (regions s) paired)
    where
      number : (j : ℕ) → suc (region_at s t j - 1) ≡ region_at s t j
      number j = omega (arith, region-pos s t j)

      paired : Paired (λ j. region_at s t j - 1) level (suc k) more (regions s)
      paired = record {
        goes = λ j l p. (omega (arith, region-bounds s t j th (omega (arith, low))), more-level (region_at s t j - 1) j (number j) (omega arith));
        apart = λ i j l m p q e. levels-apart s t i j (omega (arith, region-pos s t i, region-pos s t j));
        onto = λ i l p.
            let j = grows i p in
            let at : region_at s t j.0 - 1 ≡ i = omega (arith, j.2) in
            (j.0, omega (arith, j.1), subst (λ (n : ℕ). 0 < n) (more-level i j.0 j.2 j.1) p, at);
      }

-- Where objects go at an end or a collection is read from the words before and after: no two maps are right.
use Rattle.std.specs.Prelude.{ℕ, zero, suc, ◌<◌, ◌≡◌, refl, ◌⊎◌, List, [], ◌∷◌, map, get_or}
use Rattle.std.proofs.Common.{arith, eq-zero-or-pos, sym, ap, ◌∙◌, inl, inr}
use Rattle.std.proofs.Math.Decide.{ℕ_discrete}
use Rattle.rules.specs.declared.Sizes.{Sizes}
use Rattle.lists.specs.Members.{In, get_d-in}
use Rattle.rules.specs.Graph.{target}
use Rattle.laws.specs.GraphLaws.{Leads, itself, along, Holds, by_slot, by_own, by_other, Reaches, target-reached, target-absorbs}
use Rattle.layout.specs.Cells.{page_of}
use Rattle.layout.specs.Words.{Words, home_in, owner_in, refs_in, vars_in, graph_of, BeginsIn}
use Rattle.promises.specs.Whole.{WholeFor}
use Rattle.demand.specs.DemandThree.{Moves, region_of}
use Rattle.promises.specs.Reading.{used-home, used-alive, alive-used}

-- where two maps give the same list, they are the same at each element
same_at : (f g : ℕ → ℕ) (l : List ℕ) (v : ℕ) → In v l → map f l ≡ map g l → f v ≡ g v
same_at f g [] v x'' q = elim x'' [ ]
same_at f g (x ∷ l) v (inl e) q = ap f e ∙ ap (λ (k : List ℕ). get_or k 0 0) q ∙ ap g (sym e)
same_at f g (x ∷ l) v (inr i) q = same_at f g l v i (ap tail q)
  where
    tail : List ℕ → List ℕ
    tail [] = []
    tail (y ∷ k) = k

module _ (s : Sizes) (w w' : Words) (k : WholeFor s w) (k' : WholeFor s w') (r : ℕ) (pos : 0 < r) (f g : ℕ → ℕ) (mf : Moves s w r w' f) (mg : Moves s w r w' g) where
  -- the object of a reference that is not null lies in a region
  region-null : (u : ℕ) → ((c : ℕ) → u ≡ suc c → BeginsIn s w' c) → region_of s w' u ≡ 0 → u ≡ 0
  region-null zero h e = refl
  region-null (suc c) h e = absurd (used-alive s w' k' c (h c refl) e)

  not_null : (u : ℕ) → (u ≡ 0 → ⊥) → (c : ℕ) × (u ≡ suc c)
  not_null zero n = absurd (n refl)
  not_null (suc c) n = (c, refl)

  in-r : (c : ℕ) → BeginsIn s w c → home_in s w c ≡ r → owner_in s w (page_of c) ≡ r
  in-r c u e = sym (used-home s w c u) ∙ e

  lies-used : (c : ℕ) → home_in s w c ≡ r → BeginsIn s w c
  lies-used c e = alive-used s w c (λ z. omega arith)

  -- the slots of an object that goes to the same place lead to the same places
  slot_same : (y z c : ℕ) → BeginsIn s w y → f (suc y) ≡ suc c → g (suc y) ≡ suc c → In (suc z) (refs_in w y) → f (suc z) ≡ g (suc z)
  slot_same y z c u ef eg i = same_at f g (refs_in w y) (suc z) i (sym (mf.refs y c u ef) ∙ mg.refs y c u eg)

  var-same : (i z : ℕ) → get_or (vars_in s w) i 0 ≡ suc z → f (suc z) ≡ g (suc z)
  var-same i z e = same_at f g (vars_in s w) (suc z) (get_d-in (vars_in s w) i z e) (sym mf.vars ∙ mg.vars)

  held_same : (x q : ℕ) → Holds s (graph_of s w) r x q → f (suc x) ≡ g (suc x)
  held_same x q (by_slot y e o p) =
      let u = alive-used s w y e.there in
      let n : owner_in s w (page_of y) ≡ r → ⊥ = λ z. o (used-home s w y u ∙ z) in
      slot_same y x y u (mf.stays y u n) (mg.stays y u n) e.slot
  held_same x q (by_own i e t p) = var-same i x e
  held_same x q (by_other i e t p) = var-same i x e

  -- one that is reached does not go to null
  reached-there : (x q : ℕ) → Reaches s (graph_of s w) r q x → home_in s w x ≡ r → f (suc x) ≡ 0 → ⊥
  reached-there x q c e z =
      let u = lies-used x e in omega (arith, (target-absorbs s (graph_of s w) r x q c).some, sym (mf.goes x u (in-r x u e)) ∙ ap (region_of s w') z)

  leads-same : (x q y : ℕ) → home_in s w x ≡ r → Holds s (graph_of s w) r x q → Leads (graph_of s w) r x y → f (suc y) ≡ g (suc y)
  leads-same x q y l h itself = held_same x q h
  leads-same x q y l h (along {y = m} {z = z} c e a b) =
      let rest = leads-same x q m l h c in
      let v = not_null (f (suc m)) (reached-there m q (record { first = x; lies = l; held = h; leads = c }) a) in
      slot_same m z v.0 (lies-used m a) v.1 (sym rest ∙ v.1) e.slot

  pub moves-unique : (c : ℕ) → BeginsIn s w c → f (suc c) ≡ g (suc c)
  moves-unique c u = go (ℕ_discrete (owner_in s w (page_of c)) r) (eq-zero-or-pos (target s (graph_of s w) r c))
    where
      gone : (m : ℕ → ℕ) → Moves s w r w' m → owner_in s w (page_of c) ≡ r → target s (graph_of s w) r c ≡ 0 → m (suc c) ≡ 0
      gone m mm e z = region-null (m (suc c)) (λ d q. mm.lands c d u q) (mm.goes c u e ∙ z)

      go : Dec (owner_in s w (page_of c) ≡ r) → (target s (graph_of s w) r c ≡ 0) ⊎ (0 < target s (graph_of s w) r c) → f (suc c) ≡ g (suc c)
      go (no n) t = mf.stays c u n ∙ sym (mg.stays c u n)
      go (yes e) (inl z) = gone f mf e z ∙ sym (gone g mg e z)
      go (yes e) (inr p) = let a = target-reached s (graph_of s w) r c p in leads-same a.1.first a.0 c a.1.lies a.1.held a.1.leads

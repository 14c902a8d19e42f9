-- The pairs through a command.
use Prim.Native.Nat.{ℕ, zero, suc, ◌+◌, ◌<◌}
use Rattle.std.proofs.Common.{arith, ◌∙◌, length-set, length-append}
use Rattle.std.proofs.Math.Nat.{suc_inj}
use Rattle.std.proofs.Math.Numerals.{add-one}
use Rattle.std.proofs.Math.Decide.{ℕ_discrete}
use Rattle.std.specs.Prelude.{◌≡◌}
use Rattle.std.proofs.Math.Path.{refl, sym, ap, subst}
use mathlib.Core.List.{List, [], ◌∷◌, ◌++◌, map, map-map}
use Rattle.std.proofs.Math.ListN.{length, get_or, get_or-map, get_or-append}
use Rattle.std.proofs.lemmas.List.{length-map}
use Rattle.std.proofs.Math.Seq.{get_or_at, get_or-set_same}
use Rattle.lists.specs.Products.{flat-low}
use Rattle.rules.specs.declared.Sizes.{Sizes}
use Rattle.rules.specs.declared.Command.{Command}
use Rattle.rules.specs.declared.Answer.{Answer}
use Rattle.rules.specs.Terms.{Limits, limits}
use Rattle.lists.specs.Members.{In, map_same, in_place}
use Rattle.rules.specs.NeverFreeing as nf
use Rattle.rules.specs.NeverFreeing.{Object, no_object, depth_of, place, Assignment, nothing, variable, reference, number, Effect, opens, ends, collects, makes, assigns, meaning_of}
use Rattle.rules.specs.Graph.{Graph, target, ended}
use Rattle.rules.specs.Regions.{control, region_at}
use Rattle.laws.specs.Asked.{first-zero, thread-ok, MadeLow, made_ok}
use Rattle.laws.specs.GraphLaws.{Alive}
use Rattle.laws.specs.EndLaws.{home-stayed, home-went}
use Rattle.laws.specs.SameRules.{renamed, same_target}
use Rattle.rules.specs.Rules as ru
use Rattle.rules.specs.Rules.{Regioned, graph, innermost}
use Rattle.laws.specs.RulesLaws.{region-pos, control-pos, graph-ended, graph-collected, after_effect}
use Rattle.layout.specs.Words.{Words, graph_of, home_in, refs_in, nums_in, vars_in, var_in, depth_in, BeginsIn}
use Rattle.lists.specs.Listed.{listed, listed_same, map-listed}
use Rattle.promises.specs.StandsFor.{StandsFor}
use Rattle.promises.specs.Promises.{Slides, Became, Did}
use Rattle.promises.specs.Agreed.{cell-used, cell-alive}
use Rattle.demand.specs.DemandThree.{Moves, region_of, PairsAfter, Changes}
use Rattle.promises.specs.Reading.{used-home, used-alive, words-closed, var-at, depth-at, length-vars}
use Rattle.demand.specs.Pairing.{pair_of, pairs_of, pair-there, pair-freed}
use Rattle.layout.specs.Places.{var_count}

-- ---- where nothing changes its home

module _ (h h₁ : Regioned) (cell_of cell : ℕ → ℕ) (stays : (x : ℕ) → Alive (graph h) x → (graph h₁).home x ≡ (graph h).home x → cell x ≡ cell_of x) where
  pair-kept : (x : ℕ) → (graph h₁).home x ≡ (graph h).home x → pair_of h₁ cell x ≡ pair_of h cell_of x
  pair-kept x e = go (ℕ_discrete ((graph h).home x) 0)
    where
      go : Dec ((graph h).home x ≡ 0) → pair_of h₁ cell x ≡ pair_of h cell_of x
      go (yes z) = pair-freed h₁ cell x (e ∙ z) ∙ sym (pair-freed h cell_of x z)
      go (no a) = pair-there h₁ cell x (λ z. a (sym e ∙ z)) ∙ ap suc (stays x a e) ∙ sym (pair-there h cell_of x a)

  pairs-kept : length h₁.heap.objects ≡ length h.heap.objects → ((x : ℕ) → (graph h₁).home x ≡ (graph h).home x) → pairs_of h₁ cell ≡ pairs_of h cell_of
  unfolding pairs_of
  pairs-kept l e = ap (listed (pair_of h₁ cell)) l ∙ listed_same (pair_of h₁ cell) (pair_of h cell_of) (length h.heap.objects) (λ x k. pair-kept x (e x))

  -- a new object
  pairs_made : length h.homes ≡ length h.heap.objects → (q : ℕ) → h₁.homes ≡ h.homes ++ q ∷ [] → length h₁.heap.objects ≡ suc (length h.heap.objects)
      → pairs_of h₁ cell ≡ pairs_of h cell_of ++ pair_of h₁ cell (length h.heap.objects) ∷ []
  unfolding pairs_of listed
  pairs_made aligned q hs l =
      ap (listed (pair_of h₁ cell)) l
      ∙ ap (λ (k : List ℕ). k ++ pair_of h₁ cell (length h.heap.objects) ∷ [])
      (listed_same (pair_of h₁ cell) (pair_of h cell_of) (length h.heap.objects) (λ x k. pair-kept x (ap (λ (z : List ℕ). get_or z x 0) hs ∙ get_or-append h.homes (q ∷ []) 0 x (omega arith))))

-- ---- an end, or a collection

module _ (s : Sizes) (w w₁ : Words) (h h₁ : Regioned) (cell_of cell : ℕ → ℕ) (st : StandsFor s w h cell_of) (st₁ : StandsFor s w₁ h₁ cell)
    (r : ℕ) (stays : (x : ℕ) → Alive (graph h) x → (graph h₁).home x ≡ (graph h).home x → ((graph h).home x ≡ r → ⊥) → cell x ≡ cell_of x)
    (pos : 0 < r) (homes : (x : ℕ) → (graph h₁).home x ≡ (ended s (graph h) r).home x)
    (objects : h₁.heap.objects ≡ h.heap.objects) (vars : h₁.heap.vars ≡ h.heap.vars) where
  move_by : (c : ℕ) → Dec (home_in s w c ≡ 0) → ℕ
  move_by c (yes z) = 0
  move_by c (no a) = pair_of h₁ cell (st.partners.onto c a).0

  move : ℕ → ℕ
  move zero = 0
  move (suc c) = move_by c (ℕ_discrete (home_in s w c) 0)

  move-of : (x : ℕ) → Alive (graph h) x → move (suc (cell_of x)) ≡ pair_of h₁ cell x
  unfolding move move_by
  move-of x a = go (ℕ_discrete (home_in s w (cell_of x)) 0)
    where
      go : (d : Dec (home_in s w (cell_of x) ≡ 0)) → move_by (cell_of x) d ≡ pair_of h₁ cell x
      go (yes z) = absurd (cell-alive s w h cell_of st x a z)
      go (no b) = let o = st.partners.onto (cell_of x) b in ap (pair_of h₁ cell) (st.partners.apart o.0 x o.1 a o.2)

  -- a reference that names an object that is there afterwards
  move-ref : (v : ℕ) → ((y : ℕ) → v ≡ suc y → Alive (graph h) y × Alive (graph h₁) y) → move (renamed cell_of v) ≡ renamed cell v
  unfolding move
  move-ref zero k = refl
  move-ref (suc y) k = move-of y (k y refl).0 ∙ pair-there h₁ cell y (k y refl).1

  region-pair : (x : ℕ) → region_of s w₁ (pair_of h₁ cell x) ≡ (graph h₁).home x
  region-pair x = go (ℕ_discrete ((graph h₁).home x) 0)
    where
      go : Dec ((graph h₁).home x ≡ 0) → region_of s w₁ (pair_of h₁ cell x) ≡ (graph h₁).home x
      go (yes z) = ap (region_of s w₁) (pair-freed h₁ cell x z) ∙ sym z
      go (no a) = ap (region_of s w₁) (pair-there h₁ cell x a) ∙ st₁.partners.home x a

  pair-suc : (x c : ℕ) → pair_of h₁ cell x ≡ suc c → Alive (graph h₁) x × (cell x ≡ c)
  pair-suc x c e = go (ℕ_discrete ((graph h₁).home x) 0)
    where
      go : Dec ((graph h₁).home x ≡ 0) → Alive (graph h₁) x × (cell x ≡ c)
      go (yes z) = absurd (omega (arith, pair-freed h₁ cell x z))
      go (no a) = (a, suc_inj (sym (pair-there h₁ cell x a) ∙ e))

  -- the facts of object x
  module _ (x : ℕ) (a : Alive (graph h) x) where
    stays_at : (home_in s w (cell_of x) ≡ r → ⊥) → move (suc (cell_of x)) ≡ suc (cell_of x)
    stays_at n =
        let out : (graph h).home x ≡ r → ⊥ = λ z. n (st.partners.home x a ∙ z) in
        let e = homes x ∙ home-stayed s (graph h) r x out in
        move-of x a ∙ pair-there h₁ cell x (λ z. a (sym e ∙ z)) ∙ ap suc (stays x a e out)

    goes_at : home_in s w (cell_of x) ≡ r → region_of s w₁ (move (suc (cell_of x))) ≡ target s (graph_of s w) r (cell_of x)
    goes_at e =
        ap (region_of s w₁) (move-of x a) ∙ region-pair x ∙ homes x ∙ home-went s (graph h) r x (sym (st.partners.home x a) ∙ e)
        ∙ sym (same_target s cell_of (graph h) (graph_of s w) st.sound.closed (words-closed s w st.whole) st.partners r pos x a)

    refs-at : (c : ℕ) → move (suc (cell_of x)) ≡ suc c → refs_in w₁ c ≡ map move (refs_in w (cell_of x))
    refs-at c e =
        let b = pair-suc x c (sym (move-of x a) ∙ e) in
        let same-refs : (graph h₁).refs x ≡ (graph h).refs x = ap (λ (os : List Object). (get_or os x no_object).refs) objects in
        ap (refs_in w₁) (sym b.1) ∙ st₁.partners.refs x b.0 ∙ ap (map (renamed cell)) same-refs
        ∙ sym (ap (map move) (st.partners.refs x a) ∙ map-map move (renamed cell_of) ((graph h).refs x)
        ∙ map_same (λ v. move (renamed cell_of v)) (renamed cell) ((graph h).refs x)
        (λ v i. move-ref v (λ y q. let j = subst (λ (u : ℕ). In u ((graph h).refs x)) q i in
        (st.sound.closed.refs x y a j, st₁.sound.closed.refs x y b.0 (subst (λ (k : List ℕ). In (suc y) k) (sym same-refs) j)))))

    lands-at : (c : ℕ) → move (suc (cell_of x)) ≡ suc c → BeginsIn s w₁ c
    lands-at c e = let b = pair-suc x c (sym (move-of x a) ∙ e) in subst (BeginsIn s w₁) b.1 (cell-used s w₁ h₁ cell st₁ x b.0)

    nums_at : (c : ℕ) → move (suc (cell_of x)) ≡ suc c → nums_in w₁ c ≡ nums_in w (cell_of x)
    nums_at c e =
        let b = pair-suc x c (sym (move-of x a) ∙ e) in
        ap (nums_in w₁) (sym b.1) ∙ sym (st₁.nums x b.0) ∙ ap (λ (os : List Object). (get_or os x no_object).nums) objects ∙ st.nums x a

  moves : Moves s w r w₁ move
  unfolding move
  moves =
      record {
        null = refl;
        stays = λ c u n. at c u (λ d. (home_in s w d ≡ r → ⊥) → move (suc d) ≡ suc d) stays_at (λ z. n (sym (used-home s w c u) ∙ z));
        goes = λ c u e. at c u (λ d. home_in s w d ≡ r → region_of s w₁ (move (suc d)) ≡ target s (graph_of s w) r d) goes_at (used-home s w c u ∙ e);
        lands = λ c c' u e. at c u (λ d. move (suc d) ≡ suc c' → BeginsIn s w₁ c') (λ x a. lands-at x a c') e;
        refs = λ c c' u e. at c u (λ d. move (suc d) ≡ suc c' → refs_in w₁ c' ≡ map move (refs_in w d)) (λ x a. refs-at x a c') e;
        nums = λ c c' u e. at c u (λ d. move (suc d) ≡ suc c' → nums_in w₁ c' ≡ nums_in w d) (λ x a. nums_at x a c') e;
        vars = variables;
      }
    where
      -- what holds of the cell of each object of the heap holds of each cell where one begins
      at : (c : ℕ) → BeginsIn s w c → (P : ℕ → Type 0) → ((x : ℕ) → Alive (graph h) x → P (cell_of x)) → P c
      at c u P f = let o = st.partners.onto c (used-alive s w st.whole c u) in subst P o.2 (f o.0 o.1)

      variables : vars_in s w₁ ≡ map move (vars_in s w)
      variables =
          st₁.partners.vars ∙ ap (map (renamed cell)) vars
          ∙ sym (ap (map move) st.partners.vars ∙ map-map move (renamed cell_of) h.heap.vars
          ∙ map_same (λ v. move (renamed cell_of v)) (renamed cell) h.heap.vars
          (λ v i. move-ref v (λ y q. let j = in_place h.heap.vars v i in
          (st.sound.closed.vars j.0 y (j.2 ∙ q), st₁.sound.closed.vars j.0 y (ap (λ (k : List ℕ). get_or k j.0 0) vars ∙ j.2 ∙ q)))))

  pairs-moved : pairs_of h₁ cell ≡ map move (pairs_of h cell_of)
  unfolding pairs_of move
  pairs-moved =
      ap (λ (os : List Object). listed (pair_of h₁ cell) (length os)) objects
      ∙ sym (map-listed move (pair_of h cell_of) (length h.heap.objects) ∙ listed_same (λ x. move (pair_of h cell_of x)) (pair_of h₁ cell) (length h.heap.objects) (λ x l. go x (ℕ_discrete ((graph h).home x) 0)))
    where
      go : (x : ℕ) → Dec ((graph h).home x ≡ 0) → move (pair_of h cell_of x) ≡ pair_of h₁ cell x
      go x (yes z) = ap move (pair-freed h cell_of x z) ∙ sym (pair-freed h₁ cell x (homes x ∙ home-stayed s (graph h) r x (λ e. omega arith) ∙ z))
      go x (no a) = ap move (pair-there h cell_of x a) ∙ move-of x a

-- ---- every command

object-count : (n : nf.NeverFreeing) (v : ℕ) (o : Object) → length (nf.with_object n v o).objects ≡ length n.objects
object-count n zero o = refl
object-count n (suc x) o = length-set n.objects x o

assigned-count : (s : Limits) (n : nf.NeverFreeing) (t : ℕ) (x : Assignment) → length (nf.assigned s n t x).objects ≡ length n.objects
assigned-count s n t nothing = refl
assigned-count s n t (variable a v) = refl
assigned-count s n t (reference a f v) = object-count n (nf.var_of s n t a) _
assigned-count s n t (number a f v) = object-count n (nf.var_of s n t a) _

module _ (s : Sizes) (w w₁ : Words) (h : Regioned) (cell_of : ℕ → ℕ) (st : StandsFor s w h cell_of) (t : ℕ) (th : t < s.threads) where
  -- the object in the variable of a new object
  new-pair : (m : Command) (a b c : ℕ) → a < s.variables → (d : Became s h cell_of m w₁ (after_effect s h t (makes a b c)))
      → pair_of (after_effect s h t (makes a b c)) d.cell (length h.heap.objects) ≡ var_in s w₁ t a
  unfolding nf.effect ru.homes_after
  new-pair m a b c va d =
      let h₁ = after_effect s h t (makes a b c) in
      let n = length h.heap.objects in
      let p = place (limits s) t a in
      let home : (graph h₁).home n ≡ innermost s h t = get_or_at h.homes (innermost s h t) [] 0 n st.sound.aligned in
      let long : length h.heap.vars ≡ var_count s = sym (length-map h.heap.vars (renamed cell_of)) ∙ ap (λ (l : List ℕ). length l) (sym st.partners.vars) ∙ length-vars s w st.whole in
      let at : get_or h₁.heap.vars p 0 ≡ suc n = get_or-set_same h.heap.vars p (n + 1) 0 (omega (arith, flat-low th va)) ∙ add-one n in
      pair-there h₁ d.cell n (λ y. omega (arith, region-pos s t (depth_of h.heap t)))
      ∙ sym (sym (var-at s w₁ t a th va) ∙ ap (λ (l : List ℕ). get_or l p 0) d.stands.partners.vars ∙ get_or-map (renamed d.cell) h₁.heap.vars p 0 ∙ ap (renamed d.cell) at)

  -- where nothing slides, what keeps its home keeps its cell
  still : (m : Command) (e : Effect) → (meaning_of m).effect ≡ e → {h₁ : Regioned} (b : Became s h cell_of m w₁ h₁) → ((q : ℕ) → Slides e q → ⊥)
      → (x : ℕ) → Alive (graph h) x → (graph h₁).home x ≡ (graph h).home x → b.cell x ≡ cell_of x
  still m e me b none x a z = b.stays x a z (λ y. none ((graph h).home x) (subst (λ (f : Effect). Slides f ((graph h).home x)) me y))

  moved-pairs : (m : Command) (e : Effect) (b : Became s h cell_of m w₁ (after_effect s h t e)) (r : ℕ)
      → ((x : ℕ) → Alive (graph h) x → (graph (after_effect s h t e)).home x ≡ (graph h).home x → ((graph h).home x ≡ r → ⊥) → b.cell x ≡ cell_of x) → 0 < r
      → ((x : ℕ) → (graph (after_effect s h t e)).home x ≡ (ended s (graph h) r).home x) → (after_effect s h t e).heap.objects ≡ h.heap.objects → (after_effect s h t e).heap.vars ≡ h.heap.vars
      → (move' : ℕ → ℕ) × Moves s w r w₁ move' × (pairs_of (after_effect s h t e) b.cell ≡ map move' (pairs_of h cell_of))
  moved-pairs m e b r stays pos homes objects vars = (
    move s w w₁ h (after_effect s h t e) cell_of b.cell st b.stands r stays pos homes objects vars,
    moves s w w₁ h (after_effect s h t e) cell_of b.cell st b.stands r stays pos homes objects vars,
    pairs-moved s w w₁ h (after_effect s h t e) cell_of b.cell st b.stands r stays pos homes objects vars,
  )

  effect-pairs : (m : Command) (e : Effect) → (meaning_of m).effect ≡ e → MadeLow (limits s) e → (b : Became s h cell_of m w₁ (after_effect s h t e)) → PairsAfter s w w₁ t e (pairs_of h cell_of) (pairs_of (after_effect s h t e) b.cell)
  unfolding nf.effect ru.homes_after
  effect-pairs m opens me va b = pairs-kept h _ cell_of b.cell (still m opens me b (λ q z. z)) refl (λ x. refl)
  effect-pairs m ends me va b = moved-pairs m ends b r (λ x a e n. still m ends me b (λ q z. z) x a e) pos homes refl refl
    where
      r : ℕ
      r = region_at s t (depth_in w t)

      pos : 0 < r
      pos = region-pos s t (depth_in w t)

      homes : (x : ℕ) → (graph (after_effect s h t ends)).home x ≡ (ended s (graph h) r).home x
      homes x =
          ap (λ (g : Graph). g.home x) (graph-ended s h (innermost s h t) (region-pos s t (depth_of h.heap t)) [])
          ∙ ap (λ (d : ℕ). (ended s (graph h) (region_at s t d)).home x) (ap (λ (l : List ℕ). get_or l t 0) st.depths ∙ depth-at s w t th)
  effect-pairs m collects me va b =
      moved-pairs m collects b control (λ x a e n. b.stays x a e (λ z. n (subst (λ (y : Effect). Slides y ((graph h).home x)) me z))) control-pos
      (λ x. ap (λ (g : Graph). g.home x) (graph-collected s h)) refl refl
  effect-pairs m (makes a b c) me va d =
      pairs_made h _ cell_of d.cell (still m (makes a b c) me d (λ q z. z)) st.sound.aligned (innermost s h t) refl (length-append h.heap.objects _ ∙ add-one _)
      ∙ ap (λ (v : ℕ). pairs_of h cell_of ++ v ∷ []) (new-pair m a b c va d)
  effect-pairs m (assigns x) me va b = pairs-kept h _ cell_of b.cell (still m (assigns x) me b (λ q z. z)) (assigned-count (limits s) h.heap t x) (λ x. refl)

pub did-changes : (s : Sizes) {w w' : Words} {m : Command} {a : Answer} (d : Did s w m w' a) (h : Regioned) (cell_of : ℕ → ℕ) (st : StandsFor s w h cell_of)
    → Changes s w m a w' (pairs_of h cell_of) (pairs_of (ru.step s h m).next (d.next h cell_of st).cell)
unfolding ru.step ru.answered ru.question ru.after
did-changes s {w} {w'} {m} {a} d h cell_of st = go (ru.question s h m) refl (ap (λ (x : Answer). x.number) (d.answer h cell_of st)) (d.next h cell_of st)
  where
    go : (q : ℕ) → ru.question s h m ≡ q → a.number ≡ (ru.answered s h m q).answer.number → (b : Became s h cell_of m w' (ru.answered s h m q).next)
        → Changes s w m a w' (pairs_of h cell_of) (pairs_of (ru.answered s h m q).next b.cell)
    go zero e f b =
        let z = (first-zero (nf.question (limits s) h.heap m) (ru.room s h m (ru.after s h m)) e).0 in
        record {
          done = λ y. effect-pairs s w w' h cell_of st m.thread (thread-ok (limits s) h.heap m z) m (meaning_of m).effect refl (made_ok (limits s) h.heap m z) b;
          refused = λ n. absurd (n f);
        }
    go (suc q) e f b = record { done = λ z. absurd (omega arith); refused = λ n. pairs-kept h h cell_of b.cell (λ x l y. sym (b.stands.occupies.cells x l) ∙ st.occupies.cells x l) refl (λ x. refl) }

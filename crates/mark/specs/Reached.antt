-- Whole words against the rules: chains of slots are the rules' chains, and the holders that marking takes from the words are the rules'
-- holders, each at the level of the region that it calls for.
use Rattle.std.specs.Prelude.{◌≡◌, Bool, true, false, cond, List, eqb}
use Rattle.std.proofs.Math.Path.{refl, sym, ap}
use Rattle.std.proofs.Common.{◌∙◌}
use Rattle.std.proofs.Math.Logic.{⊎_elim}
use Prim.Native.Nat.{ℕ, suc, ◌+◌, ◌/◌, ◌<◌}
use native.Mathlib.Omega.{arith}
use Rattle.std.proofs.Math.Numerals.{one-add}
use Rattle.std.proofs.Math.Decide.{ℕ_discrete}
use Rattle.std.proofs.Math.ListN.{get_or}
use borrow.Author.Tests.{eqb-true}
use Rattle.lists.specs.Listed.{listed}
use Rattle.lists.specs.Members.{In, in-append, in_left, in_right, get_d-in, in_place, in_bounds}
use Rattle.rules.specs.declared.Sizes.{Sizes}
use Rattle.rules.specs.Regions.{region_at, thread_of, level_of, join_by, join}
use Rattle.rules.specs.declared.JoinCase.{JoinCase}
use Rattle.laws.specs.JoinCases.{OneThread, InCase, control-first, control-second, first-outer, second-outer, two-threads, in-case, join-by}
use Rattle.laws.specs.RegionLaws.{region-high, region-number, thread-at, level-at, parent-at}
use Rattle.laws.specs.GraphLaws as gl
use Rattle.laws.specs.GraphLaws.{Refers, Holds, by_slot, by_own, by_other}
use Rattle.layout.specs.Places.{var_of, entries_used, slot_in, slot_region_in, var_count}
use Rattle.layout.specs.Cells.{field_of, page_of, page_at}
use Rattle.layout.specs.Words.{Words, BeginsIn, owner_in, home_in, depth_in, ref_count, refs_in, vars_in, graph_of}
use Rattle.promises.specs.Whole.{WholeFor}
use Rattle.layout.specs.Objects.{begins-page, field-on}
use Rattle.promises.specs.EntrySays.{entry_of, entry-says}
use Rattle.promises.specs.Reading.{used-home, used-alive, alive-used, cell-low, length-refs, get_d-refs, length-vars, get_d-vars, ref-room}
use Rattle.mark.specs.Marks.{Ours, Leads, Leads.held, Leads.via, leads-last, listed_in, in-listed}
use Rattle.mark.specs.Holders.{var_calls, var_held, slot_calls, slot_held, held_refs, Holding, calls-own, calls-other, var-some, slot-some}

-- ---- numbers that are chosen by tests

some-cond : (b : Bool) (x y : ℕ) → cond b x 0 ≡ 1 + y → (b ≡ true) × (x ≡ 1 + y)
some-cond true x y e = (refl, e)
some-cond false x y e = absurd (let z : ⊥ = omega arith in z)

module _ (s : Sizes) (w : Words) (k : WholeFor s w) where
  -- ---- objects and their slots

  pub home-cell : (c q : ℕ) → home_in s w c ≡ q → 0 < q → BeginsIn s w c × (owner_in s w (page_of c) ≡ q)
  home-cell c q e l =
      let u = alive-used s w c (λ (z : home_in s w c ≡ 0). omega arith) in (u, sym (used-home s w c u) ∙ e)

  pub cell-home : (c q : ℕ) → BeginsIn s w c → owner_in s w (page_of c) ≡ q → home_in s w c ≡ q
  cell-home c q u e = used-home s w c u ∙ e

  pub refers-field : (y x : ℕ) → Refers (graph_of s w) y x → (f : ℕ) × (f < ref_count w y) × (field_of w.cells y f ≡ suc x)
  refers-field y x r =
      let i = in_place (refs_in w y) (suc x) r.slot in
      let l : i.0 < ref_count w y = omega (arith, i.1, length-refs s w k y (alive-used s w y r.there)) in
      (i.0, l, sym (get_d-refs w y i.0 l) ∙ i.2)

  pub field-refers : (y f x : ℕ) → BeginsIn s w y → f < ref_count w y → field_of w.cells y f ≡ suc x → Refers (graph_of s w) y x
  field-refers y f x u l e =
      record { below = cell-low s w k y u; there = used-alive s w k y u; slot = get_d-in (refs_in w y) f x (get_d-refs w y f l ∙ e) }

  -- ---- chains

  module _ (r : ℕ) (pos : 0 < r) where
    pub chain-rules : (S : List ℕ) (c : ℕ) → Leads (Ours s r w.cells w.tables) w.cells S c → (x : ℕ) × In (1 + x) S × (home_in s w x ≡ r) × gl.Leads (graph_of s w) r x c
    chain-rules S c (held i o) = (c, i, cell-home c r o.0 o.1, gl.itself)
    chain-rules S c (via {b = b} q f lt e o) =
        let h = chain-rules S b q in
        let u = leads-last q in
        (h.0, h.1, h.2, gl.along h.3 (field-refers b f c u.0 lt (e ∙ one-add c)) (cell-home b r u.0 u.1) (cell-home c r o.0 o.1))

    pub rules-chain : (S : List ℕ) (x c : ℕ) → In (1 + x) S → home_in s w x ≡ r → gl.Leads (graph_of s w) r x c → Leads (Ours s r w.cells w.tables) w.cells S c
    rules-chain S x c i h gl.itself = held i (home-cell x r h pos)
    rules-chain S x c i h (gl.along {y = y} {z = z} q f a b) =
        let e = refers-field y z f in via (rules-chain S x y i h q) e.0 e.1 (e.2 ∙ sym (one-add z)) (home-cell z r b pos)

  -- ---- the words are such as marking asks for

  pub whole-holding : Holding s w.cells w.remember w.tables
  whole-holding = record { some = k.sized.range.variables-low; long = k.sized.remember; variables = k.variables; remember = k.remember }

  -- ---- the innermost region of thread t, at its depth suc j

  module _ (t j : ℕ) (th : t < s.threads) (dk : depth_in w t ≡ suc j) where
    abbrev r : ℕ
    r = region_at s t (suc j)

    -- its parent
    abbrev outer : ℕ
    outer = region_at s t j

    abbrev held_from : ℕ → List ℕ
    held_from g = held_refs s w.cells w.remember w.tables r t outer g

    deep : j < s.depth
    deep = omega (arith, k.depths t th)

    -- what is held for g is held by a holder that calls for g
    pub held-holds : (g x : ℕ) → home_in s w x ≡ r → In (1 + x) (held_from g) → Holds s (graph_of s w) r x g
    unfolding held_refs var_held slot_held
    held-holds g x h i =
        ⊎_elim variable slot
        (in-append (1 + x) (listed (var_held s w.tables t outer g) (var_count s))
        (listed (slot_held s w.cells w.remember w.tables r g) (entries_used w.remember)) i)
      where
        variable : In (1 + x) (listed (var_held s w.tables t outer g) (var_count s)) → Holds s (graph_of s w) r x g
        variable m =
            let q = in-listed (var_held s w.tables t outer g) (var_count s) (1 + x) m in
            let v = some-cond (eqb (var_calls s t outer q.0) g) (var_of s w.tables q.0) x q.2 in
            let at : get_or (vars_in s w) q.0 0 ≡ suc x = get_d-vars s w q.0 q.1 ∙ v.1 ∙ one-add x in
            let e : var_calls s t outer q.0 ≡ g = eqb-true _ _ v.0 in
            go q.0 at e (ℕ_discrete (q.0 / s.variables) t)
          where
            go : (i : ℕ) → get_or (vars_in s w) i 0 ≡ suc x → var_calls s t outer i ≡ g → Dec (i / s.variables ≡ t) → Holds s (graph_of s w) r x g
            go i at e (yes d) = by_own i at (d ∙ sym (thread-at s t j deep)) (sym e ∙ sym (calls-own s t outer i d) ∙ sym (parent-at s t j deep))
            go i at e (no d) = by_other i at (λ z. d (z ∙ thread-at s t j deep)) (sym e ∙ sym (calls-other s t outer i d))

        slot : In (1 + x) (listed (slot_held s w.cells w.remember w.tables r g) (entries_used w.remember)) → Holds s (graph_of s w) r x g
        slot m =
            let q = in-listed (slot_held s w.cells w.remember w.tables r g) (entries_used w.remember) (1 + x) m in
            let a = some-cond (eqb (slot_region_in s.entries w.remember q.0) r) _ x q.2 in
            let b = some-cond (eqb (slot_calls s w.remember w.tables r q.0) g) _ x a.1 in
            let o = entry-says k q.0 q.1 in
            let y = o.object in
            let f : field_of w.cells y o.field ≡ suc x = ap (λ (z : ℕ). get_or w.cells z 0) (sym o.at) ∙ b.1 ∙ one-add x in
            let hy = used-home s w y o.used in
            by_slot y (field-refers y o.field x o.used o.low f) (λ z. o.other (sym o.region ∙ eqb-true _ _ a.0 ∙ sym z ∙ hy))
            (sym (eqb-true _ _ b.0) ∙ ap (join s r) (ap (owner_in s w) o.page ∙ sym hy))

    -- a variable, or a slot outside r, that calls for the region of level l is held there
    var-held : (x l i : ℕ) → get_or (vars_in s w) i 0 ≡ suc x → region_at s t l ≡ var_calls s t outer i → In (1 + x) (held_from (region_at s t l))
    unfolding held_refs
    var-held x l i at c =
        let b : i < var_count s = omega (arith, in_bounds (vars_in s w) i (λ z. omega arith), length-vars s w k) in
        let g : ℕ = region_at s t l in
        in_left (1 + x) (listed (var_held s w.tables t outer g) (var_count s))
        (listed (slot_held s w.cells w.remember w.tables r g) (entries_used w.remember))
        (listed_in (var_held s w.tables t outer g) (var_count s) i (1 + x) b
        (sym (var-some s w.tables t outer g i (var_calls s t outer i) (var_of s w.tables i) refl (sym c) refl)
        ∙ sym (get_d-vars s w i b) ∙ at ∙ sym (one-add x)))

    slot-held : (x l y : ℕ) → home_in s w x ≡ r → Refers (graph_of s w) y x → (home_in s w y ≡ r → ⊥) → join s r (home_in s w y) ≡ region_at s t l → In (1 + x) (held_from (region_at s t l))
    unfolding held_refs
    slot-held x l y h f o e =
        let u = alive-used s w y f.there in
        let i = refers-field y x f in
        let hy = used-home s w y u in
        let own = (home-cell x r h (omega (arith, region-high s t j))).1 in
        let n = entry_of k y i.0 x u i.1 i.2 (omega (arith, own, region-high s t j)) (λ z. o (hy ∙ sym z ∙ own)) in
        let b : i.0 < ref_count w y = i.1 in
        let page : page_at (slot_in w.remember n.0) ≡ page_of y = ap page_at n.2 ∙ field-on s w.cells w.tables y u i.0 (ref-room s w k y i.0 u b) in
        let g : ℕ = region_at s t l in
        let call : slot_calls s w.remember w.tables r n.0 ≡ g = ap (λ (z : ℕ). join s r (owner_in s w z)) page ∙ ap (join s r) (sym hy) ∙ e in
        in_right (1 + x) (listed (var_held s w.tables t outer g) (var_count s))
        (listed (slot_held s w.cells w.remember w.tables r g) (entries_used w.remember))
        (listed_in (slot_held s w.cells w.remember w.tables r g) (entries_used w.remember) n.0 (1 + x) n.1
        (sym (slot-some s w.cells w.remember w.tables r g n.0 (n.3 ∙ own) call) ∙ ap (λ (z : ℕ). get_or w.cells z 0) n.2 ∙ i.2 ∙ sym (one-add x)))

    -- what a slot outside r calls for is the region of a level below
    slot-level : (y : ℕ) → BeginsIn s w y → (home_in s w y ≡ r → ⊥) → (l : ℕ) × (l < suc j) × (join s r (home_in s w y) ≡ region_at s t l)
    unfolding region_at
    slot-level y u o = let c = in-case s r q in go c (ap (join s r) (used-home s w y u) ∙ join-by c)
      where
        q : ℕ
        q = owner_in s w (page_of y)

        its-level : OneThread s r q → (level_of s q < suc j) × (q ≡ region_at s t (level_of s q))
        its-level h =
            let e : thread_of s q ≡ t = sym h.thread ∙ thread-at s t j deep in
            let z : q ≡ region_at s t (level_of s q) = region-number s q h.right ∙ ap (λ (a : ℕ). region_at s a (level_of s q)) e in
            let apart : level_of s q ≡ suc j → ⊥ = λ c. o (used-home s w y u ∙ z ∙ ap (region_at s t) c) in
            (omega (arith, ((k.pages (page_of y) (begins-page _ _ _ _ u)).region h.right).level, ap (depth_in w) e), z)

        go : {c : JoinCase} → InCase s r q c → join s r (home_in s w y) ≡ join_by c r q → (l : ℕ) × (l < suc j) × (join s r (home_in s w y) ≡ region_at s t l)
        go (control-first a) e = (0, omega arith, e)
        go (control-second a) e = (0, omega arith, e)
        go (first-outer h a) e = absurd (let z : ⊥ = omega (arith, (its-level h).0, level-at s t j deep) in z)
        go (second-outer h a) e = (level_of s q, (its-level h).0, e ∙ (its-level h).1)
        go (two-threads a b n) e = (0, omega arith, e)

    -- each holder calls for the region of a level below, and is held there
    pub holds-held : (x q : ℕ) → home_in s w x ≡ r → Holds s (graph_of s w) r x q → (l : ℕ) × (l < suc j) × (q ≡ region_at s t l) × In (1 + x) (held_from (region_at s t l))
    unfolding region_at
    holds-held x q h (by_own i at d e) =
        (j, omega arith, e ∙ parent-at s t j deep, var-held x j i at (calls-own s t outer i (d ∙ thread-at s t j deep)))
    holds-held x q h (by_other i at d e) =
        (0, omega arith, e, var-held x 0 i at (calls-other s t outer i (λ z. d (z ∙ sym (thread-at s t j deep)))))
    holds-held x q h (by_slot y f o e) =
        let l = slot-level y (alive-used s w y f.there) o in (l.0, l.1, e ∙ l.2, slot-held x l.0 y h f o l.2)

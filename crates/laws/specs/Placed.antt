-- Every object that is there lies in the control space or in an open region; so after an end its region is empty.
use Prim.Native.Nat.{ℕ, zero, suc, ◌+◌, ◌-◌, ◌≤◌, ◌<◌}
use Rattle.std.proofs.Common.{arith, sym, subst, ◌∙◌, length-append, get_or-set_same, get_or-set_other, ltb→lt}
use Rattle.std.proofs.Math.Decide.{ℕ_discrete, dec_lt}
use Rattle.std.specs.Prelude.{◌≡◌, List, [], ◌∷◌, ◌++◌, length, get_or, set, replicate}
use Rattle.std.proofs.Math.Path.{refl, ap}
use Rattle.std.proofs.Math.ListN.{get_or-append, get_or-eq_default}
use Rattle.std.proofs.lemmas.List.{get_or_at}
use Rattle.lists.specs.Members.{in_bounds}
use Rattle.rules.specs.declared.Sizes.{Sizes}
use Rattle.rules.specs.declared.Command.{Command}
use Rattle.rules.specs.Terms.{Limits, limits}
use Rattle.rules.specs.NeverFreeing as nf
use Rattle.rules.specs.NeverFreeing.{NeverFreeing, Object, depth_of, var_of, nested, assigned, meaning_of}
use Rattle.rules.specs.NeverFreeing.{Assignment, nothing, variable, reference, number, Effect, opens, ends, collects, makes, assigns}
use Rattle.rules.specs.Regions.{region_at, parent, join, only}
use Rattle.rules.specs.Graph.{Graph, target, ended, freed_by}
use Rattle.laws.specs.RegionLaws.{region-high, parent-at, region-apart, join-control, join-other, join-same}
use Rattle.laws.specs.GraphLaws.{Alive, Holds, by_slot, by_own, by_other, target-called}
use Rattle.laws.specs.EndLaws.{home-went, home-stayed}
use Rattle.rules.specs.Rules as ru
use Rattle.rules.specs.Rules.{Regioned, graph, innermost, one_made, more_freed}
use Rattle.laws.specs.RulesLaws.{region-pos, graph-ended, collected, graph-collected, after_effect}
use Rattle.laws.specs.Collected.{home-kept}
use Rattle.laws.specs.Asked.{ask-zero, first-zero, thread-ok, nested-ok}

-- q is the control space, or the region of a thread at a level that is open
pub data Open (s : Sizes) (ds : List ℕ) (q : ℕ) : Type 0 where
  control : q ≡ 1 → Open s ds q
  level : (t k : ℕ) → t < s.threads → k < get_or ds t 0 → q ≡ region_at s t (suc k) → Open s ds q

pub record Placed (s : Sizes) (h : Regioned) : Type 0 where
  pub depths : (t : ℕ) → get_or h.heap.depths t 0 ≤ s.depth
  pub homes : (x : ℕ) → Alive (graph h) x → Open s h.heap.depths (get_or h.homes x 0)

-- ---- depths

-- what was open stays open where no depth falls
open_more : (s : Sizes) (ds es : List ℕ) (q : ℕ) → ((t : ℕ) → get_or ds t 0 ≤ get_or es t 0) → Open s ds q → Open s es q
open_more s ds es q l (control e) = control e
open_more s ds es q l (level t k a b e) = level t k a (omega (arith, l t)) e

raised : (ds : List ℕ) (t u : ℕ) → get_or ds u 0 ≤ get_or (set ds t (get_or ds t 0 + 1)) u 0
raised [] t u = omega arith
raised (d ∷ ds) zero zero = omega arith
raised (d ∷ ds) zero (suc u) = omega arith
raised (d ∷ ds) (suc t) zero = omega arith
raised (d ∷ ds) (suc t) (suc u) = raised ds t u

-- a depth that is set is the new one, or as it was
set-at-most : (ds : List ℕ) (t d u b : ℕ) → d ≤ b → get_or ds u 0 ≤ b → get_or (set ds t d) u 0 ≤ b
set-at-most [] t d u b h k = k
set-at-most (x ∷ ds) zero d zero b h k = h
set-at-most (x ∷ ds) zero d (suc u) b h k = k
set-at-most (x ∷ ds) (suc t) d zero b h k = k
set-at-most (x ∷ ds) (suc t) d (suc u) b h k = set-at-most ds t d u b h k

-- ---- the end of the region of thread t at its depth, suc k

module _ (s : Sizes) (h : Regioned) (p : Placed s h) (t k : ℕ) (th : t < s.threads) (dk : get_or h.heap.depths t 0 ≡ suc k) where
  abbrev ended-depths : List ℕ
  ended-depths = set h.heap.depths t k

  abbrev r : ℕ
  r = region_at s t (suc k)

  k-fits : k < s.depth
  k-fits = omega (arith, p.depths t)

  pub depth-now : get_or ended-depths t 0 ≡ k
  depth-now = get_or-set_same h.heap.depths t k 0 (in_bounds h.heap.depths t (λ z. omega arith))

  -- an open region other than r stays open, and r joins it in an open one
  stays_open : (q : ℕ) → (q ≡ r → ⊥) → Open s h.heap.depths q → Open s ended-depths q × Open s ended-depths (join s r q)
  stays_open q n (control e) = (control e, control (ap (join s r) e ∙ join-control s r))
  stays_open q n (level u j a b e) = go (ℕ_discrete t u)
    where
      j-fits : j < s.depth
      j-fits = omega (arith, p.depths u)

      go : Dec (t ≡ u) → Open s ended-depths q × Open s ended-depths (join s r q)
      go (no d) = (
        level u j a (omega (arith, get_or-set_other h.heap.depths t u k 0 (λ f. d (sym f)))) e,
        control (ap (join s r) e ∙ join-other s t k u j k-fits j-fits d),
      )
      go (yes f) =
          let below : j < suc k = omega (arith, ap (λ (v : ℕ). get_or h.heap.depths v 0) f) in
          let less : (j ≡ k → ⊥) → j < k = λ d. omega arith in
          let lt : j < k = less (λ d. n (e ∙ subst (λ (v : ℕ). region_at s v (suc j) ≡ r) f (ap (λ (v : ℕ). region_at s t (suc v)) d))) in
          let now : j < get_or ended-depths u 0 = omega (arith, depth-now, ap (λ (v : ℕ). get_or ended-depths v 0) f) in
          (level u j a now e, level u j a now (ap (join s r) e ∙ join-same s t k u j k-fits j-fits f (omega arith)))

  parent-open : Open s ended-depths (parent s r)
  unfolding region_at
  parent-open = go k refl
    where
      go : (n : ℕ) → k ≡ n → Open s ended-depths (parent s r)
      go zero e = control (parent-at s t k k-fits ∙ ap (region_at s t) e)
      go (suc n) e = level t n th (omega (arith, depth-now)) (parent-at s t k k-fits ∙ ap (region_at s t) e)

  -- whatever a holder calls for is open afterwards
  pub held-open : (x q : ℕ) → Holds s (graph h) r x q → Open s ended-depths q
  held-open x q (by_slot y f o e) = subst (Open s ended-depths) (sym e) (stays_open (get_or h.homes y 0) o (p.homes y f.there)).1
  held-open x q (by_own i at u e) = subst (Open s ended-depths) (sym e) parent-open
  held-open x q (by_other i at u e) = control e

  ended-open : (x : ℕ) → (get_or (ru.ended s h r) x 0 ≡ 0 → ⊥) → Open s ended-depths (get_or (ru.ended s h r) x 0)
  ended-open x a = go (ℕ_discrete (get_or h.homes x 0) r)
    where
      at : get_or (ru.ended s h r) x 0 ≡ (ended s (graph h) r).home x
      at = ap (λ (g : Graph). g.home x) (graph-ended s h r (region-pos s t (suc k)) [])

      go : Dec (get_or h.homes x 0 ≡ r) → Open s ended-depths (get_or (ru.ended s h r) x 0)
      go (yes e) =
          let w = at ∙ home-went s (graph h) r x e in
          let nz : target s (graph h) r x ≡ 0 → ⊥ = λ z. a (w ∙ z) in
          let c = target-called s (graph h) r x (omega arith) in
          subst (Open s ended-depths) (sym w) (held-open c.first (target s (graph h) r x) c.held)
      go (no n) =
          let w = at ∙ home-stayed s (graph h) r x n in
          subst (Open s ended-depths) (sym w) (stays_open (get_or h.homes x 0) n (p.homes x (λ z. a (w ∙ z)))).0

  placed-ended : (vs : List ℕ) → Placed s (record { heap = record { depths = ended-depths; vars = vs; objects = h.heap.objects }; homes = ru.ended s h r; counters = more_freed (freed_by s (graph h) r) h.counters; occupancy = ru.vacated s h (only r) (ru.ended s h r) })
  placed-ended vs = record { depths = λ u. set-at-most h.heap.depths t k u s.depth (omega (arith, k-fits)) (p.depths u); homes = ended-open }

  -- so the ended region is empty
  pub ended-empty : (x : ℕ) → get_or (ru.ended s h r) x 0 ≡ r → ⊥
  ended-empty x e = go (ended-open x (λ z. omega (arith, region-pos s t (suc k))))
    where
      go : Open s ended-depths (get_or (ru.ended s h r) x 0) → ⊥
      go (control c) = omega (arith, region-high s t k)
      go (level u j a b c) =
          let q = region-apart s t k u j k-fits (omega (arith, set-at-most h.heap.depths t k u s.depth (omega (arith, k-fits)) (p.depths u))) (sym e ∙ c) in
          omega (arith, depth-now, q.1, ap (λ (v : ℕ). get_or ended-depths v 0) q.0)

-- ---- a new object, and the start of an epoch

innermost-open : (s : Sizes) (ds : List ℕ) (t : ℕ) → t < s.threads → Open s ds (region_at s t (get_or ds t 0))
innermost-open s ds t th = go (get_or ds t 0) refl
  where
    go : (d : ℕ) → get_or ds t 0 ≡ d → Open s ds (region_at s t d)
    go zero e = control (unfold region_at in refl)
    go (suc k) e = level t k th (omega arith) refl

placed-new : (s : Sizes) (h : Regioned) → Placed s h → (q : ℕ) → Open s h.heap.depths q → (n : NeverFreeing) → n.depths ≡ h.heap.depths
    → Placed s (record { heap = n; homes = h.homes ++ q ∷ []; counters = one_made h.counters; occupancy = ru.taken_by h.occupancy q })
placed-new s h p q o n e =
    record {
      depths = λ t. subst (λ (ds : List ℕ). get_or ds t 0 ≤ s.depth) (sym e) (p.depths t);
      homes = λ x a. subst (λ (ds : List ℕ). Open s ds (get_or (h.homes ++ q ∷ []) x 0)) (sym e) (home x a (dec_lt x (length h.homes)) (ℕ_discrete (length h.homes) x));
    }
  where
    home : (x : ℕ) → (get_or (h.homes ++ q ∷ []) x 0 ≡ 0 → ⊥) → Dec (x < length h.homes) → Dec (length h.homes ≡ x) → Open s h.heap.depths (get_or (h.homes ++ q ∷ []) x 0)
    home x a (yes l) d =
        let w = get_or-append h.homes (q ∷ []) 0 x l in subst (Open s h.heap.depths) (sym w) (p.homes x (λ z. a (w ∙ z)))
    home x a (no l) (yes d) = subst (Open s h.heap.depths) (sym (get_or_at h.homes q [] 0 x d)) o
    home x a (no l) (no d) = absurd (a (get_or-eq_default (h.homes ++ q ∷ []) 0 {n = x} (omega (arith, length-append h.homes (q ∷ [])))))

placed-start : (s : Sizes) (h : Regioned) → Placed s h → (t : ℕ) → get_or h.heap.depths t 0 < s.depth
    → Placed s (record { heap = record { depths = set h.heap.depths t (get_or h.heap.depths t 0 + 1); vars = h.heap.vars; objects = h.heap.objects }; homes = h.homes; counters = h.counters; occupancy = h.occupancy })
placed-start s h p t l =
    record {
      depths = λ u. set-at-most h.heap.depths t _ u s.depth (omega arith) (p.depths u);
      homes = λ x a. open_more s h.heap.depths _ _ (raised h.heap.depths t) (p.homes x a);
    }

-- a collection opens and closes no region, and what stays lies where it lay
placed-collected : (s : Sizes) (h : Regioned) → Placed s h → Placed s (collected s h)
placed-collected s h p =
    record {
      depths = p.depths;
      homes = λ x a.
          let b : Alive (ended s (graph h) 1) x = subst (λ (g : Graph). Alive g x) (graph-collected s h) a in
          let same = ap (λ (g : Graph). g.home x) (graph-collected s h) ∙ home-kept s (graph h) x b in
          subst (Open s h.heap.depths) (sym same) (p.homes x (λ z. a (same ∙ z)));
    }

placed_same : (s : Sizes) (h : Regioned) → Placed s h → (n : NeverFreeing) → n.depths ≡ h.heap.depths → Placed s (record { heap = n; homes = h.homes; counters = h.counters; occupancy = h.occupancy })
placed_same s h p n e =
    record { depths = λ t. subst (λ (ds : List ℕ). get_or ds t 0 ≤ s.depth) (sym e) (p.depths t); homes = λ x a. subst (λ (ds : List ℕ). Open s ds (get_or h.homes x 0)) (sym e) (p.homes x a) }

-- ---- every command

object-depths : (n : NeverFreeing) (v : ℕ) (o : Object) → (nf.with_object n v o).depths ≡ n.depths
object-depths n zero o = refl
object-depths n (suc x) o = refl

assigned-depths : (s : Limits) (n : NeverFreeing) (t : ℕ) (x : Assignment) → (assigned s n t x).depths ≡ n.depths
assigned-depths s n t nothing = refl
assigned-depths s n t (variable a v) = refl
assigned-depths s n t (reference a f v) = object-depths n (var_of s n t a) _
assigned-depths s n t (number a f v) = object-depths n (var_of s n t a) _

placed-effect : (s : Sizes) (h : Regioned) → Placed s h → (t : ℕ) (e : Effect) → t < s.threads → nested (limits s) h.heap t e ≡ 0 → Placed s (after_effect s h t e)
unfolding nf.effect ru.homes_after ru.counters_after ru.occupancy_after
placed-effect s h p t opens th q = placed-start s h p t (ltb→lt _ _ (ask-zero _ 10 _ q).0)
placed-effect s h p t ends th q = go (depth_of h.heap t) refl (ltb→lt _ _ (ask-zero _ 11 _ q).0)
  where
    go : (d : ℕ) → depth_of h.heap t ≡ d → 0 < depth_of h.heap t
        → Placed s (record { heap = record { depths = set h.heap.depths t (depth_of h.heap t - 1); vars = h.heap.vars; objects = h.heap.objects }; homes = ru.ended s h (innermost s h t); counters = more_freed (freed_by s (graph h) (innermost s h t)) h.counters; occupancy = ru.vacated s h (only (innermost s h t)) (ru.ended s h (innermost s h t)) })
    go zero e l = absurd (omega arith)
    go (suc k) e l =
        let d : depth_of h.heap t - 1 ≡ k = omega arith in
        rw (d, e) (placed-ended s h p t k th e h.heap.vars)
placed-effect s h p t collects th q = placed-collected s h p
placed-effect s h p t (makes a b c) th q = placed-new s h p (innermost s h t) (innermost-open s h.heap.depths t th) _ refl
placed-effect s h p t (assigns x) th q = placed_same s h p _ (assigned-depths (limits s) h.heap t x)

pub placed-step : (s : Sizes) (h : Regioned) (m : Command) → Placed s h → Placed s (ru.step s h m).next
unfolding ru.step ru.answered ru.after ru.question
placed-step s h m p = go (ru.question s h m) refl
  where
    go : (q : ℕ) → ru.question s h m ≡ q → Placed s (ru.answered s h m q).next
    go zero e =
        let z = (first-zero (nf.question (limits s) h.heap m) (ru.room s h m (ru.after s h m)) e).0 in
        placed-effect s h p m.thread (meaning_of m).effect (thread-ok (limits s) h.heap m z) (nested-ok (limits s) h.heap m z)
    go (suc q) e = p

pub placed-unused : (s : Sizes) → Placed s (ru.unused s)
unfolding ru.unused nf.empty
placed-unused s = record { depths = λ t. zeros s.threads t; homes = λ x a. absurd (a refl) }
  where
    zeros : (n t : ℕ) → get_or (replicate n 0) t 0 ≤ s.depth
    zeros zero t = omega arith
    zeros (suc n) zero = omega arith
    zeros (suc n) (suc t) = zeros n t

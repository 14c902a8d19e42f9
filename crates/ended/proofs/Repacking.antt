-- After an end that placed its survivors as the rules do, the words have the cells and the pages of the heap that the rules leave (02, W3).
use Rattle.std.specs.Prelude.{ℕ, suc, ◌<◌, ◌≡◌, List, [], Bool, length}
use Rattle.std.proofs.Common.{arith, ◌∙◌, ne_eqb, eq-eqb}
use Rattle.std.proofs.Math.Decide.{ℕ_discrete}
use Rattle.std.proofs.Math.Path.{sym, ap, ap₂, subst}
use Rattle.std.proofs.Math.Bool.{cond}
use Rattle.std.proofs.Math.ListN.{get_or}
use Rattle.lists.specs.Listed.{length-listed, get_d-listed}
use Rattle.rules.specs.declared.Sizes.{Sizes}
use Rattle.rules.specs.Regions.{regions, only}
use Rattle.rules.specs.Graph.{Graph, target, ended}
use Rattle.rules.specs.Pages.{Placing, none_moved, new_cell, released}
use Rattle.rules.specs.Rules as ru
use Rattle.rules.specs.Rules.{Regioned, graph, home_of, object_at, goal_of, goals, copies, vacated}
use Rattle.laws.specs.GraphLaws.{Alive}
use Rattle.laws.specs.EndLaws.{home-went}
use Rattle.laws.specs.RulesLaws.{over, graph-ended}
use Rattle.laws.specs.LikeCells.{Held, by, none, held_by, moved-cell}
use Rattle.laws.specs.PlaceLaws.{place_same}
use Rattle.layout.specs.Words.{Words, cell_count, home_in, graph_of, pages_in, heap_of}
use Rattle.promises.specs.Whole.{WholeFor}
use Rattle.promises.specs.StandsFor.{Occupies}
use Rattle.promises.specs.Reading.{words-closed}
use Rattle.promises.specs.Agreed.{home-at, there, back, heap-stands, targets-agree}
use Rattle.promises.specs.Ends.{part_of, Lives}
use Rattle.ended.specs.Evacuated.{goal_in, copies_in, Repacked}

module _ (s : Sizes) (w : Words) (whole : WholeFor s w) (r : ℕ) (pos : 0 < r) where
  abbrev H : Regioned
  H = heap_of s w

  abbrev E : List ℕ
  E = ru.ended s H r

  -- an object of the heap lies in the cell of its number
  pub cell-here : (x : ℕ) → Alive (graph H) x → get_or H.occupancy.cells x 0 ≡ x
  cell-here x a = (heap-stands s w whole).occupies.cells x a

  below : (x : ℕ) → Alive (graph H) x → x < cell_count s
  below x a = (words-closed s w whole).below x (there s w whole x a)

  pub inside : (x : ℕ) → Alive (graph H) x → x < length H.occupancy.cells
  unfolding heap_of
  inside x a = omega (arith, below x a, length-listed (λ c. c) (cell_count s))

  -- ---- the region that the object in a cell goes to

  pub goal-of : (c : ℕ) → goal_of H (only r) E (object_at H c) ≡ goal_in s w r c
  unfolding goal_in
  goal-of c = go (held_by H c) (ℕ_discrete (home_in s w c) r)
    where
      away : (home_in s w c ≡ r → ⊥) → goal_in s w r c ≡ 0
      away n = ap (λ (b : Bool). cond b (target s (graph_of s w) r c) 0) (ne_eqb (home_in s w c) r n)

      go : Held H c → Dec (home_in s w c ≡ r) → goal_of H (only r) E (object_at H c) ≡ goal_in s w r c
      go (none e n) (yes z) = let a : Alive (graph H) c = back s w whole c (λ (y : home_in s w c ≡ 0). omega arith) in absurd (n c a (cell-here c a))
      go (none e n) (no z) = ap (goal_of H (only r) E) e ∙ sym (away z)
      go (by x e a f) d = ap (goal_of H (only r) E) e ∙ subst (λ (y : ℕ). goal_of H (only r) E (suc y) ≡ goal_in s w r c) (sym x-is) (at d)
        where
          x-is : x ≡ c
          x-is = sym (cell-here x a) ∙ f

          a' : Alive (graph H) c
          a' = subst (Alive (graph H)) x-is a

          at : Dec (home_in s w c ≡ r) → goal_of H (only r) E (suc c) ≡ goal_in s w r c
          at (yes z) =
              let h : home_of H c ≡ r = home-at s w whole c ∙ z in
              ap₂ (λ (b : Bool) (n : ℕ). cond b n 0) (eq-eqb (home_of H c) r h ∙ sym (eq-eqb (home_in s w c) r z))
              (ap (λ (g : Graph). g.home c) (graph-ended s H r pos []) ∙ home-went s (graph H) r c h ∙ sym (targets-agree s w H (λ x. x) (heap-stands s w whole) r pos c a'))
          at (no z) = ap (λ (b : Bool). cond b (get_or E c 0) 0) (ne_eqb (home_of H c) r (λ h. z (sym (home-at s w whole c) ∙ h))) ∙ sym (away z)

  copies-here : copies s H (only r) E ≡ copies_in s w r
  unfolding copies goals heap_of
  copies-here =
      place_same (λ c. get_or (goals s H (only r) E) c 0) (goal_in s w r) (cell_count s)
      (λ c l. get_d-listed (λ d. goal_of H (only r) E (object_at H d)) (cell_count s) c 0 l ∙ goal-of c) (regions s) (none_moved (pages_in s w))

  -- ---- the heap after the end

  module _ {w' : Words} {cell : ℕ → ℕ} (rep : Repacked s w r w' cell) (lives : (x : ℕ) → Alive (ended s (graph H) r) x → Lives s w (part_of s w r) x)
      (was : (x : ℕ) → Alive (ended s (graph H) r) x → Alive (graph H) x) (ds : List ℕ) where
    pub repacked-occupies : Occupies s w' (over s H r pos ds) cell
    unfolding vacated
    repacked-occupies =
        record {
          cells = λ x a.
              let b = subst (λ (g : Graph). Alive g x) (graph-ended s H r pos ds) a in
              moved-cell (copies s H (only r) E).moves H.occupancy.cells x (inside x (was x b))
              ∙ ap₂ (λ (p : Placing) (c : ℕ). new_cell p.moves c) copies-here (cell-here x (was x b)) ∙ sym (rep.cells x (lives x b));
          pages = ap (λ (p : Placing). released (only r) p.pages) copies-here ∙ sym rep.pages;
        }

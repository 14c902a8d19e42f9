-- After a collection that slid its survivors as the rules do, the words have the cells and the pages of the heap that the rules leave (02, W5).
use Rattle.std.specs.Prelude.{ℕ, ◌≡◌, length, get_or, eqb}
use Rattle.std.proofs.Math.Path.{sym, ap, ap₂, subst}
use Rattle.std.proofs.Common.{◌∙◌}
use mathlib.Core.List.{List}
use Rattle.std.proofs.Math.Bool.{not}
use Rattle.lists.specs.Listed.{get_d-listed}
use Rattle.rules.specs.declared.Sizes.{Sizes}
use Rattle.rules.specs.Regions.{control, only}
use Rattle.rules.specs.Graph.{Graph, ended}
use Rattle.rules.specs.Pages.{Move, owned_from, new_cell, filled_by}
use Rattle.rules.specs.Rules as ru
use Rattle.rules.specs.Rules.{Regioned, graph, object_at, goal_of, goals, slides, slid}
use Rattle.laws.specs.GraphLaws.{Alive}
use Rattle.laws.specs.RulesLaws.{control-pos, collected, graph-collected}
use Rattle.laws.specs.LikeCells.{moved-cell}
use Rattle.laws.specs.SlideLaws.{slides-same}
use Rattle.layout.specs.Words.{Words, cell_count, pages_in, heap_of}
use Rattle.promises.specs.Whole.{WholeFor}
use Rattle.promises.specs.StandsFor.{Occupies}
use Rattle.promises.specs.Ends.{part_of, Lives}
use Rattle.ended.specs.Evacuated.{goal_in, slides_in, Packed}
use Rattle.ended.proofs.Repacking.{cell-here, inside, goal-of}

module _ (s : Sizes) (w : Words) (whole : WholeFor s w) where
  abbrev H : Regioned
  H = heap_of s w

  abbrev E : List ℕ
  E = ru.ended s H control

  -- the rules slide the heap of these words so
  slides-here : slides s H control E ≡ slides_in s w
  unfolding slides goals heap_of
  slides-here =
      slides-same (λ c. not (eqb (get_or (goals s H (only control) E) c 0) 0)) (λ c. not (eqb (goal_in s w control c) 0)) (owned_from control 0 (pages_in s w)) (cell_count s)
      (λ c l. ap (λ (n : ℕ). not (eqb n 0)) (get_d-listed (λ d. goal_of H (only control) E (object_at H d)) (cell_count s) c 0 l ∙ goal-of s w whole control control-pos c))

  module _ {w' : Words} {cell : ℕ → ℕ} (p : Packed s w w' cell) (lives : (x : ℕ) → Alive (ended s (graph H) control) x → Lives s w (part_of s w control) x)
      (was : (x : ℕ) → Alive (ended s (graph H) control) x → Alive (graph H) x) where
    pub packed-occupies : Occupies s w' (collected s H) cell
    unfolding slid heap_of
    packed-occupies =
        record {
          cells = λ x a.
              let b = subst (λ (g : Graph). Alive g x) (graph-collected s H) a in
              moved-cell (slides s H control E) H.occupancy.cells x (inside s w whole control control-pos x (was x b))
              ∙ ap₂ (λ (ms : List Move) (c : ℕ). new_cell ms c) slides-here (cell-here s w whole control control-pos x (was x b)) ∙ sym (p.cells x (lives x b));
          pages = ap (λ (ms : List Move). filled_by control (length ms) (pages_in s w)) slides-here ∙ sym p.pages;
        }

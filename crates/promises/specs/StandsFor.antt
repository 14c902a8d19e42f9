-- Lent words stand for a regioned heap.
use Rattle.std.specs.Prelude.{ℕ, ◌≡◌, List, length, get_or, drop}
use Rattle.rules.specs.declared.Sizes.{Sizes}
use Rattle.rules.specs.NeverFreeing.{no_object}
use Rattle.laws.specs.GraphLaws.{Alive}
use Rattle.rules.specs.Rules.{Regioned, graph, object_cell}
use Rattle.laws.specs.RulesLaws.{Sound}
use Rattle.laws.specs.SameRules.{Partners}
use Rattle.layout.specs.Places.{cells_words, remember_words, tables_words}
use Rattle.layout.specs.Words.{Words, depths_in, nums_in, counters_in, pages_in, graph_of}
use Rattle.promises.specs.Whole.{WholeFor}

-- cell_of leads each object that is there to the cell that the heap has for it, and the pages are the heap's (02, W3)
pub record Occupies (s : Sizes) (w : Words) (h : Regioned) (cell_of : ℕ → ℕ) : Type 0 where
  pub cells : (x : ℕ) → Alive (graph h) x → object_cell h x ≡ cell_of x
  pub pages : h.occupancy.pages ≡ pages_in s w

-- cell_of leads each object that is there to its cell: one to one, onto the cells where objects begin, on a page of its home, with its references,
-- variables and numbers; depths, counters, cells and pages are the heap's
pub record StandsFor (s : Sizes) (w : Words) (h : Regioned) (cell_of : ℕ → ℕ) : Type 0 where
  pub whole : WholeFor s w
  pub sound : Sound h
  pub depths : h.heap.depths ≡ depths_in s w
  pub partners : Partners cell_of (graph h) (graph_of s w)
  pub nums : (x : ℕ) → Alive (graph h) x → (get_or h.heap.objects x no_object).nums ≡ nums_in w (cell_of x)
  pub counters : h.counters ≡ counters_in s w
  pub occupies : Occupies s w h cell_of

-- two lists are as long, and the same from n on
pub record SameFrom (n : ℕ) (l k : List ℕ) : Type 0 where
  pub long : length k ≡ length l
  pub rest : drop n k ≡ drop n l

-- the words past the three lengths never change
pub record SameBeyond (s : Sizes) (w w' : Words) : Type 0 where
  pub cells : SameFrom (cells_words s) w.cells w'.cells
  pub remember : SameFrom (remember_words s) w.remember w'.remember
  pub tables : SameFrom (tables_words s) w.tables w'.tables

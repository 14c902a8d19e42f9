-- The words after an accepted end, or a collection (02, W5), said of the words before it (01, "Region rules"). `cell` is the cell afterwards of
-- the object that was in a cell.
use Rattle.std.specs.Prelude.{ℕ, ◌≤◌, ◌<◌, ◌≡◌, List, cond, not, length, get_or, eqb}
use Rattle.rules.specs.declared.Sizes.{Sizes}
use Rattle.rules.specs.Regions.{control, regions, only}
use Rattle.rules.specs.Graph.{target, freed_by}
use Rattle.rules.specs.Pages.{Placing, none_moved, place_all, new_cell, released, Move, owned_from, slide_below, filled_by}
use Rattle.rules.specs.Rules.{more_freed}
use Rattle.laws.specs.SameRules.{renamed}
use Rattle.layout.specs.Places.{var_of, var_count}
use Rattle.layout.specs.Cells.{page_of, field_of, work_of, room_for}
use Rattle.layout.specs.Words.{Words, BeginsIn, cell_count, owner_in, head_in, home_in, ref_count, counters_in, pages_in, graph_of}
use Rattle.promises.specs.Whole.{Open, MarksWhole, RememberWhole, UnusedWhole}
use Rattle.promises.specs.Regular.{Regular}
use Rattle.promises.specs.StandsFor.{SameBeyond}
use Rattle.promises.specs.Ends.{Part, part_of, Outside, Survivor, Lives}

-- The references of the object that was in cell c lead to the cells of what they named, every word after them (the numbers, and the zeros
-- that follow) is the same, and the working word is zero.
pub record SameObject (w : Words) (cell : ℕ → ℕ) (w' : Words) (c : ℕ) : Type 0 where
  pub references : (f : ℕ) → f < ref_count w c → field_of w'.cells (cell c) f ≡ renamed cell (field_of w.cells c f)
  pub others : (f : ℕ) → ref_count w c ≤ f → f < room_for (head_in w c) → field_of w'.cells (cell c) f ≡ field_of w.cells c f
  pub working : work_of w'.cells (cell c) ≡ 0

-- an object outside the part keeps its cell, on a page of the same owner
pub record Stayed (s : Sizes) (w : Words) (cell : ℕ → ℕ) (w' : Words) (c : ℕ) : Type 0 where
  pub same : cell c ≡ c
  pub owner : owner_in s w' (page_of c) ≡ owner_in s w (page_of c)

-- The objects that live on have cells, no two of them one, each with its word 0. A survivor's is on a page of its target.
pub record Placement (s : Sizes) (w : Words) (e : Part) (w' : Words) (cell : ℕ → ℕ) : Type 0 where
  pub used : (c : ℕ) → Lives s w e c → BeginsIn s w' (cell c)
  pub head : (c : ℕ) → Lives s w e c → head_in w' (cell c) ≡ head_in w c
  pub stayed : (c : ℕ) → Outside s w e c → Stayed s w cell w' c
  pub went : (c : ℕ) → Survivor s w e c → owner_in s w' (page_of (cell c)) ≡ e.goes c
  pub apart : (b c : ℕ) → Lives s w e b → Lives s w e c → cell b ≡ cell c → b ≡ c

-- a page that ends has no owner afterwards
abbrev pub Vacated : Sizes → Part → Words → Type 0
Vacated s e w' = (page : ℕ) → page < s.pages → e.ends page → owner_in s w' page ≡ 0

-- the end of region r: made stays, and its objects that have no target are freed
abbrev pub FreedCounted : Sizes → Words → ℕ → Words → Type 0
FreedCounted s w r w' = counters_in s w' ≡ more_freed (freed_by s (graph_of s w) r) (counters_in s w)

-- the region that the object in a cell goes to at the end of region r, 0 if none goes from there
unfoldable pub goal_in : Sizes → Words → ℕ → ℕ → ℕ
goal_in s w r c = cond (eqb (home_in s w c) r) (target s (graph_of s w) r c) 0

-- its survivors in the cells that the rules give them, while r's pages still stand (02, W3)
abbrev pub copies_in : Sizes → Words → ℕ → Placing
copies_in s w r = place_all (goal_in s w r) (cell_count s) (regions s) (none_moved (pages_in s w))

-- each object that lives on is in the cell that the rules say, and the pages are theirs, r's given back
pub record Repacked (s : Sizes) (w : Words) (r : ℕ) (w' : Words) (cell : ℕ → ℕ) : Type 0 where
  pub cells : (c : ℕ) → Lives s w (part_of s w r) c → cell c ≡ new_cell (copies_in s w r).moves c
  pub pages : pages_in s w' ≡ released (only r) (copies_in s w r).pages

-- a collection (02, W5): the survivors of the control space in the places that the rules give them on its own pages
abbrev pub slides_in : Sizes → Words → List Move
slides_in s w = slide_below (λ c. not (eqb (goal_in s w control c) 0)) (owned_from control 0 (pages_in s w)) (cell_count s)

-- each object that lives on is there, and the pages hold them
pub record Packed (s : Sizes) (w w' : Words) (cell : ℕ → ℕ) : Type 0 where
  pub cells : (c : ℕ) → Lives s w (part_of s w control) c → cell c ≡ new_cell (slides_in s w) c
  pub pages : pages_in s w' ≡ filled_by control (length (slides_in s w)) (pages_in s w)

pub record Evacuated (s : Sizes) (w : Words) (e : Part) (w' : Words) (cell : ℕ → ℕ) : Type 0 where
  -- the words past the three lengths, the sizes, and the first word of the remember table are as they were
  pub beyond : SameBeyond s w w'
  pub sizes : (j : ℕ) → j < 5 → get_or w'.tables j 0 ≡ get_or w.tables j 0
  pub entries : get_or w'.remember 0 0 ≡ get_or w.remember 0 0
  -- variables lead to the cells of what they named; they are counted through all threads
  pub variables : (i : ℕ) → i < var_count s → var_of s w'.tables i ≡ renamed cell (var_of s w.tables i)
  -- the objects that live on are in their cells, and there is no other
  pub placement : Placement s w e w' cell
  pub object : (c : ℕ) → Lives s w e c → SameObject w cell w' c
  pub only : (d : ℕ) → BeginsIn s w' d → (c : ℕ) × Lives s w e c × (cell c ≡ d)
  -- pages, counts, marks, the remember table and the cells not in use are whole (01, "Tables are whole"; 02, W1)
  pub regular : Regular s w'.tables
  pub owners : (page : ℕ) → page < s.pages → 1 < owner_in s w' page → Open s w'.tables (owner_in s w' page)
  pub marks : MarksWhole s w'
  pub remember : RememberWhole s w'
  pub unused : UnusedWhole s w'

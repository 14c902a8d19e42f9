-- Tables are whole (01, "Sizes and tables"; 02, W1 to W3): each condition by itself, and all of them in 01's order. c, m and t are the cells, the
-- remember table and the tables of words w.
use Rattle.std.specs.Prelude.{ℕ, suc, ◌≤◌, ◌<◌, List, cond, ◌≡◌, get_or, length, eqb}
use Rattle.lists.specs.Counting.{sum}
use Rattle.rules.specs.declared.Sizes.{Sizes}
use Rattle.rules.specs.Terms.{InRange}
use Rattle.rules.specs.Regions.{thread_of, level_of, regions}
use Rattle.rules.specs.Rules.{Leaves}
use Rattle.layout.specs.Places.{cells_words, remember_words, tables_words, var_count, depth_of, var_of, owner_of, used_of, mark_of, count_of}
use Rattle.layout.specs.Cells.{head_of, work_of, field_of, refs_of, all_fields, room_for, Formed, cell_named, page_cells}
use Rattle.layout.specs.Objects.{Begins, NotInUse}
use Rattle.layout.specs.Words.{Words, BeginsIn, sizes_in, depth_in, counters_in}
use Rattle.remember.specs.Crossing.{cross_to}
use Rattle.remember.specs.Entries.{EntryOf, EntriesOf, Exact}

-- ---- the words that the conditions speak of

-- region g of a thread is open
pub record Open (s : Sizes) (t : List ℕ) (g : ℕ) : Type 0 where
  pub real : 2 ≤ g
  pub thread : thread_of s g < s.threads
  pub level : level_of s g ≤ depth_of t (thread_of s g)

-- a page that is used uses its first 1 to 16 cells, a free page uses none
pub record PageFilled (s : Sizes) (t : List ℕ) (page : ℕ) : Type 0 where
  pub free : owner_of s t page ≡ 0 → used_of s t page ≡ 0
  pub taken : 0 < owner_of s t page → 1 ≤ used_of s t page
  pub cells : used_of s t page ≤ page_cells

-- and a used one belongs to the control space or an open region
pub record PageWhole (s : Sizes) (t : List ℕ) (page : ℕ) : Type 0 where
  pub filled : PageFilled s t page
  pub region : 1 < owner_of s t page → Open s t (owner_of s t page)

-- a page of g that is partly filled
pub record Partial (s : Sizes) (t : List ℕ) (g page : ℕ) : Type 0 where
  pub owner : owner_of s t page ≡ g
  pub part : used_of s t page < page_cells

-- the objects of region g on a page, and on all pages
abbrev pub objects_on : Sizes → List ℕ → ℕ → ℕ → ℕ
objects_on s t g page = cond (eqb (owner_of s t page) g) (used_of s t page) 0

abbrev pub objects_of : Sizes → List ℕ → ℕ → ℕ
objects_of s t g = sum (objects_on s t g) s.pages

-- the objects of the regions 1 to n, by their counts, and of all regions
abbrev pub live_to : Sizes → List ℕ → ℕ → ℕ
live_to s t n = sum (λ i. count_of s t (suc i)) n

abbrev pub live_of : Sizes → List ℕ → ℕ
live_of s t = live_to s t (regions s)

-- null, or the name of an object
abbrev pub IsRef : Sizes → List ℕ → List ℕ → ℕ → Type 0
IsRef s c t x = 0 < x → Begins s c t (cell_named x)

-- the object at cell k has 01's form, word 0 counting no more fields than it may have and the words after them zero, and its references
-- are null or name objects
pub record ObjectWhole (s : Sizes) (c t : List ℕ) (k : ℕ) : Type 0 where
  pub head : Formed (head_of c k)
  pub rest : (f : ℕ) → f < room_for (head_of c k) → all_fields (head_of c k) ≤ f → field_of c k f ≡ 0
  pub references : (f : ℕ) → f < refs_of c k → IsRef s c t (field_of c k f)

-- an entry of a slot and a region names a crossing slot, with the right region
abbrev pub EntryWhole : Sizes → List ℕ → List ℕ → ℕ → ℕ → Type 0
EntryWhole s c t = EntryOf (cross_to s c t) (cells_words s)

-- the entries name crossing slots, by rising position (02, W3), and those that are not used are zero
abbrev pub EntriesWhole : Sizes → List ℕ → List ℕ → List ℕ → Type 0
EntriesWhole s c m t = EntriesOf (EntryWhole s c t) s.entries m

-- ---- the conditions, in 01's order

-- sizes are in range, N is the same in both places and the slices are long enough; every place is computed from s, and not from the words
pub record Sized (s : Sizes) (w : Words) : Type 0 where
  pub sizes : sizes_in w ≡ s
  pub range : InRange s
  pub same : get_or w.remember 0 0 ≡ s.entries
  pub cells : cells_words s ≤ length w.cells
  pub remember : remember_words s ≤ length w.remember
  pub tables : tables_words s ≤ length w.tables

abbrev pub DepthsWhole : Sizes → Words → Type 0
DepthsWhole s w = (t : ℕ) → t < s.threads → depth_in w t ≤ s.depth

abbrev pub PagesWhole : Sizes → Words → Type 0
PagesWhole s w = (page : ℕ) → page < s.pages → PageWhole s w.tables page

-- a region has at most one partly filled page
abbrev pub OnePartial : Sizes → Words → Type 0
OnePartial s w = (g : ℕ) → 1 ≤ g → (a b : ℕ) → a < b → b < s.pages → Partial s w.tables g a → Partial s w.tables g b → ⊥

abbrev pub CountsWhole : Sizes → Words → Type 0
CountsWhole s w = (g : ℕ) → 1 ≤ g → g ≤ regions s → count_of s w.tables g ≡ objects_of s w.tables g

abbrev pub VariablesWhole : Sizes → Words → Type 0
VariablesWhole s w = (i : ℕ) → i < var_count s → IsRef s w.cells w.tables (var_of s w.tables i)

abbrev pub ObjectsWhole : Sizes → Words → Type 0
ObjectsWhole s w = (k : ℕ) → BeginsIn s w k → ObjectWhole s w.cells w.tables k

-- working words, of pages and of objects, are zero
abbrev pub MarksWhole : Sizes → Words → Type 0
MarksWhole s w = (page : ℕ) → page < s.pages → mark_of s w.tables page ≡ 0

abbrev pub WorksWhole : Sizes → Words → Type 0
WorksWhole s w = (k : ℕ) → BeginsIn s w k → work_of w.cells k ≡ 0

-- the remember table names every crossing slot once, with the right region, and nothing else; by rising position (02, W3)
abbrev pub RememberWhole : Sizes → Words → Type 0
RememberWhole s w = Exact (cross_to s w.cells w.tables) (cells_words s) s.entries w.remember

-- cells that are not in use hold zero words (02, W1)
abbrev pub UnusedWhole : Sizes → Words → Type 0
UnusedWhole s w = (q : ℕ) → NotInUse s w.tables q → get_or w.cells q 0 ≡ 0

-- made less freed, modulo 4,294,967,296, is the sum of the object counts (02, W2)
abbrev pub CountersWhole : Sizes → Words → Type 0
CountersWhole s w = Leaves (counters_in s w) (live_of s w.tables)

pub record WholeFor (s : Sizes) (w : Words) : Type 0 where
  pub sized : Sized s w
  pub depths : DepthsWhole s w
  pub pages : PagesWhole s w
  pub partial : OnePartial s w
  pub counts : CountsWhole s w
  pub variables : VariablesWhole s w
  pub objects : ObjectsWhole s w
  pub marks : MarksWhole s w
  pub works : WorksWhole s w
  pub remember : RememberWhole s w
  pub unused : UnusedWhole s w
  pub counters : CountersWhole s w

abbrev pub WholeWords : Words → Type 0
WholeWords w = WholeFor (sizes_in w) w

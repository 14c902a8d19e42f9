-- Lent words, what is read from them, and the graph and the heap that they make.
use Rattle.std.specs.Prelude.{ℕ, ◌+◌, ◌*◌, ◌<◌, List, [], ◌≢◌, ◌≡◌, cond, length, take, drop}
use Rattle.lists.specs.Listed.{listed, length-listed, get_d-listed}
use Rattle.rules.specs.declared.Sizes.{Sizes}
use Rattle.rules.specs.NeverFreeing.{Object}
use Rattle.rules.specs.Graph.{Graph}
use Rattle.rules.specs.Pages.{Page, Pages, free_page, nth_page}
use Rattle.rules.specs.Rules.{Counters, Regioned}
use Rattle.layout.specs.declared.Kind.{Kind}
use Rattle.layout.specs.declared.Kind.TheVariants.{Reference, Number}
pub use Rattle.layout.specs.Objects.{InUse, Begins, begins_at, cell_count}
use Rattle.layout.specs.Places.{sizes_at, depth_at, var_at, depth_of, var_of, owner_of, used_of, made_of, freed_of}
use Rattle.layout.specs.Cells.{head_of, field_at, field_count, first_field, cell_named, page_of}

pub record Words : Type 0 where
  pub cells : List ℕ
  pub remember : List ℕ
  pub tables : List ℕ

-- three lent slices, as a contract names them
abbrev pub words : List ℕ → List ℕ → List ℕ → Words
words c m t = record { cells = c; remember = m; tables = t }

-- the tables by themselves, where nothing else is read
abbrev pub tables_only : List ℕ → Words
tables_only t = words [] [] t

abbrev pub sizes_in : Words → Sizes
sizes_in w = sizes_at w.tables

-- A name in At reads one list, so that a change of another leaves it as it is; the name in In reads the words.

-- ---- the tables

abbrev pub depth_in : Words → ℕ → ℕ
depth_in w t = depth_of w.tables t

abbrev pub var_in : Sizes → Words → ℕ → ℕ → ℕ
var_in s w t a = var_of s w.tables (t * s.variables + a)

abbrev pub owner_in : Sizes → Words → ℕ → ℕ
owner_in s w page = owner_of s w.tables page

abbrev pub used_in : Sizes → Words → ℕ → ℕ
used_in s w page = used_of s w.tables page

abbrev pub made_in : Sizes → Words → ℕ
made_in s w = made_of s w.tables

abbrev pub freed_in : Sizes → Words → ℕ
freed_in s w = freed_of s w.tables

-- the two counters
abbrev pub counters_in : Sizes → Words → Counters
counters_in s w = record { made = made_in s w; freed = freed_in s w }

-- the pages: owner and cells in use of each (02, W3)
abbrev pub page_in : Sizes → List ℕ → ℕ → Page
page_in s tables page = record { owner = owner_of s tables page; used = used_of s tables page }

unfoldable pub pages_at : Sizes → List ℕ → Pages
pages_at s tables = listed (page_in s tables) s.pages

abbrev pub pages_in : Sizes → Words → Pages
pages_in s w = pages_at s w.tables

module _ (s : Sizes) (tables : List ℕ) where
  pub pages-count : length (pages_at s tables) ≡ s.pages
  unfolding pages_at
  pages-count = length-listed (page_in s tables) s.pages

  pub page-there : (page : ℕ) → page < s.pages → nth_page (pages_at s tables) page ≡ page_in s tables page
  unfolding pages_at
  page-there page l = get_d-listed (page_in s tables) s.pages page free_page l

unfoldable pub depths_at : Sizes → List ℕ → List ℕ
depths_at s tables = take s.threads (drop (depth_at 0) tables)

abbrev pub depths_in : Sizes → Words → List ℕ
depths_in s w = depths_at s w.tables

unfoldable pub vars_at : Sizes → List ℕ → List ℕ
vars_at s tables = take (s.threads * s.variables) (drop (var_at s 0) tables)

abbrev pub vars_in : Sizes → Words → List ℕ
vars_in s w = vars_at s w.tables

-- ---- the cells

abbrev pub head_in : Words → ℕ → ℕ
head_in w c = head_of w.cells c

-- how many references and numbers the object in a cell has
abbrev pub ref_count : Words → ℕ → ℕ
ref_count w c = field_count Reference (head_in w c)

abbrev pub num_count : Words → ℕ → ℕ
num_count w c = field_count Number (head_in w c)

-- its fields of a kind
unfoldable pub fields_at : Kind → List ℕ → ℕ → List ℕ
fields_at k cells c = take (field_count k (head_of cells c)) (drop (field_at c (first_field k (head_of cells c))) cells)

abbrev pub fields_in : Kind → Words → ℕ → List ℕ
fields_in k w c = fields_at k w.cells c

abbrev pub refs_in : Words → ℕ → List ℕ
refs_in w c = fields_in Reference w c

abbrev pub nums_in : Words → ℕ → List ℕ
nums_in w c = fields_in Number w c

-- an object begins at cell c
abbrev pub BeginsIn : Sizes → Words → ℕ → Type 0
BeginsIn s w c = Begins s w.cells w.tables c

-- the region that the object at cell c lies in; a cell where none begins has home 0
unfoldable pub home_at : Sizes → List ℕ → List ℕ → ℕ → ℕ
home_at s cells tables c = cond (begins_at s cells tables c) (owner_of s tables (page_of c)) 0

abbrev pub home_in : Sizes → Words → ℕ → ℕ
home_in s w c = home_at s w.cells w.tables c

-- a reference is null or names a cell of the heap's pages
abbrev pub Names : Sizes → ℕ → Type 0
Names s x = x ≢ 0 → page_of (cell_named x) < s.pages

-- ---- the graph of the words: an object is the cell where it begins

abbrev pub graph_of : Sizes → Words → Graph
graph_of s w = record { count = cell_count s; home = home_in s w; refs = refs_in w; vars = vars_in s w }

-- ---- the heap of the words: one object for each cell, in that cell, freed where none begins

abbrev pub object_in : Words → ℕ → Object
object_in w c = record { refs = refs_in w c; nums = nums_in w c }

unfoldable pub heap_of : Sizes → Words → Regioned
heap_of s w =
    record {
      heap = record { depths = depths_in s w; vars = vars_in s w; objects = listed (object_in w) (cell_count s) };
      homes = listed (home_in s w) (cell_count s);
      counters = counters_in s w;
      occupancy = record { cells = listed (λ c. c) (cell_count s); pages = pages_in s w };
    }

-- The words of a heap (01, "Sizes and tables"; 02, W1 to W3 and W6): every lent word up to the four lengths. Nothing is left open.
use Rattle.std.specs.Prelude.{ℕ, zero, suc, List, [], ◌∷◌, ◌++◌, map, cond, length, get_or, drop, replicate}
use Rattle.lists.specs.Listed.{listed}
use Rattle.rules.specs.declared.Sizes.{Sizes}
use Rattle.rules.specs.NeverFreeing.{Object, no_object}
use Rattle.rules.specs.Regions.{regions}
use Rattle.rules.specs.Graph.{crosses, objects_in}
use Rattle.rules.specs.Rules.{Regioned, graph, home_of, object_cell, object_at}
use Rattle.layout.specs.Places.{cells_words, remember_words, tables_words, chains_words}
use Rattle.layout.specs.Cells.{head_word, cell_of, word_of}
use Rattle.layout.specs.Words.{Words}
use Rattle.remember.specs.Table.{Entry, table_of, named_by}
use Rattle.chains.specs.Chains.{chains_of}
use Rattle.promises.specs.Slices.{Slices}

-- a reference: 0 for null, else 1 + the cell of the object that it names
unfoldable pub ref_word : Regioned → ℕ → ℕ
ref_word h zero = 0
ref_word h (suc x) = suc (object_cell h x)

-- ---- the cells

-- the words of an object: word 0, working space, references, numbers, the rest zero
unfoldable pub object_word : Regioned → Object → ℕ → ℕ
object_word h o zero = head_word (length o.refs) (length o.nums)
object_word h o (suc zero) = 0
object_word h o (suc (suc f)) = get_or (map (ref_word h) o.refs ++ o.nums) f 0

-- word j of a cell with an object, which is given as 1 + its number; W1: every word of a cell without one is zero
abbrev pub word_with : Regioned → ℕ → ℕ → ℕ
word_with h zero j = 0
word_with h (suc x) j = object_word h (get_or h.heap.objects x no_object) j

abbrev pub cell_word : Regioned → ℕ → ℕ
cell_word h q = word_with h (object_at h (cell_of q)) (word_of q)

-- ---- the remember table

-- the region that a reference of object x crosses into, 0 if it does not
abbrev pub crossed : Regioned → ℕ → ℕ → ℕ
crossed h x zero = 0
crossed h x (suc y) = cond (crosses (graph h) (record { «from» = x; to = y })) (home_of h y) 0

-- the same of word j of a cell with that object: its references stand from word 2 on
abbrev pub crossed_with : Regioned → ℕ → ℕ → ℕ
crossed_with h zero j = 0
crossed_with h (suc x) zero = 0
crossed_with h (suc x) (suc zero) = 0
crossed_with h (suc x) (suc (suc f)) = crossed h x (get_or (get_or h.heap.objects x no_object).refs f 0)

-- the region that the slot at position q of the cells crosses into, 0 where none crosses
abbrev pub crossed_at : Regioned → ℕ → ℕ
crossed_at h q = crossed_with h (object_at h (cell_of q)) (word_of q)

-- the entries of its crossing slots
abbrev pub entries_of : Sizes → Regioned → List Entry
entries_of s h = named_by (crossed_at h) (cells_words s)

-- ---- all of them

unfoldable pub heap_words : Sizes → Regioned → Words
heap_words s h =
    record {
      cells = listed (cell_word h) (cells_words s);
      remember = table_of s.entries (entries_of s h);
      tables =
          (s.threads ∷ s.variables ∷ s.depth ∷ s.pages ∷ s.entries ∷ [])
          ++ (h.heap.depths
          ++ (map (ref_word h) h.heap.vars
          ++ (map (λ p. p.owner) h.occupancy.pages
          ++ (map (λ p. p.used) h.occupancy.pages
          ++ (replicate s.pages 0
          ++ (listed (λ i. objects_in (graph h) (suc i)) (regions s)
          ++ h.counters.made ∷ h.counters.freed ∷ []))))));
    }

-- with the chains of its entries (02, W6)
abbrev pub words_of : Sizes → Regioned → Slices
words_of s h = record { words = heap_words s h; chains = chains_of (regions s) s.entries (entries_of s h) }

-- the words of the heap, and past them what stood there
unfoldable pub laid : Sizes → Regioned → Words → Words
laid s h w =
    record {
      cells = (heap_words s h).cells ++ drop (cells_words s) w.cells;
      remember = (heap_words s h).remember ++ drop (remember_words s) w.remember;
      tables = (heap_words s h).tables ++ drop (tables_words s) w.tables;
    }

-- the same of all four slices
abbrev pub laid_slices : Sizes → Regioned → Slices → Slices
laid_slices s h l = record { words = laid s h l.words; chains = (words_of s h).chains ++ drop (chains_words s) l.chains }

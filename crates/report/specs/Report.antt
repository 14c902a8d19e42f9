-- The report (01, "The questions, in order"): rows stand by region number: thread, level, objects, pages, the control space as thread 0
-- level 0; then free pages and crossing slots; then objects made, objects freed and the total of live objects (02, W2).
use Rattle.std.specs.Prelude.{◌≡◌, ℕ, zero, suc, ◌+◌, ◌<◌, ◌≤◌, Bool, cond, ◌||◌, List, [], ◌∷◌, ◌++◌, map, length, drop, ◌==◌, nat_le, slice_index}
use Rattle.lists.specs.Members.{keep}
use Rattle.lists.specs.Listed.{listed}
use Rattle.rules.specs.declared.Sizes.{Sizes}
use Rattle.rules.specs.Regions.{thread_of, level_of, regions}
use Rattle.rules.specs.Graph.{crossing, pages_of, objects_in, free_pages}
use Rattle.rules.specs.Rules.{Regioned, graph}
use Rattle.layout.specs.Words.{Words, sizes_in, depths_in, heap_of}
use Rattle.chains.specs.Chains.{ChainsWhole}
use Rattle.promises.specs.Whole.{WholeWords}
use Rattle.promises.specs.Slices.{Slices, WholeSlices}
use Rattle.report.specs.declared.Row.{Row}
use Rattle.report.specs.declared.Reported.{Reported}

-- ---- the rows

-- region q is the control space, or its thread's depth reaches its level
unfoldable pub is_open : Sizes → List ℕ → ℕ → Bool
is_open s depths q = q == 1 || nat_le (level_of s q) (slice_index depths (thread_of s q))

-- the control space and each open region, by rising number
unfoldable pub open_regions : Sizes → List ℕ → List ℕ
open_regions s depths = keep (is_open s depths) (listed suc (regions s))

-- 01: a region of n objects uses n / 16 pages, rounded up (`pages_of`)
abbrev pub row_of : ℕ → ℕ → ℕ → Row
row_of thread level objects = record { thread = thread; level = level; objects = objects; pages = pages_of objects }

-- a region's row, with so many objects
abbrev pub row_with : Sizes → ℕ → ℕ → Row
row_with s q objects = cond (q == 1) (row_of 0 0 objects) (row_of (thread_of s q) (level_of s q) objects)

unfoldable pub rows : Sizes → Regioned → List Row
rows s h = map (λ q. row_with s q (objects_in (graph h) q)) (open_regions s h.heap.depths)

-- what stands for a row that is not there
abbrev pub no_row : Row
no_row = record { thread = 0; level = 0; objects = 0; pages = 0 }

-- the total of live objects: those of all rows
unfoldable pub total_of : List Row → ℕ
total_of [] = 0
total_of (r ∷ rs) = r.objects + total_of rs

-- ---- the questions 3, 16 and 15 in order, of a lent list of so many rows: q is the first that says no, 0 if none does

-- how many rows there are
abbrev pub row_count : Words → ℕ
row_count w = length (open_regions (sizes_in w) (depths_in (sizes_in w) w))

pub data ReportAsked (l : Slices) (room q : ℕ) : Type 0 where
  not_whole : q ≡ 3 → (WholeWords l.words → ⊥) → ReportAsked l room q
  other_chains : q ≡ 16 → WholeWords l.words → (ChainsWhole (sizes_in l.words) l.words.remember l.chains → ⊥) → ReportAsked l room q
  short : q ≡ 15 → WholeSlices l → room < row_count l.words → ReportAsked l room q
  accepted : q ≡ 0 → WholeSlices l → row_count l.words ≤ room → ReportAsked l room q

-- ---- the report, once the questions gave q

-- on refusal no row is written, and every figure is 0
abbrev pub refusing : ℕ → Reported
refusing q = record { number = q; rows = 0; free_pages = 0; crossing_slots = 0; made = 0; freed = 0; total = 0 }

-- the result of a report on the heap h
abbrev pub result_of : Sizes → Regioned → ℕ → Reported
result_of s h zero =
    record {
      number = 0;
      rows = length (rows s h);
      free_pages = free_pages s (graph h);
      crossing_slots = crossing (graph h);
      made = h.counters.made;
      freed = h.counters.freed;
      total = total_of (rows s h);
    }
result_of s h (suc q) = refusing (suc q)

-- and the rows that it leaves of those lent: its own, then the spare rows as they were; on refusal all of them as they were
abbrev pub left_of : Sizes → Regioned → List Row → ℕ → List Row
left_of s h lent zero = rows s h ++ drop (length (rows s h)) lent
left_of s h lent (suc q) = lent

-- the report on the slices l with lent rows gave r and left these rows, said of the heap that their words make
pub record Told (l : Slices) (lent : List Row) (r : Reported) (left : List Row) : Type 0 where
  pub asked : ReportAsked l (length lent) r.number
  pub result : r ≡ result_of (sizes_in l.words) (heap_of (sizes_in l.words) l.words) r.number
  pub rows_left : left ≡ left_of (sizes_in l.words) (heap_of (sizes_in l.words) l.words) lent r.number

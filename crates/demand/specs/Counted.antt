-- The two counters over every list of blocks (02, W2): how many objects the blocks made and freed, and that the tables and the report say so.
use Rattle.std.specs.Prelude.{ℕ, ◌+◌, ◌≡◌, List, [], ◌∷◌, cond, eqb}
use Rattle.std.proofs.Math.Decide.{ℕ_discrete}
use Rattle.lists.specs.Counting.{bit}
use Rattle.rules.specs.declared.Sizes.{Sizes}
use Rattle.rules.specs.declared.Command.{Command}
use Rattle.rules.specs.declared.Answer.{Answer}
use Rattle.rules.specs.NeverFreeing.{Effect, opens, ends, collects, makes, assigns, meaning_of}
use Rattle.rules.specs.Regions.{control, region_at}
use Rattle.rules.specs.Graph.{freed_by}
use Rattle.rules.specs.Rules.{counted, Leaves}
use Rattle.layout.specs.Words.{Words, sizes_in, depth_in, made_in, freed_in, counters_in, graph_of}
use Rattle.promises.specs.Whole.{live_of}
use Rattle.promises.specs.Slices.{Slices, WholeSlices}
use Rattle.promises.specs.Promises.{Chain, none, more, commands_in, answers_in, Ran}
use Rattle.report.specs.declared.Row.{Row}
use Rattle.report.specs.declared.Reported.{Reported}
use Rattle.report.specs.Report.{Told}
use Rattle.report.specs.Told.{Reports}
use Rattle.demand.specs.DemandThree.{Block, Runs, stop, next}

-- ---- made

-- a command of code 3 that was done makes one object
unfoldable pub made_one : Command → Answer → ℕ
made_one m a = cond (eqb a.number 0) (bit (eqb m.code 3)) 0

-- by commands, with their answers beside them
unfoldable pub made_by : List Command → List Answer → ℕ
made_by [] as' = 0
made_by (m ∷ ms) [] = 0
made_by (m ∷ ms) (a ∷ as') = made_one m a + made_by ms as'

-- by the blocks that were not refused
unfoldable pub objects_made : List Block → ℕ
objects_made [] = 0
objects_made (b ∷ bs) = cond (eqb b.number 0) (made_by (commands_in b.block) (answers_in b.block b.answers)) 0 + objects_made bs

-- ---- freed

-- by what a command of thread t does on w: an end frees the objects of the thread's innermost region that have no target, a collection those of the
-- control space
unfoldable pub freed_on : Sizes → Words → ℕ → Effect → ℕ
freed_on s w t opens = 0
freed_on s w t ends = freed_by s (graph_of s w) (region_at s t (depth_in w t))
freed_on s w t collects = freed_by s (graph_of s w) control
freed_on s w t (makes a b c) = 0
freed_on s w t (assigns x) = 0

-- by a command on w, if it was done
unfoldable pub freed_one : Sizes → Words → Command → Answer → ℕ
freed_one s w m a = cond (eqb a.number 0) (freed_on s w m.thread (meaning_of m).effect) 0

-- through the commands of a block, each on the words that the last one left
unfoldable pub freed_through : (s : Sizes) {w w' : Words} {ms : List Command} {as' : List Answer} → Chain s w ms as' w' → ℕ
freed_through s none = 0
freed_through s (more {w = w} {m = m} {a = a} did rest) = freed_one s w m a + freed_through s rest

-- by a block, if it was not refused
unfoldable pub freed_run : {l : Slices} (b : Block) → Ran l b.block b.lent b.number b.left b.answers → Dec (b.number ≡ 0) → ℕ
freed_run {l} b ran (yes e) = freed_through (sizes_in l.words) (ran.obeyed e)
freed_run b ran (no n) = 0

unfoldable pub objects_freed : {l l' : Slices} {bs : List Block} → Runs l bs l' → ℕ
objects_freed stop = 0
objects_freed (next {b = b} ran rest) = freed_run b ran (ℕ_discrete b.number 0) + objects_freed rest

-- ---- the claim, of the slices l that prepare wrote, the blocks bs, and the slices l' at the end

pub record Counted (s : Sizes) {l l' : Slices} {bs : List Block} (runs : Runs l bs l') : Type 0 where
  -- the stored made is the number of code 3 commands that were done, the stored freed the number of objects that the ends and collections that were
  -- done freed
  pub made : made_in s l'.words ≡ counted (objects_made bs)
  pub freed : freed_in s l'.words ≡ counted (objects_freed runs)
  -- made less freed is the sum of the object counts
  pub live : Leaves (counters_in s l'.words) (live_of s l'.words.tables)
  -- no report is refused for the state of the slices, and one that is not refused says the same
  pub whole : WholeSlices l'
  pub report : (lent : List Row) (r : Reported) (left : List Row) → Told l' lent r left → r.number ≡ 0 → Reports (counted (objects_made bs)) (counted (objects_freed runs)) r left

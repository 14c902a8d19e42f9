-- What the program prints for every input (01, "The program"; 02, W2), by the region rules alone: nothing here knows of words, blocks or pieces.
use Rattle.std.specs.Prelude.{ℕ, ◌+◌, List, [], ◌∷◌, ◌++◌, Bool, cond, ◌&&◌, get_or, leb}
use Rattle.rules.specs.declared.Sizes.{Sizes}
use Rattle.rules.specs.declared.Command.{Command}
use Rattle.rules.specs.declared.Answer.{Answer}
use Rattle.rules.specs.Graph.{crossing, free_pages}
use Rattle.rules.specs.Rules.{Regioned, graph, unused, step}
use Rattle.report.specs.declared.Row.{Row}
use Rattle.report.specs.Report.{rows, total_of}
use Rattle.script.specs.Text.{Line}
use Rattle.std.specs.Prelude.{Ok, Err}
use Rattle.script.specs.Text.{text_says}
use Rattle.script.specs.Writing.{row, sizes_line, line_line}

-- ---- what a line asks for

abbrev pub sizes : ℕ → ℕ → ℕ → ℕ → ℕ → Sizes
sizes threads variables depth pages entries = record { threads = threads; variables = variables; depth = depth; pages = pages; entries = entries }

abbrev pub command : ℕ → ℕ → ℕ → ℕ → ℕ → Command
command code thread a b c = record { code = code; thread = thread; a = a; b = b; c = c }

-- by the five numbers of a line
abbrev pub sizes_of : List ℕ → Sizes
sizes_of ns = sizes (get_or ns 0 0) (get_or ns 1 0) (get_or ns 2 0) (get_or ns 3 0) (get_or ns 4 0)

abbrev pub command_of : List ℕ → Command
command_of ns = command (get_or ns 0 0) (get_or ns 1 0) (get_or ns 2 0) (get_or ns 3 0) (get_or ns 4 0)

abbrev pub between : ℕ → ℕ → ℕ → Bool
between low n high = leb low n && leb n high

-- the sizes in range, here with at most 32 pages and 1,024 remember entries
unfoldable pub accepted : Sizes → Bool
accepted s =
    between 1 s.threads 16 && (between 1 s.variables 32 && (between 1 s.depth 8 && (between 1 s.pages 32 && between 0 s.entries 1024)))

-- ---- the report

abbrev pub row_text : Row → List ℕ
row_text r = row (r.thread ∷ r.level ∷ r.objects ∷ r.pages ∷ [])

-- the rows, one after the other
unfoldable pub rows_text : List Row → List ℕ
rows_text [] = []
rows_text (r ∷ rs) = row_text r ++ rows_text rs

-- the report's rows, then free pages and crossing slots, then objects made, objects freed and the total of live objects
unfoldable pub reported : Sizes → Regioned → List ℕ
reported s h = rows_text (rows s h) ++ row (free_pages s (graph h) ∷ crossing (graph h) ∷ [])
    ++ row (h.counters.made ∷ h.counters.freed ∷ total_of (rows s h) ∷ [])

-- ---- line by line

-- the program waits for the sizes, or it obeys commands and line k is the next, or a line has stopped it
pub data Session : Type 0 where
  opening : Session
  running : Sizes → Regioned → ℕ → Session
  stopped : Session

-- an answer's line
abbrev pub answer_text : Answer → List ℕ
answer_text a = row (a.number ∷ a.value ∷ [])

-- a line takes the program on
unfoldable pub takes : Session → Line → Session
takes opening (Ok ns) = cond (accepted (sizes_of ns)) (running (sizes_of ns) (unused (sizes_of ns)) 2) stopped
takes opening (Err e) = stopped
takes (running s h k) (Ok ns) = running s (step s h (command_of ns)).next (k + 1)
takes (running s h k) (Err e) = stopped
takes stopped l = stopped

-- and it prints
unfoldable pub prints : Session → Line → List ℕ
prints opening (Ok ns) = cond (accepted (sizes_of ns)) [] sizes_line
prints opening (Err e) = sizes_line
prints (running s h k) (Ok ns) = answer_text (step s h (command_of ns)).answer
prints (running s h k) (Err e) = line_line k
prints stopped l = []

unfoldable pub takes_all : Session → List Line → Session
takes_all x [] = x
takes_all x (l ∷ ls) = takes_all (takes x l) ls

unfoldable pub prints_all : Session → List Line → List ℕ
prints_all x [] = []
prints_all x (l ∷ ls) = prints x l ++ prints_all (takes x l) ls

-- at the end of the input
unfoldable pub ends_with : Session → List ℕ
ends_with opening = sizes_line
ends_with (running s h k) = reported s h
ends_with stopped = []

-- What the program prints for these bytes.
unfoldable pub printed : List ℕ → List ℕ
printed text = let ls = text_says text in prints_all opening ls ++ ends_with (takes_all opening ls)

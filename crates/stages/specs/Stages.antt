-- What each stage of the code promises: it is where the machine of Pieces is, and writes what that prints.
use Rattle.std.specs.Prelude.{ℕ, ◌*◌, ◌+◌, ◌/◌, ◌≤◌, ◌≡◌, List, Bool, true, false, not, length}
use Rattle.promises.specs.Slices.{Slices}
use Rattle.script.specs.declared.Reader.{Reader}
use Rattle.script.specs.declared.Filled.{Filled}
use Rattle.script.specs.declared.Filled.TheVariants.{Done, Full, Broken}
use Rattle.script.specs.Reading.{fresh}
use Rattle.script.specs.Writing.{Put, line_line}
use Rattle.script.specs.TextLaws.{found}
use Rattle.printed.specs.Printed.{Session, opening, running, stopped}
use Rattle.printed.specs.Pieces.{Machine, feed, feed_prints, missing, close_prints}
use Rattle.lines.specs.Lines.{Lent, Holds, LinesChange}
use Rattle.stages.specs.declared.Stage.{Stage}
use Rattle.stages.specs.declared.Stage.TheVariants.{Opening, Running, Stopped}
use Rattle.stages.specs.declared.Fed.{Fed}

-- ---- where the code stands

unfoldable pub stage_of : Reader → Session → Stage
stage_of r opening = Opening r
stage_of r (running s h k) = Running r k
stage_of r stopped = Stopped

-- the code at this stage, with these slices, is where machine m is
pub record At (m : Machine) (stage : Stage) (l : Slices) : Type 0 where
  pub stage_is : stage ≡ stage_of m.reader m.session
  pub lent : Lent l
  pub holds : Holds m.session l

-- so is a machine
abbrev pub Placed : Stage → Slices → Type 0
Placed stage l = (m : Machine) × At m stage l

-- the number of the line that is next or has begun
abbrev pub line_of : Stage → ℕ
line_of (Opening r) = 1
line_of (Running r k) = k
line_of Stopped = 0

abbrev pub stopped_at : Stage → Bool
stopped_at (Opening r) = false
stopped_at (Running r k) = false
stopped_at Stopped = true

-- a line has begun
abbrev pub begun_at : Stage → Bool
begun_at (Opening r) = not (fresh r)
begun_at (Running r k) = not (fresh r)
begun_at Stopped = false

-- ---- a piece

-- a piece was fed to machine m: the code is where the machine is then, what that prints stands at the start of the buffer, and the slices
-- changed line by line
pub record Feeds (m : Machine) (bytes : List ℕ) (l : Slices) (out : List ℕ) (x : Fed) (after : List ℕ) (l' : Slices) : Type 0 where
  pub is_at : At (feed m bytes) x.stage l'
  pub text : Put out 0 (feed_prints m bytes) after x.length
  pub changes : LinesChange m.session (found m.reader bytes) l l'

-- how many bytes a piece of n bytes prints at most: an answer for each command, of which a piece of 16,384 bytes has 1,639, and a message
abbrev pub most_printed : ℕ → ℕ
most_printed n = 22 * ((n + 9) / 10) + 26

pub record Room (text out : List ℕ) : Type 0 where
  pub piece : length text ≤ 16384
  pub text-room : most_printed (length text) ≤ length out

-- what was read of a piece takes the program on after its block, with line `next` to come and the answers ending at `end`: the piece has no
-- other line, or a malformed one, which is told after the answers, or the block was full
pub data Proceeds (x : Filled) (next end : ℕ) (out : List ℕ) (fed : Fed) (after : List ℕ) : Type 0 where
  onward : {rest : Reader} {used : ℕ} → x ≡ Done rest used → fed ≡ record { stage = Running rest next; length = end } → after ≡ out
      → Proceeds x next end out fed after
  malformed : {used : ℕ} → x ≡ Broken used → fed.stage ≡ Stopped → Put out end (line_line next) after fed.length → Proceeds x next end out fed after
  filled : {from used : ℕ} → x ≡ Full from used → fed ≡ record { stage = Stopped; length = 0 } → after ≡ out → Proceeds x next end out fed after

-- ---- the end of the input

-- the input of machine m has ended: what it prints then stands at the start of the buffer, the slices hold its heap, and only a last
-- line without its line feed has changed them
pub record Closes (m : Machine) (l : Slices) (out : List ℕ) (end : ℕ) (after : List ℕ) (l' : Slices) : Type 0 where
  pub text : Put out 0 (close_prints m) after end
  pub lent : Lent l'
  pub holds : Holds (feed m (missing m)).session l'
  pub changes : LinesChange m.session (found m.reader (missing m)) l l'

-- What a turn of the loop promises, and what the loop promises of all its turns.
use Rattle.std.specs.Prelude.{ℕ, ◌≤◌, ◌≡◌, Bool, true, false, cond, Result, Ok, Err, length, take}
use mathlib.Core.List.{List, [], ◌∷◌, flatten}
use Rattle.promises.specs.Slices.{Slices}
use Rattle.printed.specs.Printed.{printed}
use Rattle.printed.specs.Pieces.{Machine}
use Rattle.stages.specs.declared.Stage.{Stage}
use Rattle.stages.specs.declared.Stage.TheVariants.{Stopped}
use Rattle.stages.specs.declared.Fed.{Fed}
use Rattle.stages.specs.Stages.{At, stopped_at, Feeds, Closes}
use Rattle.stream.specs.declared.Unread as unread_piece
use Rattle.stream.specs.declared.Ending.{Ending}
use Rattle.stream.specs.declared.Ending.TheVariants.{More, Finished, Unread, Unwritten}
use Rattle.stream.specs.declared.Outcome.{Outcome}
use Rattle.stream.specs.declared.Served.{Served}

-- the buffers: a piece of 16,384 bytes at most, and room for what it prints
pub record Buffers (text out : List ℕ) : Type 0 where
  pub piece-room : length text ≡ 16384
  pub text-room : length out ≡ 36084

-- how many bytes a piece has
abbrev pub within : Result ℕ unread_piece.Unread → ℕ
within (Ok n) = n
within (Err e) = 0

-- how a turn ends whose read did not fail, by the stage after it and by whether the write took everything
abbrev pub ending_of : Stage → Bool → Ending
ending_of s taken = cond taken (cond (stopped_at s) Finished More) Unwritten

abbrev pub goes_on : Ending → Bool
goes_on More = true
goes_on Finished = false
goes_on Unread = false
goes_on Unwritten = false

-- a piece was fed to machine m, or, if it is empty, the input has ended
unfoldable pub Advances : Machine → List ℕ → Slices → List ℕ → Fed → List ℕ → Slices → Type 0
Advances m [] l out x after l' = Closes m l out x.length after l' × (x.stage ≡ Stopped)
Advances m (b ∷ bs) l out x after l' = Feeds m (b ∷ bs) l out x after l'

-- A turn from a stage, the slices l and the buffer out: the read failed and nothing else was done; or the first bytes of the text were fed to
-- the machine that the program was at, and what this prints is the first bytes of the buffer, those that were handed to the write.
pub data Turned (stage : Stage) (l : Slices) (out : List ℕ) (t : Outcome) (text after : List ℕ) (l' : Slices) : Type 0 where
  unread : t.ending ≡ Unread → t.read ≡ 0 → t.printed ≡ 0 → l' ≡ l → after ≡ out → Turned stage l out t text after l'
  moved : (taken : Bool) → t.ending ≡ ending_of t.stage taken
      → ((m : Machine) → At m stage l → Advances m (take t.read text) l out (record { stage = t.stage; length = t.printed }) after l')
      → Turned stage l out t text after l'

-- All turns: pieces were fed one after the other, as many bytes as they have were read, and no more bytes than `printed` says of them were
-- handed to the write, but all of these if the program finished; and the loop gives up only after 2^48 turns, each of which fed a byte at least.
pub record Serves (x : Served) : Type 0 where
  pub pieces : List (List ℕ)
  pub read_all : x.read ≡ length (flatten pieces)
  pub no_more : x.printed ≤ length (printed (flatten pieces))
  pub all-printed : x.ending ≡ Finished → x.printed ≡ length (printed (flatten pieces))
  pub given-up : x.ending ≡ More → 281474976710656 ≤ x.read

-- What the reader does with one byte, and with the end of the input. TextLaws shows that it reads every text as Text says.
use Rattle.std.specs.Prelude.{ℕ, ◌+◌, ◌*◌, ◌-◌, List, [], ◌∷◌, Bool, true, false, cond, not, ◌&&◌, eqb, ltb}
use Rattle.script.specs.Text.{Line, numbers, malformed_line}
use Rattle.script.specs.declared.Reader.{Reader}
use Rattle.script.specs.declared.Step.{Step}
use Rattle.script.specs.declared.Step.TheVariants.{More, Ended}
use Rattle.std.specs.Prelude.{Option, None, Some, is_some, unwrap_or}
use Rattle.script.specs.declared.Scan.{Scan}
use Rattle.script.specs.declared.Scan.TheVariants.{Open, Found}
use Rattle.script.specs.Text.{is_digit}

-- at the start of a line
abbrev pub started : Reader
started = record { first = 0; second = 0; third = 0; fourth = 0; complete = 0; number = None; malformed = false }

-- in a line that is malformed, whatever follows
abbrev pub spoilt : Reader
spoilt = record { first = 0; second = 0; third = 0; fourth = 0; complete = 0; number = None; malformed = true }

-- its number has a digit, and is this one then
abbrev pub digits : Reader → Bool
digits r = is_some r.number

abbrev pub number : Reader → ℕ
number r = unwrap_or r.number 0

-- its number is complete
abbrev pub completed : Reader → Reader
completed r =
    record { first = r.second; second = r.third; third = r.fourth; fourth = number r; complete = r.complete + 1; number = None; malformed = r.malformed }

-- its number is this one now
abbrev pub numbering : Reader → ℕ → Reader
numbering r n =
    record { first = r.first; second = r.second; third = r.third; fourth = r.fourth; complete = r.complete; number = Some n; malformed = r.malformed }

-- after a space, which completes one of the first four numbers
unfoldable pub spaced : Reader → Reader
spaced r = cond (digits r && ltb r.complete 4) (completed r) spoilt

-- after a digit of this value
unfoldable pub digited : Reader → ℕ → Reader
digited r d = cond (ltb (10 * (number r) + d) 4_294_967_296) (numbering r (10 * (number r) + d)) spoilt

-- after a byte of the line
unfoldable pub next_of : Reader → ℕ → Reader
next_of r b = cond (eqb b 32) (spaced r) (cond (is_digit b) (digited r (b - 48)) spoilt)

-- at the end of the line
unfoldable pub end_of : Reader → Line
end_of r =
    cond (not r.malformed && (digits r && eqb r.complete 4)) (numbers r.first r.second r.third r.fourth (number r)) malformed_line

-- after any byte
unfoldable pub step_of : Reader → ℕ → Step
step_of r b = cond (eqb b 10) (Ended (end_of r)) (More (next_of r b))

-- no byte of the line is read yet
unfoldable pub fresh : Reader → Bool
fresh r = not r.malformed && (not (digits r) && eqb r.complete 0)

-- at the end of the input
unfoldable pub last_of : Reader → Option Line
last_of r = cond (fresh r) None (Some (end_of r))

-- after these bytes, which begin at this position: up to the first line that ends among them
unfoldable pub scanned : Reader → List ℕ → ℕ → Scan
scanned r [] at = Open r
scanned r (b ∷ bs) at = elim (step_of r b) [ More s ↦ scanned s bs (at + 1) | Ended l ↦ Found l (at + 1) ]

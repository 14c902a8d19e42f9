-- What `filled` does at one byte, case by case, as the code tells the cases apart; and lines one after the other.
use Rattle.std.specs.Prelude.{ℕ, ◌+◌, ◌*◌, ◌<◌, ◌≤◌, length, get_or}
use mathlib.Core.List.{List, [], ◌∷◌}
use Rattle.std.proofs.Common.{sym, arith, add-zero, add-one, length-append}
use Rattle.std.proofs.Math.Path.{ap}
use Rattle.std.proofs.Math.Seq.{paste-zero}
use Rattle.script.specs.Writing.{row, Put}
use Rattle.script.proofs.WritingLaws.{word-length, put-put, put-text}
use Rattle.script.specs.Blocks.{stacked, answer_line}

pub two-length : (a b : ℕ) → a < 4_294_967_296 → b < 4_294_967_296 → length (row (a ∷ b ∷ [])) ≤ 22
unfolding row
two-length a b la lb = simp length-append (omega (arith, word-length a la, word-length b lb))

pub stack-none : (line : ℕ → List ℕ) (bytes : List ℕ) (at : ℕ) → Put bytes at (stacked line 0) bytes at
unfolding stacked
stack-none line bytes at = record { bytes-are = paste-zero bytes at []; end_is = sym (add-zero at) }

-- the line of one more answer
module _ (words : List ℕ) {bytes now after : List ℕ} {at end last : ℕ} (i : ℕ)
    (number : get_or words (2 * i) 0 < 4_294_967_296) (value : get_or words (2 * i + 1) 0 < 4_294_967_296)
    (low : end ≤ at + 22 * i) (room : at + 22 * (i + 1) ≤ length bytes)
    (p : Put bytes at (stacked (answer_line words) i) now end) (q : Put now end (answer_line words i) after last) where
  pub stack-end : last ≤ at + 22 * (i + 1)
  stack-end = omega (arith, q.end_is, two-length (get_or words (2 * i) 0) (get_or words (2 * i + 1) 0) number value)

  pub stack-answer : Put bytes at (stacked (answer_line words) (i + 1)) after last
  unfolding stacked
  stack-answer =
      put-text (ap (stacked (answer_line words)) (sym (add-one i)))
      (put-put (omega (arith, p.end_is, two-length (get_or words (2 * i) 0) (get_or words (2 * i + 1) 0) number value)) p q)

-- What a text means (01, "The program"): its lines, and the five numbers of a line. Bytes are numbers: 10 is the line feed, 32 the
-- space, 48 to 57 are the digits.
use Rattle.std.specs.Prelude.{ℕ, ◌+◌, ◌*◌, ◌-◌, List, [], ◌∷◌, map, Bool, true, false, cond, ◌&&◌, length, get_or, eqb, leb, ltb}
use Rattle.std.specs.Prelude.{Result, Ok, Err}
use Rattle.script.specs.declared.Malformed.{Malformed}

-- a byte in front of the first of some lists
unfoldable pub onto : ℕ → List (List ℕ) → List (List ℕ)
onto b [] = (b ∷ []) ∷ []
onto b (l ∷ ls) = (b ∷ l) ∷ ls

-- The lines of a text, without their line feeds. A line feed ends a line; the last one may be missing. What 01 leaves open is taken
-- literally: after a last line feed no further line begins, so an empty text has no line, and a line feed alone is one empty line.
unfoldable pub lines : List ℕ → List (List ℕ)
lines [] = []
lines (b ∷ bs) = cond (eqb b 10) ([] ∷ lines bs) (onto b (lines bs))

-- The parts of a line between single spaces: one more than there are spaces, so a space at either end, or two in a row, make an empty
-- part.
unfoldable pub parts : List ℕ → List (List ℕ)
parts [] = [] ∷ []
parts (b ∷ bs) = cond (eqb b 32) ([] ∷ parts bs) (onto b (parts bs))

-- ---- numbers

abbrev pub is_digit : ℕ → Bool
is_digit b = leb 48 b && leb b 57

unfoldable pub digits_only : List ℕ → Bool
digits_only [] = true
digits_only (b ∷ p) = is_digit b && digits_only p

-- the value of digits that follow a number
unfoldable pub value_from : ℕ → List ℕ → ℕ
value_from n [] = n
value_from n (b ∷ p) = value_from (10 * n + (b - 48)) p

abbrev pub value : List ℕ → ℕ
value p = value_from 0 p

abbrev pub some : List ℕ → Bool
some [] = false
some (b ∷ p) = true

-- 01: a number is one or more decimal digits with a value below 4,294,967,296; so zeros may lead, as many as there are
abbrev pub is_number : List ℕ → Bool
is_number p = some p && (digits_only p && ltb (value p) 4_294_967_296)

unfoldable pub numbers_only : List (List ℕ) → Bool
numbers_only [] = true
numbers_only (p ∷ ps) = is_number p && numbers_only ps

-- ---- lines

-- what a line says: five numbers, or it is malformed
abbrev pub Line : Type 0
Line = Result (List ℕ) Malformed

abbrev pub numbers : ℕ → ℕ → ℕ → ℕ → ℕ → Line
numbers a b c d e = Ok (a ∷ b ∷ c ∷ d ∷ e ∷ [])

abbrev pub malformed_line : Line
malformed_line = Err (record {})

abbrev pub numbered : List ℕ → Line
numbered ns = numbers (get_or ns 0 0) (get_or ns 1 0) (get_or ns 2 0) (get_or ns 3 0) (get_or ns 4 0)

-- what a line says: it is five numbers, or malformed
abbrev pub parts_say : List (List ℕ) → Line
parts_say ps = cond (numbers_only ps && eqb (length ps) 5) (numbered (map value ps)) malformed_line

abbrev pub says : List ℕ → Line
says l = parts_say (parts l)

-- what a text says, line by line
abbrev pub text_says : List ℕ → List Line
text_says text = map says (lines text)

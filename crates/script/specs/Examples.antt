-- Texts and what they say: a row for each rule of the format.
use Rattle.std.specs.Prelude.{ℕ, List, [], ◌∷◌, ◌++◌, map, ◌≡◌, refl}
use Rattle.script.specs.Text.{Line, numbers, malformed_line}
use Rattle.script.specs.Text.{onto, lines, parts, digits_only, value_from, numbers_only, text_says}
use Rattle.script.specs.Writing.{spelt, decimal}

-- `1 2 3 4 5` and `1 2 3 4`
abbrev pub five : List ℕ
five = 49 ∷ 32 ∷ 50 ∷ 32 ∷ 51 ∷ 32 ∷ 52 ∷ 32 ∷ 53 ∷ []

abbrev pub four : List ℕ
four = 49 ∷ 32 ∷ 50 ∷ 32 ∷ 51 ∷ 32 ∷ 52 ∷ []

abbrev pub said : Line
said = numbers 1 2 3 4 5

abbrev pub table : List (List ℕ × List Line)
table =
    -- nothing, and an empty line
    ([], [])
    ∷ (10 ∷ [], malformed_line ∷ [])
    -- a line, its line feed missing, two lines, an empty line at the end
    ∷ (five ++ (10 ∷ []), said ∷ [])
    ∷ (five, said ∷ [])
    ∷ (five ++ (10 ∷ five), said ∷ said ∷ [])
    ∷ (five ++ (10 ∷ 10 ∷ []), said ∷ malformed_line ∷ [])
    -- four numbers, six, and a line that goes on after a malformed one
    ∷ (four, malformed_line ∷ [])
    ∷ (five ++ (32 ∷ 54 ∷ []), malformed_line ∷ [])
    ∷ (four ++ (10 ∷ five), malformed_line ∷ said ∷ [])
    -- a space before, behind, two between
    ∷ (32 ∷ five, malformed_line ∷ [])
    ∷ (five ++ (32 ∷ []), malformed_line ∷ [])
    ∷ (four ++ (32 ∷ 32 ∷ 53 ∷ []), malformed_line ∷ [])
    -- a carriage return, a sign, a tab
    ∷ (five ++ (13 ∷ 10 ∷ []), malformed_line ∷ [])
    ∷ (43 ∷ five, malformed_line ∷ [])
    ∷ (four ++ (9 ∷ 53 ∷ []), malformed_line ∷ [])
    -- leading zeros, the largest number, one more, one of more digits
    ∷ (48 ∷ 48 ∷ 48 ∷ 48 ∷ 48 ∷ 48 ∷ 48 ∷ 48 ∷ 48 ∷ 48 ∷ 48 ∷ 48 ∷ five, said ∷ [])
    ∷ (four ++ (32 ∷ decimal 4_294_967_295), numbers 1 2 3 4 4_294_967_295 ∷ [])
    ∷ (four ++ (32 ∷ decimal 4_294_967_296), malformed_line ∷ [])
    ∷ (four ++ (32 ∷ decimal 10_000_000_000), malformed_line ∷ [])
    ∷ []

pub examples : map (λ (e : List ℕ × List Line). text_says e.0) table ≡ map (λ (e : List ℕ × List Line). e.1) table
unfolding onto lines parts digits_only value_from numbers_only spelt
examples = refl

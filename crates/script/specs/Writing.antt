-- The text that the program prints (01, "The program"): numbers in decimal, lines of them, and the two messages.
use Rattle.std.specs.Prelude.{ℕ, zero, suc, ◌+◌, ◌/◌, ◌%◌, List, [], ◌∷◌, ◌++◌, true, false, ◌≡◌, length, take, drop, ltb}

-- the digits of a number that has no more than this many, without leading zeros
unfoldable pub spelt : ℕ → ℕ → List ℕ
spelt zero n = []
spelt (suc most) n = elim (ltb n 10) [ true ↦ (48 + n) ∷ [] | false ↦ spelt most (n / 10) ++ ((48 + n % 10) ∷ []) ]

-- a number in decimal: it has no more digits than one more than itself
abbrev pub decimal : ℕ → List ℕ
decimal n = spelt (suc n) n

-- a line of numbers, with single spaces
unfoldable pub row : List ℕ → List ℕ
row [] = 10 ∷ []
row (n ∷ ns) = decimal n ++ elim ns [ [] ↦ 10 ∷ [] | m ∷ ms ↦ 32 ∷ row ns ]

-- `sizes` and `line k`
abbrev pub sizes_line : List ℕ
sizes_line = 115 ∷ 105 ∷ 122 ∷ 101 ∷ 115 ∷ 10 ∷ []

abbrev pub line_line : ℕ → List ℕ
line_line k = 108 ∷ 105 ∷ 110 ∷ 101 ∷ 32 ∷ row (k ∷ [])

-- bytes with a text in the place of those from a position on
abbrev pub written : List ℕ → ℕ → List ℕ → List ℕ
written bytes at text = take at bytes ++ text ++ drop (at + length text) bytes

-- a text was put at a position: the bytes before it and after it stay, and the end of it is known
pub record Put (bytes : List ℕ) (at : ℕ) (text : List ℕ) (after : List ℕ) (end : ℕ) : Type 0 where
  pub bytes-are : after ≡ written bytes at text
  pub end_is : end ≡ at + length text

-- The first words of the entries from a place on, and the next words of all.
use Rattle.std.specs.Prelude.{ℕ, suc, ◌+◌, ◌<◌, List, ◌≡◌, length, get_or}
use Rattle.remember.specs.Table.{Entry}
use Rattle.chains.specs.Firsts.{first_from, next_of}

-- the first words of w are those of the entries from place i on
abbrev pub Firsts : ℕ → List Entry → ℕ → List ℕ → Type 0
Firsts R es i w = (r : ℕ) → r < R → get_or w r 0 ≡ first_from (suc r) es i

-- the next words of all entries are right
abbrev pub NextsAgree : ℕ → List Entry → List ℕ → Type 0
NextsAgree R es f = (j : ℕ) → j < length es → get_or f (R + j) 0 ≡ next_of es j

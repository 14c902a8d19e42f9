-- Blocks of commands from the bytes of a buffer, and the answers to a block as text.
use Rattle.std.specs.Prelude.{ℕ, zero, suc, ◌+◌, ◌*◌, List, [], ◌∷◌, ◌++◌, cond, ◌≡◌, length, get_or, set, ltb}
use Rattle.std.specs.Prelude.{Ok, Err}
use Rattle.script.specs.declared.Reader.{Reader}
use Rattle.script.specs.declared.Step.TheVariants.{More, Ended}
use Rattle.script.specs.declared.Filled.{Filled}
use Rattle.script.specs.declared.Filled.TheVariants.{Done, Full, Broken}
use Rattle.script.specs.Reading.{started, step_of}
use Rattle.script.specs.Writing.{row}

-- five words of a block
abbrev pub words_put : List ℕ → ℕ → List ℕ → List ℕ
words_put block n ns =
    set (set (set (set (set block n (get_or ns 0 0)) (n + 1) (get_or ns 1 0)) (n + 2) (get_or ns 2 0)) (n + 3) (get_or ns 3 0)) (n + 4) (get_or ns 4 0)

-- The bytes that begin at a position, read into a block that has n words already: what stopped it, and the block.
unfoldable pub filled : Reader → List ℕ → ℕ → List ℕ → ℕ → Filled × List ℕ
filled r [] at block n = (Done r n, block)
filled r (x ∷ xs) at block n =
    elim (step_of r x) [
      | More s ↦ filled s xs (at + 1) block n
      | Ended l ↦ elim l [
        | Ok ns ↦
            cond (ltb (length block) (n + 5 + 5))
            (Full (at + 1) (n + 5), words_put block n ns)
            (filled started xs (at + 1) (words_put block n ns) (n + 5))
        | Err e ↦ (Broken n, block)
      ]
    ]

pub record Took (r : Reader) (bytes : List ℕ) (at : ℕ) (block : List ℕ) (n : ℕ) (x : Filled) (after : List ℕ) : Type 0 where
  pub answer : x ≡ (filled r bytes at block n).0
  pub words : after ≡ (filled r bytes at block n).1

-- lines one after the other
unfoldable pub stacked : (ℕ → List ℕ) → ℕ → List ℕ
stacked line zero = []
stacked line (suc k) = stacked line k ++ line k

-- the line of answer i: two words each
abbrev pub answer_line : List ℕ → ℕ → List ℕ
answer_line words i = row (get_or words (2 * i) 0 ∷ get_or words (2 * i + 1) 0 ∷ [])

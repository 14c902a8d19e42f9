-- The marks of survivors: of those that wait, and of those that are copied. T is the tables.
use Rattle.std.specs.Prelude.{◌≡◌, ◌≢◌, List, ℕ, ◌+◌, ◌-◌, ◌^◌}
use Rattle.std.proofs.Common.{◌∙◌, arith}
use Rattle.lists.specs.Bits.{bit_at, set_same, set_other, clear-same, clear-other}
use Rattle.rules.specs.declared.Sizes.{Sizes}
use Rattle.layout.specs.Places.{mark_at, mark_of}
use Rattle.layout.specs.Cells.{page_of, place_of, page_cells}

-- where the mark word of cell c's page stands
abbrev pub marks_at : Sizes → ℕ → ℕ
marks_at p c = mark_at p (page_of c)

-- A survivor that waits has its bit in the lower half of the mark word. Once it is copied, the bit stands in the upper half.
abbrev pub copied : Sizes → List ℕ → ℕ → ℕ
copied p T c = bit_at (mark_of p T (page_of c)) (page_cells + place_of c)

abbrev pub raised : ℕ → ℕ → ℕ
raised w i = w - 2 ^ i + 2 ^ (page_cells + i)

module _ (w i : ℕ) (on : bit_at w i ≡ 1) (fresh : bit_at w (page_cells + i) ≡ 0) where
  pub clear-fresh : bit_at (w - 2 ^ i) (page_cells + i) ≡ 0
  clear-fresh = clear-other i (page_cells + i) w on (λ e. omega arith) ∙ fresh

  pub raised-off : bit_at (raised w i) i ≡ 0
  raised-off = set_other (page_cells + i) i (w - 2 ^ i) clear-fresh (λ e. omega arith) ∙ clear-same i w on

  pub raised-on : bit_at (raised w i) (page_cells + i) ≡ 1
  raised-on = set_same (page_cells + i) (w - 2 ^ i) clear-fresh

  pub raised-other : (j : ℕ) → j ≢ i → j ≢ page_cells + i → bit_at (raised w i) j ≡ bit_at w j
  raised-other j ne nu = set_other (page_cells + i) j (w - 2 ^ i) clear-fresh nu ∙ clear-other i j w on ne

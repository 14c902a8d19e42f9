-- The set bits of a mark word, one after another from the lowest: what is done below a place is done below the next set bit, where a place
-- whose bit is not set asks for nothing.
use Rattle.std.specs.Prelude.{◌≡◌, refl, ℕ, zero, suc, ◌+◌, ◌-◌, ◌^◌, ◌≤◌, ◌<◌}
use Rattle.std.proofs.Common.{sym, ap, ◌∙◌, subst, arith, pow_pos}
use Rattle.std.proofs.Math.Decide.{ℕ_discrete, dec_lt}
use Rattle.std.specs.Int.Count.{ones, count_trailing_zeros}
use Rattle.lists.specs.Bits.{bit_at, bit-zero, clear-same, clear-other, trailing-low, Lowest, lowest}
use Rattle.lists.specs.SetBits.{Walked, walk-lowest}
use Rattle.layout.specs.Cells.{page_cells}

-- left is w from some place on, and Done holds there
pub record Walk (w left : ℕ) (Done : ℕ → Type 0) : Type 0 where
  pub place : ℕ
  pub low : place ≤ page_cells
  pub small : left < 2 ^ page_cells
  pub rest : (i : ℕ) → place ≤ i → bit_at left i ≡ bit_at w i
  pub gone : (i : ℕ) → i < place → bit_at left i ≡ 0
  pub done : Done place

-- a place whose bit is not set asks for nothing
abbrev pub Passes : ℕ → (ℕ → Type 0) → Type 0
Passes w Done = (i : ℕ) → i < page_cells → bit_at w i ≡ 0 → Done i → Done (i + 1)

pass-to : (w : ℕ) (Done : ℕ → Type 0) → Passes w Done → (a k : ℕ) → a + k ≤ page_cells → ((i : ℕ) → a ≤ i → i < a + k → bit_at w i ≡ 0) → Done a → Done (a + k)
pass-to w Done passes a zero h off d = subst Done (let e : a ≡ a + 0 = omega arith in e) d
pass-to w Done passes a (suc k) h off d =
    subst Done (let e : a + k + 1 ≡ a + suc k = omega arith in e)
    (passes (a + k) (omega arith) (off (a + k) (omega arith) (omega arith)) (pass-to w Done passes a k (omega arith) (λ i l m. off i l (omega arith)) d))

-- some are left while fewer than all are passed
pub walk-some : {w left k : ℕ} → Walked w left k → k < ones w → 0 < left
walk-some {left = left} h l = omega (arith, (walk-lowest h l).le, pow_pos (count_trailing_zeros 32 left))

pub walk-begin : {w : ℕ} {Done : ℕ → Type 0} → w < 2 ^ page_cells → Done 0 → Walk w w Done
walk-begin l d =
    record { place = 0; low = omega arith; small = l; rest = λ i h. refl; gone = λ i h. absurd (let z : ⊥ = omega arith in z); done = d }

module _ {w left : ℕ} {Done : ℕ → Type 0} (h : Walk w left Done) where
  -- the lowest bit that is left
  pub walk-bit : 0 < left → Lowest left (count_trailing_zeros 32 left)
  walk-bit l = lowest left (λ z. omega arith) h.small

  on-place : 0 < left → h.place ≤ count_trailing_zeros 32 left
  on-place l = go (dec_lt (count_trailing_zeros 32 left) h.place)
    where
      go : Dec (count_trailing_zeros 32 left < h.place) → h.place ≤ count_trailing_zeros 32 left
      go (yes b) = absurd (let z : ⊥ = omega (arith, (walk-bit l).on, h.gone (count_trailing_zeros 32 left) b) in z)
      go (no b) = omega arith

  -- it is set in w
  pub walk-on : 0 < left → bit_at w (count_trailing_zeros 32 left) ≡ 1
  walk-on l = sym (h.rest (count_trailing_zeros 32 left) (on-place l)) ∙ (walk-bit l).on

  -- and everything below it is done
  pub walk_here : Passes w Done → 0 < left → Done (count_trailing_zeros 32 left)
  walk_here passes l =
      let i : ℕ = count_trailing_zeros 32 left in
      let b = walk-bit l in
      let o = on-place l in
      subst Done (let e : h.place + (i - h.place) ≡ i = omega arith in e)
      (pass-to w Done passes h.place (i - h.place) (omega (arith, b.lt)) (λ j m k. sym (h.rest j m) ∙ trailing-low 32 left j (omega arith)) h.done)

  -- left' as the code has it
  pub walk-on-to : {After : ℕ → Type 0} (left' : ℕ) → 0 < left → left' ≡ left - 2 ^ count_trailing_zeros 32 left → After (count_trailing_zeros 32 left + 1) → Walk w left' After
  walk-on-to {After} left' l e d =
      let i : ℕ = count_trailing_zeros 32 left in
      let b = walk-bit l in
      let o = on-place l in
      subst (λ (x : ℕ). Walk w x After) (sym e)
      (record {
        place = i + 1;
        low = omega (arith, b.lt);
        small = omega (arith, h.small);
        rest = λ j m. clear-other i j left b.on (λ (s : j ≡ i). omega arith) ∙ h.rest j (omega arith);
        gone = λ j m. gone-below j m (ℕ_discrete j i);
        done = d;
      })
    where
      gone-below : (j : ℕ) → j < count_trailing_zeros 32 left + 1 → Dec (j ≡ count_trailing_zeros 32 left) → bit_at (left - 2 ^ count_trailing_zeros 32 left) j ≡ 0
      gone-below j m (yes s) = ap (bit_at (left - 2 ^ count_trailing_zeros 32 left)) s ∙ clear-same (count_trailing_zeros 32 left) left (walk-bit l).on
      gone-below j m (no s) = clear-other (count_trailing_zeros 32 left) j left (walk-bit l).on s ∙ trailing-low 32 left j (omega arith)

  -- less is left after each
  pub walk-less : (left' : ℕ) → 0 < left → left' ≡ left - 2 ^ count_trailing_zeros 32 left → left' < left
  walk-less left' l e = omega (arith, (walk-bit l).le, pow_pos (count_trailing_zeros 32 left))

  -- none is left
  pub walk-over : Passes w Done → left ≤ 0 → Done page_cells
  walk-over passes l =
      subst Done (let e : h.place + (page_cells - h.place) ≡ page_cells = omega (arith, h.low) in e)
      (pass-to w Done passes h.place (page_cells - h.place) (omega (arith, h.low))
      (λ j m k. sym (h.rest j m) ∙ ap (λ (x : ℕ). bit_at x j) (let z : left ≡ 0 = omega arith in z) ∙ bit-zero j) h.done)

-- The reader's definitions, case by case, as the code tells the cases apart.
use Rattle.std.specs.Prelude.{ℕ, suc, ◌+◌, ◌*◌, ◌-◌, ◌<◌, ◌≤◌, true, false, ◌≡◌, length, get_or, drop}
use mathlib.Core.List.{List}
use Rattle.std.proofs.Common.{sym, ◌∙◌, add-one, drop_of_length-le, drop-cons}
use Rattle.std.proofs.Math.Path.{ap}
use borrow.Author.Tests.{eq-eqb, ne_eqb, lt-ltb, le-ltb, le-leb, lt-leb}
use Rattle.script.specs.Text.{Line, numbers, malformed_line}
use Rattle.script.specs.declared.Reader.{Reader}
use Rattle.script.specs.declared.Step.{Step}
use Rattle.script.specs.declared.Step.TheVariants.{More, Ended}
use Rattle.std.specs.Prelude.{None, Some}
use Rattle.script.specs.declared.Scan.{Scan}
use Rattle.script.specs.declared.Scan.TheVariants.{Open, Found}
use Rattle.script.specs.Reading.{digits, number, spoilt, completed, numbering, spaced, digited, next_of, end_of, step_of, fresh, last_of, scanned}

module _ (r : Reader) where
  -- ---- a space

  pub spaced-bare : (digits r) ≡ false → spaced r ≡ spoilt
  unfolding spaced
  spaced-bare d = simp d

  pub spaced-full : (digits r) ≡ true → 4 ≤ r.complete → spaced r ≡ spoilt
  unfolding spaced
  spaced-full d h = simp (d, le-ltb _ _ h)

  pub spaced-number : (digits r) ≡ true → r.complete < 4 → spaced r ≡ completed r
  unfolding spaced
  spaced-number d h = simp (d, lt-ltb _ _ h)

  -- ---- a digit

  pub digited-large : (d : ℕ) → 4_294_967_296 ≤ 10 * (number r) + d → digited r d ≡ spoilt
  unfolding digited
  digited-large d h = simp (le-ltb _ _ h)

  pub digited-small : (d : ℕ) → 10 * (number r) + d < 4_294_967_296 → digited r d ≡ numbering r (10 * (number r) + d)
  unfolding digited
  digited-small d h = simp (lt-ltb _ _ h)

  -- ---- a byte

  pub next-space : (b : ℕ) → b ≡ 32 → next_of r b ≡ spaced r
  unfolding next_of
  next-space b e = simp (eq-eqb _ _ e)

  pub next-below : (b : ℕ) → (b ≡ 32 → ⊥) → b < 48 → next_of r b ≡ spoilt
  unfolding next_of
  next-below b n h = simp (ne_eqb _ _ n, lt-leb _ _ h)

  pub next-above : (b : ℕ) → (b ≡ 32 → ⊥) → 48 ≤ b → 57 < b → next_of r b ≡ spoilt
  unfolding next_of
  next-above b n l h = simp (ne_eqb _ _ n, le-leb _ _ l, lt-leb _ _ h)

  pub next-digit : (b : ℕ) → (b ≡ 32 → ⊥) → 48 ≤ b → b ≤ 57 → next_of r b ≡ digited r (b - 48)
  unfolding next_of
  next-digit b n l h = simp (ne_eqb _ _ n, le-leb _ _ l, le-leb _ _ h)

  -- ---- the end of the line

  pub end-malformed : r.malformed ≡ true → end_of r ≡ malformed_line
  unfolding end_of
  end-malformed m = simp m

  pub end-bare : r.malformed ≡ false → (digits r) ≡ false → end_of r ≡ malformed_line
  unfolding end_of
  end-bare m d = simp (m, d)

  pub end_short : r.malformed ≡ false → (digits r) ≡ true → (r.complete ≡ 4 → ⊥) → end_of r ≡ malformed_line
  unfolding end_of
  end_short m d n = simp (m, d, ne_eqb _ _ n)

  pub end-numbers : r.malformed ≡ false → (digits r) ≡ true → r.complete ≡ 4
      → end_of r ≡ numbers r.first r.second r.third r.fourth (number r)
  unfolding end_of
  end-numbers m d e = simp (m, d, eq-eqb _ _ e)

  -- ---- one byte

  pub step-goes-on : (b : ℕ) → (b ≡ 10 → ⊥) → step_of r b ≡ More (next_of r b)
  unfolding step_of
  step-goes-on b n = simp (ne_eqb _ _ n)

  pub step-ends : (b : ℕ) → b ≡ 10 → step_of r b ≡ Ended (end_of r)
  unfolding step_of
  step-ends b e = simp (eq-eqb _ _ e)

  -- ---- the end of the input

  pub last-fresh : r.malformed ≡ false → (digits r) ≡ false → r.complete ≡ 0 → last_of r ≡ None
  unfolding last_of fresh
  last-fresh m d e = simp (m, d, eq-eqb _ _ e)

  pub last-malformed : r.malformed ≡ true → last_of r ≡ Some (end_of r)
  unfolding last_of fresh
  last-malformed m = simp m

  pub last_digits : r.malformed ≡ false → (digits r) ≡ true → last_of r ≡ Some (end_of r)
  unfolding last_of fresh
  last_digits m d = simp (m, d)

  pub last-spaced : r.malformed ≡ false → (digits r) ≡ false → (r.complete ≡ 0 → ⊥) → last_of r ≡ Some (end_of r)
  unfolding last_of fresh
  last-spaced m d n = simp (m, d, ne_eqb _ _ n)

-- ---- a buffer

module _ (r : Reader) (text : List ℕ) (at : ℕ) where
  pub scan-more : at < length text → (s : Reader) → step_of r (get_or text at 0) ≡ More s → scanned r (drop at text) at ≡ scanned s (drop (at + 1) text) (at + 1)
  unfolding scanned
  scan-more h s e =
      ap (λ (l : List ℕ). scanned r l at) (drop-cons text at 0 h)
      ∙ ap (λ (x : Step). elim x as (λ y. Scan) [ More s ↦ scanned s (drop (suc at) text) (at + 1) | Ended l ↦ Found l (at + 1) ]) e
      ∙ ap (λ (n : ℕ). scanned s (drop n text) (at + 1)) (sym (add-one at))

  pub scan-found : at < length text → (l : Line) → step_of r (get_or text at 0) ≡ Ended l → scanned r (drop at text) at ≡ Found l (at + 1)
  unfolding scanned
  scan-found h l e =
      ap (λ (l : List ℕ). scanned r l at) (drop-cons text at 0 h)
      ∙ ap (λ (x : Step). elim x as (λ y. Scan) [ More s ↦ scanned s (drop (suc at) text) (at + 1) | Ended l ↦ Found l (at + 1) ]) e

  pub scan-open : length text ≤ at → scanned r (drop at text) at ≡ Open r
  unfolding scanned
  scan-open h = ap (λ (l : List ℕ). scanned r l at) (drop_of_length-le text h)

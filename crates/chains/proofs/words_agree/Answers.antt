-- The three parts of the claim: each refutes it where it fails, and together they are it.
use Rattle.std.specs.Prelude.{Bool, false, ℕ, ◌+◌, ◌-◌, ◌≤◌, ◌<◌, List, ◌≡◌, length, get_or, take, drop}
use Rattle.std.proofs.Common.{sym, ap, ◌∙◌, arith, ext_get_or, get_or-take, get_or-drop, length-take, length-drop}
use Rattle.std.proofs.lemmas.Bool.Decides.{Decides-eqb}
use Rattle.std.proofs.lemmas.Slice.Eq.{slice_eq-Decides}
use Rattle.lists.specs.Says.{Says, says-no, said-no, true-not-false}
use Rattle.chains.proofs.Linking.{agree-nexts, agree-rest, agree-firsts, agree-all}
use Rattle.chains.proofs.words_agree.Goals as goal

-- the words of a part of a list
module _ (f : List ℕ) (a b : ℕ) (low : a ≤ b) (high : b ≤ length f) where
  part-long : length (take (b - a) (drop a f)) ≡ b - a
  part-long = omega (arith, length-take (b - a) (drop a f), length-drop a f)

  part-at : (i : ℕ) → i < b - a → get_or (take (b - a) (drop a f)) i 0 ≡ get_or f (a + i) 0
  part-at i l = get_or-take (b - a) (drop a f) i 0 l ∙ get_or-drop a f i 0

  zeros-in : ((i : ℕ) → i < length (take (b - a) (drop a f)) → get_or (take (b - a) (drop a f)) i 0 ≡ 0) → (j : ℕ) → a ≤ j → j < b → get_or f j 0 ≡ 0
  zeros-in z j l h =
      let e : a + (j - a) ≡ j = omega arith in
      ap (λ (k : ℕ). get_or f k 0) (sym e) ∙ sym (part-at (j - a) (omega arith)) ∙ z (j - a) (omega (arith, part-long))

  zeros-of : ((j : ℕ) → a ≤ j → j < b → get_or f j 0 ≡ 0) → (i : ℕ) → i < length (take (b - a) (drop a f)) → get_or (take (b - a) (drop a f)) i 0 ≡ 0
  zeros-of z i l = part-at i (omega (arith, part-long)) ∙ z (a + i) (omega arith) (omega (arith, part-long))

-- two lists whose first words are the same
module _ (f w : List ℕ) (n : ℕ) (lf : n ≤ length f) (lw : n ≤ length w) where
  same-words : take n f ≡ take n w → (j : ℕ) → j < n → get_or f j 0 ≡ get_or w j 0
  same-words e j l = sym (get_or-take n f j 0 l) ∙ ap (λ (k : List ℕ). get_or k j 0) e ∙ get_or-take n w j 0 l

  words-same : ((j : ℕ) → j < n → get_or f j 0 ≡ get_or w j 0) → take n f ≡ take n w
  words-same h =
      ext_get_or 0 (take n f) (take n w) (omega (arith, length-take n f, length-take n w))
      (λ j l. let m : j < n = omega (arith, length-take n f) in get_or-take n f j 0 m ∙ h j m ∙ sym (get_or-take n w j 0 m))

says-none : {P : Type 0} {b : Bool} → b ≡ false → (P → ⊥) → Says b P
says-none e n = (λ q. absurd (true-not-false (sym e ∙ q)), λ p. absurd (n p))

pub returns-in_default : goal.returns-in_default
returns-in_default c =
    let a = c.args in
    says-no (λ e. c.in_default.ensures (agree-nexts a.last a.entries a.remember.now c.requires.listed.room a.chains.now c.requires.entries_in_bounds e))

pub returns-then-all_zero : goal.returns-then-all_zero
returns-then-all_zero c =
    let a = c.args in
    let t = c.requires.listed.room in
    let r = c.requires.entries_in_bounds in
    let s = c.in-Some.ensures in
    let first = c.in-Some.first in
    let few : a.last ≤ length first = omega (arith, c.requires.listed.few, s.1) in
    let same = slice_eq-Decides Decides-eqb _ _ _ c.eq.ensures in (
      λ q.
          agree-all a.last a.entries a.remember.now t a.chains.now r first c.used-used.ensures s.0
          (zeros-in a.chains.now (a.last + c.used-used.result) (a.last + a.entries) (omega (arith, t, c.used-used.ensures)) r (c.all_zero.ensures.0 c.if-all_zero.true)) s.2
          (same-words a.chains.now first a.last (omega arith) few (same.0 q)),
      λ e. same.1 (words-same a.chains.now first a.last (omega arith) few (agree-firsts a.last a.entries a.remember.now t a.chains.now r first s.2 e)),
    )

pub returns-else-all_zero : goal.returns-else-all_zero
returns-else-all_zero c =
    let a = c.args in
    let t = c.requires.listed.room in
    let r = c.requires.entries_in_bounds in
    says-none c.if-all_zero.false
    (λ e.
    said-no c.all_zero.result c.all_zero.ensures c.if-all_zero.false
    (zeros-of a.chains.now (a.last + c.used-used.result) (a.last + a.entries) (omega (arith, t, c.used-used.ensures)) r
    (agree-rest a.last a.entries a.remember.now t a.chains.now r c.used-used.ensures e)))

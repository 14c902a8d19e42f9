-- The reader reads every line as Text says.
use Prim.Native.Nat.{ℕ, suc, ◌+◌, ◌*◌, ◌-◌, ◌<◌, ◌≤◌}
use Rattle.std.specs.Prelude.{List, [], ◌∷◌, map, Bool, true, cond, not, ◌&&◌, ◌||◌, ◌≡◌, refl, drop}
use Rattle.std.proofs.Math.Bool.{false, and-true, and-false, and_assoc, or-true, or-false}
use Rattle.std.proofs.Common.{sym, ap, ◌∙◌, zero-add, add-zero, lit<}
use native.Mathlib.Omega.{arith}
use Rattle.std.proofs.Math.ListN.{length}
use Rattle.std.proofs.Math.Dec.{eqb, ltb, eqb-suc-suc}
use borrow.Author.Tests.{ne_eqb, lt-ltb, le-ltb, eqb-true, ltb-true, ltb-false}
use Rattle.lists.specs.Tests.{both_true}
use Rattle.script.specs.Text.{Line, malformed_line}
use Rattle.script.specs.declared.Reader.{Reader}
use Rattle.script.specs.Text.{onto, parts, is_digit, digits_only, value_from, value, some, is_number, numbers_only, numbered, parts_say, says}
use Rattle.script.specs.ReadingCases.{spaced-bare, spaced-full, spaced-number, digited-large, digited-small}
use Rattle.script.specs.Reading.{digits, number, started, spoilt, completed, numbering, spaced, digited, next_of, end_of}

-- ---- one line

-- the reader at the end of a line of which these bytes are left
unfoldable pub ends : Reader → List ℕ → Line
ends r [] = end_of r
ends r (b ∷ bs) = ends (next_of r b) bs

-- digits that follow a number never lower it
value_grows : (n : ℕ) (p : List ℕ) → n ≤ value_from n p
unfolding value_from
value_grows n [] = omega arith
value_grows n (b ∷ p) = omega (arith, value_grows (10 * n + (b - 48)) p)

-- whether the reader's number, with these bytes behind it, is a number
continues : Reader → List ℕ → Bool
continues r p = ((digits r) || some p) && (digits_only p && ltb (value_from (number r) p) 4_294_967_296)

all-good : Reader → List ℕ → List (List ℕ) → Bool
unfolding continues
all-good r p ps = not r.malformed && (continues r p && (numbers_only ps && eqb (r.complete + length ps) 4))

-- what the line says if the first part that is left goes on with the reader's number: the last five of the numbers kept, read on and left
after : Reader → List ℕ → List (List ℕ) → Line
unfolding all-good
after r p ps =
    cond (all-good r p ps)
    (numbered (drop (length ps) (r.first ∷ r.second ∷ r.third ∷ r.fourth ∷ value_from (number r) p ∷ map value ps)))
    malformed_line

after-spoilt : (p : List ℕ) (ps : List (List ℕ)) → after spoilt p ps ≡ malformed_line
unfolding after all-good
after-spoilt p ps = refl

pub Small : Reader → Type 0
Small r = (number r) < 4_294_967_296

after-end : (r : Reader) → Small r → after r [] [] ≡ end_of r
unfolding after all-good continues end_of Small digits_only value_from numbers_only
after-end r h = simp (or-false, and-true, lt-ltb _ _ h, add-zero)

-- a space: the reader's number is complete
module _ (r : Reader) (q : List ℕ) (ps : List (List ℕ)) where
  space-bare : (digits r) ≡ false → after r [] (q ∷ ps) ≡ malformed_line
  unfolding after all-good continues
  space-bare d = simp (d, and-false)

  space-full : 4 ≤ r.complete → after r [] (q ∷ ps) ≡ malformed_line
  unfolding after all-good
  space-full h =
      let e : eqb (r.complete + suc (length ps)) 4 ≡ false = ne_eqb (r.complete + suc (length ps)) 4 (omega arith) in
      simp (e, and-false)

  space-number : (digits r) ≡ true → Small r → after (completed r) q ps ≡ after r [] (q ∷ ps)
  unfolding after all-good continues digits_only value_from numbers_only Small
  space-number d h =
      let e : r.complete + 1 + length ps ≡ r.complete + suc (length ps) = omega arith in
      simp (d, lt-ltb _ _ h, e, and_assoc)

  after-space : Small r → after (spaced r) q ps ≡ after r [] (q ∷ ps)
  after-space h = go (digits r) refl (ltb r.complete 4) refl
    where
      go : (d : Bool) → (digits r) ≡ d → (t : Bool) → ltb r.complete 4 ≡ t → after (spaced r) q ps ≡ after r [] (q ∷ ps)
      go false d t e = ap (λ s. after s q ps) (spaced-bare r d) ∙ after-spoilt q ps ∙ sym (space-bare d)
      go true d false e = ap (λ s. after s q ps) (spaced-full r d (ltb-false _ _ e)) ∙ after-spoilt q ps ∙ sym (space-full (ltb-false _ _ e))
      go true d true e = ap (λ s. after s q ps) (spaced-number r d (ltb-true _ _ e)) ∙ space-number d h

-- a digit of the reader's number, and any other byte
module _ (r : Reader) (b : ℕ) (q : List ℕ) (ps : List (List ℕ)) where
  digit-large : 4_294_967_296 ≤ 10 * (number r) + (b - 48) → after r (b ∷ q) ps ≡ malformed_line
  unfolding after all-good continues value_from
  digit-large h =
      let e : ltb (value_from (10 * (number r) + (b - 48)) q) 4_294_967_296 ≡ false = le-ltb (value_from (10 * (number r) + (b - 48)) q) 4_294_967_296 (omega (arith, value_grows (10 * (number r) + (b - 48)) q)) in
      simp (e, and-false)

  digit-small : is_digit b ≡ true → after (numbering r (10 * (number r) + (b - 48))) q ps ≡ after r (b ∷ q) ps
  unfolding after all-good continues value_from digits_only
  digit-small h = simp (h, or-true)

  after-digit : is_digit b ≡ true → after (digited r (b - 48)) q ps ≡ after r (b ∷ q) ps
  after-digit h = go (ltb (10 * (number r) + (b - 48)) 4_294_967_296) refl
    where
      go : (t : Bool) → ltb (10 * (number r) + (b - 48)) 4_294_967_296 ≡ t → after (digited r (b - 48)) q ps ≡ after r (b ∷ q) ps
      go false e = ap (λ s. after s q ps) (digited-large r (b - 48) (ltb-false _ _ e)) ∙ after-spoilt q ps ∙ sym (digit-large (ltb-false _ _ e))
      go true e = ap (λ s. after s q ps) (digited-small r (b - 48) (ltb-true _ _ e)) ∙ digit-small h

  after-other : is_digit b ≡ false → after r (b ∷ q) ps ≡ malformed_line
  unfolding after all-good continues digits_only
  after-other h = simp (h, and-false)

-- the reader's number stays a word
small-next : (r : Reader) (b : ℕ) → Small r → Small (next_of r b)
unfolding Small next_of spaced digited
small-next r b h = go (eqb b 32) (is_digit b)
  where
    spaces : (t : Bool) → Small (cond t (completed r) spoilt)
    spaces true = lit< tt
    spaces false = lit< tt

    digit : (n : ℕ) (t : Bool) → ltb n 4_294_967_296 ≡ t → Small (cond t (numbering r n) spoilt)
    digit n true e = ltb-true _ _ e
    digit n false e = lit< tt

    go : (s d : Bool) → Small (cond s (spaced r) (cond d (digited r (b - 48)) spoilt))
    go true d = spaces ((digits r) && ltb r.complete 4)
    go false true = digit (10 * (number r) + (b - 48)) (ltb (10 * (number r) + (b - 48)) 4_294_967_296) refl
    go false false = lit< tt

-- a line has a first part
parts-split : (l : List ℕ) → (p : List ℕ) × (ps : List (List ℕ)) × (parts l ≡ p ∷ ps)
unfolding parts onto
parts-split [] = ([], [], refl)
parts-split (b ∷ bs) = go (eqb b 32) (parts bs)
  where
    go : (t : Bool) (ls : List (List ℕ)) → (p : List ℕ) × (ps : List (List ℕ)) × (cond t ([] ∷ ls) (onto b ls) ≡ p ∷ ps)
    go true ls = ([], ls, refl)
    go false [] = (b ∷ [], [], refl)
    go false (l ∷ ls) = (b ∷ l, ls, refl)

after-parts : Reader → List (List ℕ) → Line
after-parts r [] = malformed_line
after-parts r (p ∷ ps) = after r p ps

after-byte : (r : Reader) (b : ℕ) (p : List ℕ) (ps : List (List ℕ)) → Small r
    → after (next_of r b) p ps ≡ after-parts r (cond (eqb b 32) ([] ∷ p ∷ ps) (onto b (p ∷ ps)))
unfolding next_of after-parts onto
after-byte r b p ps h = go (eqb b 32) (is_digit b) refl
  where
    go : (s d : Bool) → is_digit b ≡ d
        → after (cond s (spaced r) (cond d (digited r (b - 48)) spoilt)) p ps ≡ after-parts r (cond s ([] ∷ p ∷ ps) (onto b (p ∷ ps)))
    go true d e = after-space r p ps h
    go false true e = after-digit r b p ps e
    go false false e = after-spoilt p ps ∙ sym (after-other r b p ps e)

ends-after : (l : List ℕ) (r : Reader) → Small r → ends r l ≡ after-parts r (parts l)
unfolding ends parts after-parts
ends-after [] r h = sym (after-end r h)
ends-after (b ∷ bs) r h =
    let s = parts-split bs in
    ends-after bs (next_of r b) (small-next r b h)
    ∙ ap (after-parts (next_of r b)) s.2
    ∙ after-byte r b s.0 s.1 h
    ∙ ap (λ (ls : List (List ℕ)). after-parts r (cond (eqb b 32) ([] ∷ ls) (onto b ls))) (sym s.2)

-- at the start of a line the parts say what the line says
start-good : (p : List ℕ) (ps : List (List ℕ)) → all-good started p ps ≡ (numbers_only (p ∷ ps) && eqb (suc (length ps)) 5)
unfolding all-good continues numbers_only
start-good p ps = sym (and_assoc (is_number p) (numbers_only ps) (eqb (suc (length ps)) 5)
    ∙ ap (λ (t : Bool). is_number p && (numbers_only ps && t)) (eqb-suc-suc (length ps) 4 ∙ ap (λ (n : ℕ). eqb n 4) (sym (zero-add (length ps)))))

start-says : (p : List ℕ) (ps : List (List ℕ)) → after started p ps ≡ parts_say (p ∷ ps)
unfolding after
start-says p ps =
    ap (λ (t : Bool). cond t (numbered (drop (length ps) line)) malformed_line) (start-good p ps) ∙ go (numbers_only (p ∷ ps) && eqb (suc (length ps)) 5) refl
  where
    line : List ℕ
    line = 0 ∷ 0 ∷ 0 ∷ 0 ∷ value p ∷ map value ps

    go : (t : Bool) → (numbers_only (p ∷ ps) && eqb (suc (length ps)) 5) ≡ t
        → cond t (numbered (drop (length ps) line)) malformed_line ≡ cond t (numbered (map value (p ∷ ps))) malformed_line
    go false e = refl
    go true e =
        let f : length ps ≡ 4 = omega (arith, eqb-true (suc (length ps)) 5 (both_true (numbers_only (p ∷ ps)) (eqb (suc (length ps)) 5) e).1) in
        ap (λ (n : ℕ). numbered (drop n line)) f

pub ends-says : (l : List ℕ) → ends started l ≡ says l
unfolding Small after-parts
ends-says l =
    let s = parts-split l in
    ends-after l started (lit< tt) ∙ ap (after-parts started) s.2 ∙ start-says s.0 s.1 ∙ ap parts_say (sym s.2)

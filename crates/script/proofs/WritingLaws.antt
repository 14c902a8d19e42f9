-- Facts of what is written: how long it is, and one text put after another.
use Rattle.std.specs.Prelude.{ℕ, zero, suc, ◌+◌, ◌*◌, ◌-◌, ◌/◌, ◌%◌, ◌^◌, ◌<◌, ◌≤◌, Bool, ◌≡◌, refl, length, take, drop, set, get_or, ltb}
use mathlib.Core.List.{List, [], ◌∷◌, ◌++◌, append_assoc, append-nil}
use Rattle.std.proofs.Math.Bool.{true, false}
use Rattle.std.proofs.Common.{sym, ap₂, ◌∙◌, subst, arith, pow-suc, add-one, add-zero, take_at, drop_at, drop-drop, length-take-le, lt-ltb, le-ltb, ltb-false}
use Rattle.std.proofs.Math.Path.{ap}
use Rattle.std.proofs.Math.Decide.{dec_le}
use Rattle.std.proofs.Math.ListN.{length-append}
use Rattle.std.proofs.Math.Seq.{take-length, take-suc, paste-zero, append_snoc}
use Rattle.std.proofs.lemmas.List.{set_split}
use Rattle.io.specs.Digits.{last_digits, hex_digit_ascii, IsDigitCount}
use Rattle.script.specs.Writing.{spelt, decimal, row, line_line, written, Put}

-- ---- digits

suc-sub-one : (j : ℕ) → suc j - 1 ≡ j
suc-sub-one j = omega arith

ten-pow : (k : ℕ) → 1 ≤ 10 ^ k
ten-pow zero = omega arith
ten-pow (suc k) = omega (arith, ten-pow k, pow-suc 10 k)

-- a power of ten is above its exponent
pub power-above : (k : ℕ) → k < 10 ^ k
power-above zero = omega arith
power-above (suc k) = omega (arith, power-above k, pow-suc 10 k)

module _ (most n : ℕ) where
  spelt-low : n < 10 → spelt (suc most) n ≡ (48 + n) ∷ []
  unfolding spelt
  spelt-low h = ap (λ (t : Bool). elim t as (λ x. List ℕ) [ true ↦ (48 + n) ∷ [] | false ↦ spelt most (n / 10) ++ ((48 + n % 10) ∷ []) ]) (lt-ltb n 10 h)

  spelt-high : 10 ≤ n → spelt (suc most) n ≡ spelt most (n / 10) ++ ((48 + n % 10) ∷ [])
  unfolding spelt
  spelt-high h = ap (λ (t : Bool). elim t as (λ x. List ℕ) [ true ↦ (48 + n) ∷ [] | false ↦ spelt most (n / 10) ++ ((48 + n % 10) ∷ []) ]) (le-ltb n 10 h)

glyph-digit : (n : ℕ) → n < 10 → hex_digit_ascii n ≡ 48 + n
glyph-digit n h = simp (lt-ltb _ _ h)

-- the fewest digits of a number, as io has them, are its decimal
pub spelt-digits : (most k n : ℕ) → k ≤ most → IsDigitCount 10 1 n k → last_digits 10 k n ≡ spelt most n
spelt-digits zero k n h f = absurd (let z : ⊥ = omega arith in z)
spelt-digits (suc m) zero n h f = absurd (let z : ⊥ = omega arith in z)
spelt-digits (suc m) (suc zero) n h f =
    let low : n < 10 = f.1 in
    let e : n % 10 ≡ n = omega arith in
    ap (λ (d : ℕ). hex_digit_ascii d ∷ []) e ∙ ap (λ (d : ℕ). d ∷ []) (glyph-digit n low) ∙ sym (spelt-low m n low)
spelt-digits (suc m) (suc (suc j)) n h f =
    let last : 10 ^ suc j ≤ n = subst (λ (i : ℕ). 10 ^ i ≤ n) (suc-sub-one (suc j)) (f.2 (omega arith)) in
    let high : 10 ≤ n = omega (arith, ten-pow j, pow-suc 10 j) in
    let top : n / 10 < 10 ^ suc j = omega (arith, f.1, pow-suc 10 (suc j)) in
    let low : 10 ^ j ≤ n / 10 = omega (arith, pow-suc 10 j) in
    ap (λ (l : List ℕ). l ++ (hex_digit_ascii (n % 10) ∷ [])) (spelt-digits m (suc j) (n / 10) (omega arith) (omega arith, top, λ q. subst (λ (i : ℕ). 10 ^ i ≤ n / 10) (sym (suc-sub-one j)) low))
    ∙ ap (λ (d : ℕ). spelt m (n / 10) ++ (d ∷ [])) (glyph-digit (n % 10) (omega arith))
    ∙ sym (spelt-high m n high)

-- a number below a power of ten has no more digits than the power has zeros
pub spelt-length : (most k n : ℕ) → n < 10 ^ suc k → length (spelt most n) ≤ suc k
unfolding spelt
spelt-length zero k n h = omega arith
spelt-length (suc m) k n h = go k h (ltb n 10) refl (λ j. spelt-length m j (n / 10))
  where
    go : (k : ℕ) → n < 10 ^ suc k → (t : Bool) → ltb n 10 ≡ t → ((j : ℕ) → n / 10 < 10 ^ suc j → length (spelt m (n / 10)) ≤ suc j)
        → length {A = ℕ} (elim t as (λ x. List ℕ) [ true ↦ (48 + n) ∷ [] | false ↦ spelt m (n / 10) ++ ((48 + n % 10) ∷ []) ]) ≤ suc k
    go k h true e f = omega arith
    go zero h false e f = absurd (let z : ⊥ = omega (arith, ltb-false n 10 e) in z)
    go (suc k) h false e f =
        let g : length (spelt m (n / 10)) ≤ suc k = f k (omega (arith, pow-suc 10 (suc k))) in
        simp length-append (omega arith)

-- a word has at most ten digits, a number of 64 bits at most twenty
pub word-length : (n : ℕ) → n < 4_294_967_296 → length (decimal n) ≤ 10
word-length n h = spelt-length (suc n) 9 n (omega arith)

pub decimal-length : (n : ℕ) → n < 2 ^ 64 → length (decimal n) ≤ 20
decimal-length n h = spelt-length (suc n) 19 n (omega arith)

-- ---- one text after another

-- one byte
pub put_byte : (bytes : List ℕ) (at b : ℕ) → at < length bytes → Put bytes at (b ∷ []) (set bytes at b) (at + 1)
put_byte bytes at b h =
    record {
      bytes-are = set_split bytes at b h
          ∙ sym (append_snoc (take at bytes) b (drop (suc at) bytes))
          ∙ ap (λ (n : ℕ). take at bytes ++ (b ∷ []) ++ drop n bytes) (sym (add-one at));
      end_is = refl;
    }

-- the digits that io counted and wrote
few-digits : (x k : ℕ) → IsDigitCount 10 1 x k → k ≤ suc x
few-digits x k f = go (dec_le k 1)
  where
    go : Dec (k ≤ 1) → k ≤ suc x
    go (yes l) = omega arith
    go (no n) = omega (arith, f.2 (omega arith), power-above (k - 1))

pub decimal-digits : (x k : ℕ) (buffer : List ℕ) → IsDigitCount 10 1 x k → take k buffer ≡ last_digits 10 k x → take k buffer ≡ decimal x
decimal-digits x k buffer f e = e ∙ spelt-digits (suc x) k x (few-digits x k f) f

pub put-text : {bytes a b after : List ℕ} {at end : ℕ} → a ≡ b → Put bytes at a after end → Put bytes at b after end
put-text {bytes} {after = after} {at} {end} e p = subst (λ (t : List ℕ). Put bytes at t after end) e p

module _ (bytes : List ℕ) (at : ℕ) (a b : List ℕ) (room : at + length a + length b ≤ length bytes) where
  head-length : length (take at bytes ++ a) ≡ at + length a
  head-length = length-append (take at bytes) a ∙ ap (λ (n : ℕ). n + length a) (length-take-le at bytes (omega arith))

  pub written-written : written (written bytes at a) (at + length a) b ≡ written bytes at (a ++ b)
  written-written =
      ap (λ (l : List ℕ). l ++ b ++ drop (at + length a + length b) (written bytes at a)) (take_at (take at bytes ++ a) (drop (at + length a) bytes) (at + length a) head-length)
      ∙ ap (λ (l : List ℕ). take at bytes ++ a ++ b ++ l) tail
      ∙ ap (λ (l : List ℕ). l ++ drop (at + length (a ++ b)) bytes) (append_assoc (take at bytes) a b)
    where
      tail : drop (at + length a + length b) (written bytes at a) ≡ drop (at + length (a ++ b)) bytes
      tail =
          sym (drop-drop (length b) (at + length a) (written bytes at a))
          ∙ ap (drop (length b)) (drop_at (take at bytes ++ a) (drop (at + length a) bytes) (at + length a) head-length)
          ∙ drop-drop (length b) (at + length a) bytes
          ∙ ap (λ (n : ℕ). drop n bytes) (let e : at + length a + length b ≡ at + length (a ++ b) = omega (arith, length-append a b) in e)

pub put-put : {bytes a b after last : List ℕ} {at middle end : ℕ} → at + length a + length b ≤ length bytes
    → Put bytes at a after middle → Put after middle b last end → Put bytes at (a ++ b) last end
put-put {bytes} {a} {b} {at = at} room p q =
    record {
      bytes-are = q.bytes-are ∙ ap₂ (λ (l : List ℕ) (n : ℕ). written l n b) p.bytes-are p.end_is ∙ written-written bytes at a b room;
      end_is = omega (arith, length-append a b, p.end_is, q.end_is);
    }

-- ---- lines

-- a word and the byte behind it take eleven bytes at most
pub put-end : {bytes after : List ℕ} {at end : ℕ} (n b : ℕ) → n < 4_294_967_296 → Put bytes at (decimal n ++ (b ∷ [])) after end → end ≤ at + 11
put-end n b h p = omega (arith, p.end_is, length-append (decimal n) (b ∷ []), word-length n h)

-- numbers with a space behind each
unfoldable pub spaced_row : List ℕ → List ℕ
spaced_row [] = []
spaced_row (n ∷ ns) = (decimal n ++ (32 ∷ [])) ++ spaced_row ns

spaced-last : (ns : List ℕ) (n : ℕ) → spaced_row (ns ++ (n ∷ [])) ≡ spaced_row ns ++ (decimal n ++ (32 ∷ []))
unfolding spaced_row
spaced-last [] n = append-nil (decimal n ++ (32 ∷ []))
spaced-last (m ∷ ms) n = ap (λ (l : List ℕ). (decimal m ++ (32 ∷ [])) ++ l) (spaced-last ms n) ∙ sym (append_assoc (decimal m ++ (32 ∷ [])) (spaced_row ms) (decimal n ++ (32 ∷ [])))

row-last : (ns : List ℕ) (n : ℕ) → row (ns ++ (n ∷ [])) ≡ spaced_row ns ++ (decimal n ++ (10 ∷ []))
unfolding row spaced_row
row-last [] n = refl
row-last (m ∷ []) n = let e : ((decimal m ++ (32 ∷ [])) ++ []) ++ (decimal n ++ (10 ∷ [])) ≡ decimal m ++ (32 ∷ row (n ∷ [])) = simp append_assoc in sym e
row-last (m ∷ k ∷ ks) n =
    let e : ((decimal m ++ (32 ∷ [])) ++ spaced_row (k ∷ ks)) ++ (decimal n ++ (10 ∷ [])) ≡ decimal m ++ (32 ∷ (spaced_row (k ∷ ks) ++ (decimal n ++ (10 ∷ [])))) = simp append_assoc in
    ap (λ (l : List ℕ). decimal m ++ (32 ∷ l)) (row-last (k ∷ ks) n) ∙ sym e

-- one number more of a line, and the last one
module _ {bytes now after : List ℕ} {at end stop : ℕ} (ns : List ℕ) (i : ℕ) (h : i < length ns) (fits : get_or ns i 0 < 4_294_967_296)
    (low : end ≤ at + 11 * i) (room : at + 11 * length ns ≤ length bytes) (p : Put bytes at (spaced_row (take i ns)) now end) where
  pub row-more : Put now end (decimal (get_or ns i 0) ++ (32 ∷ [])) after stop → Put bytes at (spaced_row (take (i + 1) ns)) after stop
  row-more q =
      put-text (sym (ap (λ (n : ℕ). spaced_row (take n ns)) (add-one i) ∙ ap spaced_row (take-suc ns i 0 h) ∙ spaced-last (take i ns) (get_or ns i 0)))
      (put-put (omega (arith, p.end_is, length-append (decimal (get_or ns i 0)) (32 ∷ []), word-length (get_or ns i 0) fits)) p q)

  pub row-end : i + 1 ≡ length ns → Put now end (decimal (get_or ns i 0) ++ (10 ∷ [])) after stop → Put bytes at (row ns) after stop
  row-end e q =
      put-text (sym (ap row (sym (take-length ns) ∙ ap (λ (n : ℕ). take n ns) (sym e ∙ add-one i) ∙ take-suc ns i 0 h) ∙ row-last (take i ns) (get_or ns i 0)))
      (put-put (omega (arith, p.end_is, length-append (decimal (get_or ns i 0)) (10 ∷ []), word-length (get_or ns i 0) fits)) p q)

pub put-start : (bytes : List ℕ) (at : ℕ) (ns : List ℕ) → Put bytes at (spaced_row (take 0 ns)) bytes at
unfolding spaced_row
put-start bytes at ns = record { bytes-are = paste-zero bytes at []; end_is = sym (add-zero at) }

module _ {bytes after : List ℕ} {at : ℕ} where
  pub put-line : {x : List ℕ} {i end : ℕ} (k : ℕ) → k < 2 ^ 64 → at + 26 ≤ length bytes
      → Put bytes at (108 ∷ 105 ∷ 110 ∷ 101 ∷ 32 ∷ []) x i → Put x i (decimal k ++ (10 ∷ [])) after end → Put bytes at (line_line k) after end
  unfolding row
  put-line k h room p q = put-put (simp length-append (omega (arith, decimal-length k h))) p q

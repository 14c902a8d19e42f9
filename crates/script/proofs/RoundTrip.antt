-- What is written is read back as it was: a number in decimal, and a line of five numbers.
use Rattle.std.specs.Prelude.{ℕ, zero, suc, ◌+◌, ◌*◌, ◌-◌, ◌/◌, ◌%◌, ◌^◌, ◌<◌, List, [], ◌∷◌, ◌++◌, map, Bool, true, false, cond, ◌≡◌, refl, eqb, leb, ltb}
use Rattle.std.proofs.Common.{append-nil, ap, ◌∙◌, arith, pow-suc, ne_eqb, lt-ltb, ltb-true, le-leb, leb-true}
use Rattle.std.proofs.Math.Bool.{◌&&◌}
use Rattle.std.proofs.Math.Path.{ap₂}
use Rattle.lists.specs.Tests.{both_true}
use Rattle.script.specs.Text.{Line, numbers, malformed_line}
use Rattle.script.specs.Text.{onto, lines, parts, is_digit, digits_only, value_from, value, some, is_number, numbers_only, parts_say, says, text_says}
use Rattle.script.specs.Writing.{spelt, decimal, row}
use Rattle.script.proofs.WritingLaws.{power-above}

-- ---- a number

value-snoc : (n : ℕ) (p : List ℕ) (b : ℕ) → value_from n (p ++ (b ∷ [])) ≡ 10 * value_from n p + (b - 48)
unfolding value_from
value-snoc n [] b = refl
value-snoc n (x ∷ p) b = value-snoc (10 * n + (x - 48)) p b

digits-snoc : (p : List ℕ) (b : ℕ) → digits_only p ≡ true → is_digit b ≡ true → digits_only (p ++ (b ∷ [])) ≡ true
unfolding digits_only
digits-snoc [] b h k = ap (λ (t : Bool). t && true) k
digits-snoc (x ∷ p) b h k =
    let g = both_true (is_digit x) (digits_only p) h in
    ap₂ ◌&&◌ g.0 (digits-snoc p b g.1 k)

some-snoc : (p : List ℕ) (b : ℕ) → some (p ++ (b ∷ [])) ≡ true
some-snoc [] b = refl
some-snoc (x ∷ p) b = refl

is-digit : (d : ℕ) → d < 10 → is_digit (48 + d) ≡ true
is-digit d h = ap₂ ◌&&◌ (le-leb 48 (48 + d) (omega arith)) (le-leb (48 + d) 57 (omega arith))

-- with room for its digits, the value of a number that is spelt is the number
spelt-value : (most n : ℕ) → n < 10 ^ most → value (spelt most n) ≡ n
unfolding spelt value_from
spelt-value zero n h = omega arith
spelt-value (suc m) n h = go (ltb n 10) refl (λ (l : n / 10 < 10 ^ m). spelt-value m (n / 10) l)
  where
    go : (t : Bool) → ltb n 10 ≡ t → (n / 10 < 10 ^ m → value (spelt m (n / 10)) ≡ n / 10)
        → value (elim t as (λ x. List ℕ) [ true ↦ (48 + n) ∷ [] | false ↦ spelt m (n / 10) ++ ((48 + n % 10) ∷ []) ]) ≡ n
    go true e f = omega arith
    go false e f =
        let g : value (spelt m (n / 10)) ≡ n / 10 = f (omega (arith, pow-suc 10 m)) in
        value-snoc 0 (spelt m (n / 10)) (48 + n % 10) ∙ (let k : 10 * value (spelt m (n / 10)) + (48 + n % 10 - 48) ≡ n = omega arith in k)

spelt-plain : (most n : ℕ) → digits_only (spelt most n) ≡ true
unfolding spelt digits_only
spelt-plain zero n = refl
spelt-plain (suc m) n = go (ltb n 10) refl (spelt-plain m (n / 10))
  where
    go : (t : Bool) → ltb n 10 ≡ t → digits_only (spelt m (n / 10)) ≡ true
        → digits_only (elim t as (λ x. List ℕ) [ true ↦ (48 + n) ∷ [] | false ↦ spelt m (n / 10) ++ ((48 + n % 10) ∷ []) ]) ≡ true
    go true e f = ap (λ (t : Bool). t && true) (is-digit n (ltb-true n 10 e))
    go false e f = digits-snoc (spelt m (n / 10)) (48 + n % 10) f (is-digit (n % 10) (omega arith))

spelt-some : (most n : ℕ) → some (spelt (suc most) n) ≡ true
unfolding spelt
spelt-some m n = go (ltb n 10)
  where
    go : (t : Bool) → some (elim t as (λ x. List ℕ) [ true ↦ (48 + n) ∷ [] | false ↦ spelt m (n / 10) ++ ((48 + n % 10) ∷ []) ]) ≡ true
    go true = refl
    go false = some-snoc (spelt m (n / 10)) (48 + n % 10)

-- The value of a number's decimal is the number, whatever the number.
pub decimal-value : (n : ℕ) → value (decimal n) ≡ n
decimal-value n = spelt-value (suc n) n (omega (arith, power-above (suc n)))

decimal-plain : (n : ℕ) → digits_only (decimal n) ≡ true
decimal-plain n = spelt-plain (suc n) n

pub decimal-number : (n : ℕ) → n < 4_294_967_296 → is_number (decimal n) ≡ true
decimal-number n h =
    ap₂ ◌&&◌ (spelt-some n n) (ap₂ ◌&&◌ (decimal-plain n) (ap (λ (v : ℕ). ltb v 4_294_967_296) (decimal-value n) ∙ lt-ltb n 4_294_967_296 h))

-- ---- a line

-- a digit is neither a line feed nor a space
not-below : (b k : ℕ) → k < 48 → is_digit b ≡ true → eqb b k ≡ false
not-below b k l h = ne_eqb b k (λ (e : b ≡ k). omega (arith, leb-true 48 b (both_true (leb 48 b) (leb b 57) h).0))

lines-plain : (p rest l : List ℕ) (ls : List (List ℕ)) → digits_only p ≡ true → lines rest ≡ l ∷ ls → lines (p ++ rest) ≡ (p ++ l) ∷ ls
unfolding digits_only lines onto
lines-plain [] rest l ls h e = e
lines-plain (b ∷ p) rest l ls h e =
    let g = both_true (is_digit b) (digits_only p) h in
    ap (λ (t : Bool). cond t ([] ∷ lines (p ++ rest)) (onto b (lines (p ++ rest)))) (not-below b 10 (omega arith) g.0)
    ∙ ap (onto b) (lines-plain p rest l ls g.1 e)

parts-plain : (p rest l : List ℕ) (ls : List (List ℕ)) → digits_only p ≡ true → parts rest ≡ l ∷ ls → parts (p ++ rest) ≡ (p ++ l) ∷ ls
unfolding digits_only parts onto
parts-plain [] rest l ls h e = e
parts-plain (b ∷ p) rest l ls h e =
    let g = both_true (is_digit b) (digits_only p) h in
    ap (λ (t : Bool). cond t ([] ∷ parts (p ++ rest)) (onto b (parts (p ++ rest)))) (not-below b 32 (omega arith) g.0)
    ∙ ap (onto b) (parts-plain p rest l ls g.1 e)

-- a line of numbers without its line feed
unfoldable pub unended : List ℕ → List ℕ
unended [] = []
unended (n ∷ ns) = decimal n ++ elim ns [ [] ↦ [] | m ∷ ms ↦ 32 ∷ unended ns ]

row-lines : (n : ℕ) (ns : List ℕ) → lines (row (n ∷ ns)) ≡ unended (n ∷ ns) ∷ []
unfolding row unended lines onto
row-lines n [] = lines-plain (decimal n) (10 ∷ []) [] [] (decimal-plain n) refl
row-lines n (m ∷ ms) = lines-plain (decimal n) (32 ∷ row (m ∷ ms)) (32 ∷ unended (m ∷ ms)) [] (decimal-plain n) (ap (onto 32) (row-lines m ms))

unended-parts : (n : ℕ) (ns : List ℕ) → parts (unended (n ∷ ns)) ≡ map decimal (n ∷ ns)
unfolding unended parts onto
unended-parts n [] =
    parts-plain (decimal n) [] [] [] (decimal-plain n) refl ∙ ap (λ (l : List ℕ). l ∷ []) (append-nil (decimal n))
unended-parts n (m ∷ ms) =
    parts-plain (decimal n) (32 ∷ unended (m ∷ ms)) [] (parts (unended (m ∷ ms))) (decimal-plain n) refl
    ∙ ap₂ (λ (l : List ℕ) (ls : List (List ℕ)). l ∷ ls) (append-nil (decimal n)) (unended-parts m ms)

module _ (a b c d e : ℕ) (la : a < 4_294_967_296) (lb : b < 4_294_967_296) (lc : c < 4_294_967_296) (ld : d < 4_294_967_296) (le : e < 4_294_967_296) where
  five-numbers : numbers_only (map decimal (a ∷ b ∷ c ∷ d ∷ e ∷ [])) ≡ true
  unfolding numbers_only
  five-numbers =
      ap₂ ◌&&◌ (decimal-number a la)
      (ap₂ ◌&&◌ (decimal-number b lb) (ap₂ ◌&&◌ (decimal-number c lc) (ap₂ ◌&&◌ (decimal-number d ld) (ap (λ (t : Bool). t && true) (decimal-number e le)))))

  five-say : parts_say (map decimal (a ∷ b ∷ c ∷ d ∷ e ∷ [])) ≡ numbers a b c d e
  five-say =
      ap (λ (t : Bool). cond (t && true) (numbers (value (decimal a)) (value (decimal b)) (value (decimal c)) (value (decimal d)) (value (decimal e))) malformed_line) five-numbers
      ∙ (λ i. numbers (decimal-value a i) (decimal-value b i) (decimal-value c i) (decimal-value d i) (decimal-value e i))

  -- A line of five words in decimal says these five words, with its line feed and without.
  pub five-read : text_says (row (a ∷ b ∷ c ∷ d ∷ e ∷ [])) ≡ numbers a b c d e ∷ []
  five-read =
      ap (map says) (row-lines a (b ∷ c ∷ d ∷ e ∷ []))
      ∙ ap (λ (ps : List (List ℕ)). parts_say ps ∷ []) (unended-parts a (b ∷ c ∷ d ∷ e ∷ []))
      ∙ ap (λ (l : Line). l ∷ []) five-say

  pub five-unended : says (unended (a ∷ b ∷ c ∷ d ∷ e ∷ [])) ≡ numbers a b c d e
  five-unended = ap parts_say (unended-parts a (b ∷ c ∷ d ∷ e ∷ [])) ∙ five-say

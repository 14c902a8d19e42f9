-- The open regions one after the other, and how many they are.
use Rattle.std.specs.Prelude.{◌≡◌, ℕ, zero, suc, ◌+◌, ◌-◌, ◌*◌, ◌/◌, ◌%◌, ◌<◌, ◌≤◌, min, Bool, true, false, ◌||◌, leb, List, length, nat_le, nat_lt, slice_index, slice_index_or}
use native.Mathlib.Omega.{arith}
use Rattle.std.proofs.Math.Decide.{dec_lt, ℕ_discrete}
use Rattle.std.proofs.Math.Nat.{mul_comm}
use Rattle.std.proofs.Common.{suc-mul, div-lt_iff_lt-mul, ◌∙◌}
use Rattle.std.proofs.Math.Path.{refl, sym, ap, ap₂, subst}
use Rattle.std.proofs.lemmas.List.{length-map}
use borrow.Author.Tests.{ne_eqb, le-leb, lt-leb, lt-ltb}
use Rattle.lists.specs.Counting.{bit, sum, count, sum-add, sum-blocks, sum_first, count_yes, count-to}
use Rattle.lists.specs.Products.{flat-low, flat-row, flat-place}
use Rattle.rules.specs.declared.Sizes.{Sizes}
use Rattle.rules.specs.Regions.{thread_of, level_of, region_at, regions}
use Rattle.layout.specs.Places.{depth_of}
use Rattle.layout.specs.Words.{words, depths_at}
use Rattle.promises.specs.Whole.{Open}
use Rattle.promises.specs.Reading.{depth-at}
use Rattle.report.specs.Report.{is_open, open_regions, no_row}
use Rattle.report.specs.Passing.{get_d_map, passed, length-passing, passing-at}
use Rattle.report.specs.Tables.{row_in, open_in, rows_in}

-- ---- one after the other

-- no region between q and r is open
abbrev pub NoneOpen : Sizes → List ℕ → ℕ → ℕ → Type 0
NoneOpen s depths q r = (x : ℕ) → q < x → x < r → is_open s depths x ≡ false

-- r is the next open region after q, one past the last region if there is none
pub record Next (s : Sizes) (depths : List ℕ) (q r : ℕ) : Type 0 where
  pub above : q < r
  pub high : r ≤ suc (regions s)
  pub between : NoneOpen s depths q r
  pub opened : r ≤ regions s → is_open s depths r ≡ true

-- q is open region k, one past the last region if there are only k
pub record Turn (s : Sizes) (depths : List ℕ) (k q : ℕ) : Type 0 where
  pub low : 1 ≤ q
  pub high : q ≤ suc (regions s)
  pub before : passed (is_open s depths) (q - 1) ≡ k
  pub opened : q ≤ regions s → is_open s depths q ≡ true

module _ (s : Sizes) (depths : List ℕ) where
  pub turn-first : Turn s depths 0 1
  unfolding is_open
  turn-first = record { low = omega arith; high = omega arith; before = refl; opened = λ l. refl }

  pub turn-next : (k q r : ℕ) → Turn s depths k q → q ≤ regions s → Next s depths q r → Turn s depths (k + 1) r
  turn-next k q r t l n =
      let b : ℕ → Bool = λ i. is_open s depths (suc i) in
      let e : suc (q - 1) ≡ q = omega (arith, t.low) in
      let past : count b (q - 1 + 1) ≡ count b (q - 1) + 1 = count_yes b (q - 1) (ap (is_open s depths) e ∙ t.opened l) in
      let rest : count b (r - 1) ≡ count b (q - 1 + 1) =
      count-to b (q - 1 + 1) (r - 1) (omega (arith, n.above, t.low)) (λ x h m. n.between (suc x) (omega (arith, t.low)) (omega arith)) in
      record { low = omega (arith, n.above); high = n.high; before = rest ∙ past ∙ ap (λ (m : ℕ). m + 1) t.before; opened = n.opened }

  pub none-next : (q r : ℕ) → NoneOpen s depths q r → is_open s depths r ≡ false → NoneOpen s depths q (r + 1)
  none-next q r h e x l m = go (ℕ_discrete x r)
    where
      go : Dec (x ≡ r) → is_open s depths x ≡ false
      go (yes z) = ap (is_open s depths) z ∙ e
      go (no z) = h x l (omega arith)

  -- while there are more than k
  pub turn-region : (k q : ℕ) → Turn s depths k q → k < length (open_regions s depths) → q ≤ regions s
  unfolding open_regions
  turn-region k q t l = go (dec_lt (regions s) q)
    where
      go : Dec (regions s < q) → q ≤ regions s
      go (yes m) =
          let e : q - 1 ≡ regions s = omega (arith, t.high) in
          absurd (let z : ⊥ = omega (arith, length-passing (is_open s depths) (regions s), ap (passed (is_open s depths)) e, t.before) in z)
      go (no m) = omega arith

  pub turn-open : (k q : ℕ) → Turn s depths k q → k < length (open_regions s depths) → slice_index (open_regions s depths) k ≡ q
  unfolding open_regions
  turn-open k q t l =
      let h = turn-region k q t l in
      let e : suc (q - 1) ≡ q = omega (arith, t.low) in
      ap (λ (n : ℕ). slice_index (open_regions s depths) n) (sym t.before)
      ∙ passing-at (is_open s depths) (regions s) (q - 1) (omega (arith, h, t.low)) (ap (is_open s depths) e ∙ t.opened h) ∙ e

-- ---- as the code tests it

module _ (p : Sizes) (t : List ℕ) where
  pub open-yes : (q : ℕ) → Open p t q → is_open p (depths_at p t) q ≡ true
  unfolding is_open
  open-yes q o =
      ap (λ (b : Bool). b || nat_le (level_of p q) (slice_index (depths_at p t) (thread_of p q))) (ne_eqb q 1 (λ (e : q ≡ 1). omega (arith, o.real)))
      ∙ le-leb (level_of p q) (slice_index (depths_at p t) (thread_of p q))
      (omega (arith, o.level, depth-at p (words t t t) (thread_of p q) o.thread))

  pub open_no : 1 ≤ p.depth → (q : ℕ) → 2 ≤ q → q ≤ regions p → (Open p t q → ⊥) → is_open p (depths_at p t) q ≡ false
  unfolding is_open
  open_no d q l m n =
      let th : thread_of p q < p.threads = (div-lt_iff_lt-mul {x = q - 2} d).1 (omega arith) in
      ap (λ (b : Bool). b || nat_le (level_of p q) (slice_index (depths_at p t) (thread_of p q))) (ne_eqb q 1 (λ (e : q ≡ 1). omega arith))
      ∙ lt-leb (level_of p q) (slice_index (depths_at p t) (thread_of p q))
      (low th (dec_lt (depth_of t (thread_of p q)) (level_of p q)))
    where
      low : thread_of p q < p.threads → Dec (depth_of t (thread_of p q) < level_of p q) → slice_index (depths_at p t) (thread_of p q) < level_of p q
      low th (yes h) = omega (arith, depth-at p (words t t t) (thread_of p q) th)
      low th (no h) = absurd (n (record { real = l; thread = th; level = omega arith }))

-- the last region is the last thread's at the full depth
pub last-region : (s : Sizes) → 1 ≤ s.threads → 1 ≤ s.depth → region_at s (s.threads - 1) s.depth ≡ regions s
unfolding region_at
last-region s l d = go s.depth refl d
  where
    go : (k : ℕ) → k ≡ s.depth → 1 ≤ k → region_at s (s.threads - 1) k ≡ regions s
    go zero e m = absurd (omega arith)
    go (suc k) e m =
        let t : suc (s.threads - 1) ≡ s.threads = omega arith in
        omega (arith, suc-mul (s.threads - 1) s.depth, ap (λ (n : ℕ). n * s.depth) t)

-- ---- how many

module _ (s : Sizes) (depths : List ℕ) (d : 1 ≤ s.depth) (deep : (k : ℕ) → k < s.threads → slice_index depths k ≤ s.depth) where
  thread-at : (k j : ℕ) → j < s.depth → is_open s depths (suc (suc (s.depth * k + j))) ≡ nat_le (suc j) (slice_index depths k)
  unfolding is_open
  thread-at k j l =
      let e : s.depth * k + j ≡ k * s.depth + j = omega (arith, mul_comm s.depth k) in
      let f : suc (suc (s.depth * k + j)) - 2 ≡ k * s.depth + j = omega arith in
      ap (λ (b : Bool). b || nat_le (level_of s (suc (suc (s.depth * k + j)))) (slice_index depths (thread_of s (suc (suc (s.depth * k + j)))))) (ne_eqb (suc (suc (s.depth * k + j))) 1 (λ (z : suc (suc (s.depth * k + j)) ≡ 1). omega arith))
      ∙ ap₂ (λ (a b : ℕ). leb a (slice_index depths b)) (level f) (ap (λ (x : ℕ). x / s.depth) f ∙ flat-row k l)
    where
      level : suc (suc (s.depth * k + j)) - 2 ≡ k * s.depth + j → level_of s (suc (suc (s.depth * k + j))) ≡ suc j
      level f = ap (λ (x : ℕ). x % s.depth + 1) f ∙ omega (arith, flat-place k l)

  one-open : (k j x : ℕ) → j < s.depth → x ≡ suc (suc (s.depth * k + j)) → bit (is_open s depths x) ≡ bit (nat_lt j (slice_index depths k))
  one-open k j x l e = ap bit (ap (is_open s depths) e ∙ thread-at k j l)

  -- one for the control space, and as many for a thread as it is deep
  passed-threads : (n : ℕ) → n ≤ s.threads → passed (is_open s depths) (1 + s.depth * n) ≡ 1 + sum (λ k. slice_index depths k) n
  unfolding is_open
  passed-threads n l =
      sum-add (λ i. bit (is_open s depths (suc i))) 1 (s.depth * n)
      ∙ ap (λ (m : ℕ). 1 + m) (sum-blocks s.depth (λ i. bit (is_open s depths (suc (1 + i)))) (λ k. slice_index depths k) n block)
    where
      block : (k : ℕ) → k < n → sum (λ j. bit (is_open s depths (suc (1 + (s.depth * k + j))))) s.depth ≡ slice_index depths k
      block k m =
          sum_first (λ j. bit (is_open s depths (suc (1 + (s.depth * k + j))))) (slice_index depths k) s.depth (λ j h. one-open k j (suc (1 + (s.depth * k + j))) h (omega arith))
          ∙ omega (arith, deep k (omega arith))

  pub rows-counted : length (open_regions s depths) ≡ 1 + sum (λ k. slice_index depths k) s.threads
  unfolding open_regions
  rows-counted =
      let e : regions s ≡ 1 + s.depth * s.threads = omega (arith, mul_comm s.depth s.threads) in
      length-passing (is_open s depths) (regions s) ∙ ap (passed (is_open s depths)) e ∙ passed-threads s.threads (omega arith)

  -- an open region comes after those of the threads before it, and those around it
  pub turn_level : (n k : ℕ) → n < s.threads → 1 ≤ k → k ≤ slice_index depths n → Turn s depths (sum (λ i. slice_index depths i) n + k) (region_at s n k)
  unfolding region_at
  turn_level n zero l low m = absurd (omega arith)
  turn_level n (suc k) l low m =
      let e : s.depth * n ≡ n * s.depth = mul_comm s.depth n in
      let at : 1 + n * s.depth + suc k ≡ suc (suc (s.depth * n + k)) = omega arith in
      let before : 1 + n * s.depth + suc k - 1 ≡ 1 + s.depth * n + k = omega arith in
      let h : k < s.depth = omega (arith, deep n l) in
      let own : sum (λ j. bit (is_open s depths (suc (1 + s.depth * n + j)))) k ≡ min (slice_index depths n) k =
      sum_first (λ j. bit (is_open s depths (suc (1 + s.depth * n + j)))) (slice_index depths n) k (λ j i. one-open n j (suc (1 + s.depth * n + j)) (omega arith) (omega arith)) in
      let all : passed (is_open s depths) (1 + s.depth * n + k) ≡ sum (λ i. slice_index depths i) n + suc k =
      sum-add (λ i. bit (is_open s depths (suc i))) (1 + s.depth * n) k ∙ omega (arith, passed-threads n (omega arith), own) in
      record {
        low = omega arith;
        high = omega (arith, flat-low {t = n} {n = s.threads} {a = k} {v = s.depth} l h);
        before = ap (passed (is_open s depths)) before ∙ all;
        opened = λ z. ap (is_open s depths) at ∙ thread-at n k h ∙ lt-ltb k (slice_index depths n) m;
      }

-- ---- the rows, while the open regions are passed

module _ (p : Sizes) (t : List ℕ) (k q : ℕ) (at : Turn p (depths_at p t) k q) (l : k < length (rows_in p t)) where
  few : k < length (open_in p t)
  unfolding rows_in
  few = subst (λ (n : ℕ). k < n) (length-map (open_in p t) (row_in p t)) l

  pub turn-high : q ≤ regions p
  turn-high = turn-region p (depths_at p t) k q at few

  pub turn-row : row_in p t q ≡ slice_index_or (rows_in p t) k no_row
  unfolding rows_in
  turn-row = sym (get_d_map (row_in p t) (open_in p t) k 0 no_row few ∙ ap (row_in p t) (turn-open p (depths_at p t) k q at few))

-- A block that repeats commands, and what running it again and again answers.
use Rattle.std.specs.Prelude.{ℕ, ◌+◌, ◌*◌, ◌/◌, ◌%◌, ◌<◌, ◌≤◌, ◌≡◌, refl, Bool, ◌&&◌, List, [], ◌∷◌, length, get_or, set}
use Rattle.std.proofs.Common.{arith, ap, subst, ◌∙◌, length-set}
use Rattle.std.proofs.Math.Decide.{ℕ_discrete}
use Rattle.std.proofs.Math.Path.{sym}
use Rattle.std.proofs.Math.Dec.{eqb}
use Rattle.lists.specs.Counting.{bit, bit-le-one, sum, sum-high}
use Rattle.lists.specs.Stores.{put, past}
use Rattle.rules.specs.declared.Answer.{Answer}
use Rattle.promises.specs.Slices.{Slices}
use Rattle.promises.specs.Promises.{Ran, answer_at}

-- the block b became k, whose first i words repeat the commands
pub record Filled (commands b k : List ℕ) (i : ℕ) : Type 0 where
  pub long : length k ≡ length b
  pub repeats : (j : ℕ) → j < i → get_or k j 0 ≡ get_or commands (j % length commands) 0

pub filled_none : (commands b : List ℕ) → Filled commands b b 0
filled_none commands b = record { long = refl; repeats = λ j m. absurd (let z : ⊥ = omega arith in z) }

pub filled_more : {commands b k : List ℕ} {i : ℕ} → Filled commands b k i → i < length b
    → Filled commands b (set k i (get_or commands (i % length commands) 0)) (i + 1)
filled_more {commands} {b} {k} {i} f m =
    record { long = length-set k i (get_or commands (i % length commands) 0) ∙ f.long; repeats = λ j n. go j n (ℕ_discrete j i) }
  where
    go : (j : ℕ) → j < i + 1 → Dec (j ≡ i) → get_or (set k i (get_or commands (i % length commands) 0)) j 0 ≡ get_or commands (j % length commands) 0
    go j n (yes e) =
        ap (λ (x : ℕ). get_or (set k i (get_or commands (i % length commands) 0)) x 0) e
        ∙ put k i (get_or commands (i % length commands) 0) 0 (omega (arith, f.long))
        ∙ ap (λ (x : ℕ). get_or commands (x % length commands) 0) (sym e)
    go j n (no e) = past k i (get_or commands (i % length commands) 0) j 0 e ∙ f.repeats j (omega arith)

pub filled-to : {commands b k : List ℕ} {i j : ℕ} → Filled commands b k i → i ≡ j → Filled commands b k j
filled-to {commands} {b} {k} f e = subst (Filled commands b k) e f

-- whether answer i has this number and this value
unfoldable pub is_answer : List ℕ → ℕ → ℕ → ℕ → Bool
is_answer answers number value i = eqb (get_or answers (2 * i) 0) number && eqb (get_or answers (2 * i + 1) 0) value

-- how many answers have them
unfoldable pub answers_of : List ℕ → ℕ → ℕ → ℕ
answers_of answers number value = sum (λ i. bit (is_answer answers number value i)) (length answers / 2)

-- n is their count as the code has it
pub answers-few : (answers : List ℕ) (number value n : ℕ) → n ≡ answers_of answers number value → length answers ≤ 6000 → n ≤ 3000
unfolding answers_of
answers-few answers number value n e few =
    omega (arith, sum-high (λ i. bit (is_answer answers number value i)) 1 (length answers / 2) (λ i h. bit-le-one (is_answer answers number value i)))

-- the block was run n times, from the slices l and the answer slice lent to l' and a, and k answers had this number and this value
pub data Repeated (block : List ℕ) (number value : ℕ) (l : Slices) (lent : List ℕ) : ℕ → Slices → List ℕ → ℕ → Type 0 where
  none : Repeated block number value l lent 0 l lent 0
  more : {n q k r : ℕ} {l₁ l₂ : Slices} {a₁ a₂ : List ℕ} → Repeated block number value l lent n l₁ a₁ k → Ran l₁ block a₁ q l₂ a₂
      → r ≡ answers_of a₂ number value → Repeated block number value l lent (n + 1) l₂ a₂ (k + r)

pub repeated-to : {block : List ℕ} {number value : ℕ} {l l' : Slices} {lent a : List ℕ} {i j k : ℕ} → Repeated block number value l lent i l' a k → i ≡ j
    → Repeated block number value l lent j l' a k
repeated-to {block} {number} {value} {l} {l'} {lent} {a} {k = k} r e = subst (λ (n : ℕ). Repeated block number value l lent n l' a k) e r

-- one command without operands, of thread 0, was run in a block of its own and answered r
pub record Obeyed (l : Slices) (code : ℕ) (l' : Slices) (r : Answer) : Type 0 where
  pub q : ℕ
  pub answers : List ℕ
  pub ran : Ran l (code ∷ 0 ∷ 0 ∷ 0 ∷ 0 ∷ []) (1 ∷ 1 ∷ []) q l' answers
  pub answer : r ≡ answer_at answers 0

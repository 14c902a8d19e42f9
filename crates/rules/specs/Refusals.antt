-- The refusals by the numbers of their questions, and the answers to them (01, "The questions, in order").
use Rattle.std.specs.Prelude.{ℕ, ◌≢◌, Result, Ok, Err, ⊤}
use Rattle.std.proofs.Common.{arith}
use Rattle.rules.specs.declared.Refusal.{Refusal}
use Rattle.rules.specs.declared.Refusal.TheVariants as R
use Rattle.rules.specs.Terms.{Answer, refused, done}

abbrev pub number_of : Refusal → ℕ
number_of R.Sizes = 1
number_of R.Short = 2
number_of R.NotWhole = 3
number_of R.Block = 4
number_of R.Answers = 5
number_of R.Code = 6
number_of R.Thread = 7
number_of R.Operand = 8
number_of R.Null = 9
number_of R.Field = 10
number_of R.Depth = 11
number_of R.NoEpoch = 12
number_of R.Pages = 13
number_of R.Entries = 14
number_of R.Rows = 15
number_of R.Chains = 16

-- the number of a question is not 0
pub question-nonzero : (q : Refusal) → number_of q ≢ 0
question-nonzero q =
    elim q as (λ r. number_of r ≢ 0) [
      | R.Sizes ↦ λ e. omega arith
      | R.Short ↦ λ e. omega arith
      | R.NotWhole ↦ λ e. omega arith
      | R.Block ↦ λ e. omega arith
      | R.Answers ↦ λ e. omega arith
      | R.Code ↦ λ e. omega arith
      | R.Thread ↦ λ e. omega arith
      | R.Operand ↦ λ e. omega arith
      | R.Null ↦ λ e. omega arith
      | R.Field ↦ λ e. omega arith
      | R.Depth ↦ λ e. omega arith
      | R.NoEpoch ↦ λ e. omega arith
      | R.Pages ↦ λ e. omega arith
      | R.Entries ↦ λ e. omega arith
      | R.Rows ↦ λ e. omega arith
      | R.Chains ↦ λ e. omega arith
    ]

-- 0 if no question says no
abbrev pub asked : Result ⊤ Refusal → ℕ
asked (Ok _) = 0
asked (Err q) = number_of q

-- the answer to a command that is done with a value, or refused
abbrev pub answer_of : Result ℕ Refusal → Answer
answer_of (Ok v) = done v
answer_of (Err q) = refused (number_of q)

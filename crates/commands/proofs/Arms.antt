-- The arms of the decoding: what each gives is what the command decodes to.
use Rattle.std.specs.Prelude.{◌≡◌, ℕ, zero, suc, ◌≤◌, Bool, true, false, ◌≢◌, nat_lt, Result, Err, refl}
use Rattle.std.proofs.Common.{sym, ap, ap₂, ◌∙◌, arith}
use Rattle.std.proofs.Math.Path.{subst}
use Rattle.lists.specs.Says.{true-not-false}
use Rattle.rules.specs.declared.Sizes.{Sizes}
use Rattle.rules.specs.declared.Command.{Command}
use Rattle.rules.specs.Terms.{Code, unknown, decode, ask, limits, done}
use Rattle.rules.specs.declared.Refusal.{Refusal}
use Rattle.rules.specs.declared.Refusal.TheVariants as R
use Rattle.rules.specs.NeverFreeing.{operands, known}
use Rattle.commands.specs.declared.Decoded.{Decoded}
use Rattle.commands.specs.Decoding.{checked_by, named, known-then, decoded_by, decoded_of, decoded_answer, asked, Decodes, past-codes}

-- where the command that the code names is not refused yet
decodes : (s : Sizes) (m : Command) {d : Result Decoded Refusal} → d ≡ decoded_of s m → (known (decode m.code) ≡ true → decoded_answer (named (decode m.code) m.thread m.a m.b m.c) ≡ done 0)
    → Decodes s m d
unfolding asked decoded_by ask
decodes s m e z =
    record { answer = ap decoded_answer e ∙ go (known (decode m.code)) (nat_lt m.thread s.threads) (operands (limits s) (decode m.code) m.a m.b m.c) _ z; command = e }
  where
    go : (k x y : Bool) (d : Result Decoded Refusal) → (k ≡ true → decoded_answer d ≡ done 0) → decoded_answer (known-then k (checked_by x y d)) ≡ record { number = ask k 6 (ask x 7 (ask y 8 0)); value = 0 }
    go false x y d z = refl
    go true false y d z = refl
    go true true false d z = refl
    go true true true d z = z refl

-- an arm of the match: v is the test of the operands as the code has it
pub arm : (s : Sizes) (m : Command) (o : Code) → decode m.code ≡ o → known o ≡ true → decoded_answer (named o m.thread m.a m.b m.c) ≡ done 0
    → (v : Bool) → v ≡ operands (limits s) o m.a m.b m.c → {r : Result Decoded Refusal} → r ≡ checked_by (nat_lt m.thread s.threads) v (named o m.thread m.a m.b m.c) → Decodes s m r
unfolding decoded_by
arm s m o e k z v ev {r} er =
    decodes s m
    (er ∙ ap₂ (λ (x y : Bool). known-then x (checked_by (nat_lt m.thread s.threads) y (named o m.thread m.a m.b m.c))) (sym k) ev ∙ ap (λ (x : Code). decoded_by s x m.thread m.a m.b m.c) (sym e))
    (λ y. subst (λ (x : Code). decoded_answer (named x m.thread m.a m.b m.c) ≡ done 0) (sym e) z)

next_up : {n k : ℕ} → k ≤ n → (n ≢ k) → suc k ≤ n
next_up h f = omega arith

pub other-code : (s : Sizes) (m : Command) → (m.code ≢ 1) → (m.code ≢ 2) → (m.code ≢ 3) → (m.code ≢ 4) → (m.code ≢ 5) → (m.code ≢ 6)
    → (m.code ≢ 7) → (m.code ≢ 8) → (m.code ≢ 9) → (m.code ≢ 10) → (m.code ≢ 11) → Decodes s m (Err R.Code)
unfolding decoded_by
other-code s m a b c d e f g h i j k =
    let u = go m.code refl in
    decodes s m (sym (ap (λ (z : Code). decoded_by s z m.thread m.a m.b m.c) u)) (λ y. absurd (true-not-false (sym (ap known u) ∙ y)))
  where
    go : (n : ℕ) → m.code ≡ n → decode m.code ≡ unknown
    go zero z = ap decode z
    go (suc n) z =
        past-codes m.code (next_up (next_up (next_up (next_up (next_up (next_up (next_up (next_up (next_up (next_up (next_up (omega arith) a) b) c) d) e) f) g) h) i) j) k)

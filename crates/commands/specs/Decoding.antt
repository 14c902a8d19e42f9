-- What a command's five words decode to, and that its number is the rules' answer to questions 6, 7 and 8.
use Rattle.std.specs.Prelude.{◌≡◌, ℕ, zero, suc, ◌+◌, ◌<◌, ◌≤◌, Bool, true, false, ◌&&◌, List, map, length, ◌==◌, ◌≢◌, nat_le, nat_lt, slice_index, Result, Ok, Err, refl}
use Rattle.std.proofs.Common.{sym, ap, ap₂, ◌∙◌, ltb-true, leb-true, eqb-true, arith}
use Rattle.std.proofs.Math.Path.{subst}
use Rattle.std.proofs.Math.Decide.{dec_lt}
use Rattle.std.proofs.Math.ListN.{get_or-map, get_or-eq_default}
use Rattle.lists.specs.Says.{true-not-false}
use Rattle.lists.specs.Listed.{listed, get_d-listed}
use Rattle.lists.specs.Tests.{both_true}
use Rattle.rules.specs.declared.Sizes.{Sizes}
use Rattle.rules.specs.declared.Command.{Command}
use Rattle.rules.specs.Terms.{Code, unknown, start, end, new, copy, clear, load, store, read, write, same, collect, codes, decode, ask, limits, refused, done, first}
use Rattle.rules.specs.declared.Answer.{Answer}
use Rattle.rules.specs.declared.Refusal.{Refusal}
use Rattle.rules.specs.declared.Refusal.TheVariants as R
use Rattle.rules.specs.Refusals as refusals
use Rattle.rules.specs.NeverFreeing.{NeverFreeing, operands, known, question, state}
use Rattle.layout.specs.Cells.{most_fields}
use Rattle.commands.specs.declared.Decoded.{Decoded}
use Rattle.commands.specs.declared.Decoded.TheVariants.{Start, End, New, Copy, Clear, Load, Store, Read, Write, Same, Collect}

-- questions 7 and 8, then the command
abbrev pub checked_by : Bool → Bool → Result Decoded Refusal → Result Decoded Refusal
checked_by false y d = Err R.Thread
checked_by true false d = Err R.Operand
checked_by true true d = d

-- the command that a code names
abbrev pub named : Code → ℕ → ℕ → ℕ → ℕ → Result Decoded Refusal
named unknown t a b c = Err R.Code
named start t a b c = Ok (Start t)
named end t a b c = Ok (End t)
named new t a b c = Ok (New t a b c)
named copy t a b c = Ok (Copy t a b c)
named clear t a b c = Ok (Clear t a)
named load t a b c = Ok (Load t a b c)
named store t a b c = Ok (Store t a b c)
named read t a b c = Ok (Read t a b)
named write t a b c = Ok (Write t a b c)
named same t a b c = Ok (Same t a b)
named collect t a b c = Ok (Collect t)

abbrev pub known-then : Bool → Result Decoded Refusal → Result Decoded Refusal
known-then true d = d
known-then false d = Err R.Code

unfoldable pub decoded_by : Sizes → Code → ℕ → ℕ → ℕ → ℕ → Result Decoded Refusal
decoded_by s o t a b c = known-then (known o) (checked_by (nat_lt t s.threads) (operands (limits s) o a b c) (named o t a b c))

abbrev pub decoded_of : Sizes → Command → Result Decoded Refusal
decoded_of s m = decoded_by s (decode m.code) m.thread m.a m.b m.c

-- 01's number and value of a decoded command: its refusal, or 0 and 0 where it is not refused yet
abbrev pub decoded_answer : Result Decoded Refusal → Answer
decoded_answer (Ok d) = done 0
decoded_answer (Err q) = refused (refusals.number_of q)

abbrev pub number_of : Result Decoded Refusal → ℕ
number_of d = (decoded_answer d).number

-- questions 6, 7 and 8, by the rules' own tests
unfoldable pub asked : Sizes → Command → ℕ
asked s m =
    ask (known (decode m.code)) 6 (ask (nat_lt m.thread s.threads) 7 (ask (operands (limits s) (decode m.code) m.a m.b m.c) 8 0))

-- the answer of these questions: the number of the first that says no, 0 if none does; the value is 0 either way
abbrev pub asked_answer : Sizes → Command → Answer
asked_answer s m = record { number = asked s m; value = 0 }

-- d is command m decoded, and its answer is that of questions 6, 7 and 8
pub record Decodes (s : Sizes) (m : Command) (d : Result Decoded Refusal) : Type 0 where
  pub answer : decoded_answer d ≡ asked_answer s m
  pub command : d ≡ decoded_of s m

ask-first : (k x y : Bool) (q : ℕ) → ask k 6 (ask x 7 (ask y 8 q)) ≡ first (ask k 6 (ask x 7 (ask y 8 0))) q
unfolding ask
ask-first false x y q = refl
ask-first true false y q = refl
ask-first true true false q = refl
ask-first true true true q = refl

-- and the questions that follow, 9 to 12, are asked where it is 0
pub question-first : (s : Sizes) (n : NeverFreeing) (m : Command)
    → question (limits s) n m ≡ first (asked s m) (state (limits s) n m)
unfolding question asked
question-first s n m = ask-first (known (decode m.code)) (nat_lt m.thread s.threads) (operands (limits s) (decode m.code) m.a m.b m.c) _

all_true : (k x y : Bool) → ask k 6 (ask x 7 (ask y 8 0)) ≡ 0 → (k ≡ true) × (x ≡ true) × (y ≡ true)
unfolding ask
all_true false x y e = absurd (omega arith)
all_true true false y e = absurd (omega arith)
all_true true true false e = absurd (omega arith)
all_true true true true e = (refl, refl, refl)

-- a command that is not refused is the one that its code names
pub decoded-named : (s : Sizes) (m : Command) → asked s m ≡ 0
    → decoded_of s m ≡ named (decode m.code) m.thread m.a m.b m.c
unfolding asked decoded_by
decoded-named s m e =
    let r = all_true (known (decode m.code)) (nat_lt m.thread s.threads) (operands (limits s) (decode m.code) m.a m.b m.c) e in
    let o = operands (limits s) (decode m.code) m.a m.b m.c in
    let d = named (decode m.code) m.thread m.a m.b m.c in
    ap₂ (λ (k x : Bool). known-then k (checked_by x o d)) r.0 r.1 ∙ ap (λ (y : Bool). checked_by true y d) r.2

-- a number past the codes is not known
pub past-codes : (n : ℕ) → length codes ≤ n → decode n ≡ unknown
past-codes n h = get_or-eq_default codes unknown {n = n} h

-- ---- back from a decoded command to its words

-- the five words that a decoded command stands for
abbrev pub command_for : Decoded → Command
command_for (Start t) = record { code = 1; thread = t; a = 0; b = 0; c = 0 }
command_for (End t) = record { code = 2; thread = t; a = 0; b = 0; c = 0 }
command_for (New t a b c) = record { code = 3; thread = t; a = a; b = b; c = c }
command_for (Copy t a b c) = record { code = 4; thread = t; a = a; b = b; c = c }
command_for (Clear t a) = record { code = 5; thread = t; a = a; b = 0; c = 0 }
command_for (Load t a b c) = record { code = 6; thread = t; a = a; b = b; c = c }
command_for (Store t a b c) = record { code = 7; thread = t; a = a; b = b; c = c }
command_for (Read t a b) = record { code = 8; thread = t; a = a; b = b; c = 0 }
command_for (Write t a b c) = record { code = 9; thread = t; a = a; b = b; c = c }
command_for (Same t a b) = record { code = 10; thread = t; a = a; b = b; c = 0 }
command_for (Collect t) = record { code = 11; thread = t; a = 0; b = 0; c = 0 }

-- its operands are in range
abbrev pub Within : Sizes → Decoded → Type 0
Within s (Start t) = t < s.threads
Within s (End t) = t < s.threads
Within s (New t a b c) = (t < s.threads) × (a < s.variables) × (b + c ≤ most_fields)
Within s (Copy t a b c) = (t < s.threads) × (a < s.variables) × (b < s.variables) × (c < s.threads)
Within s (Clear t a) = (t < s.threads) × (a < s.variables)
Within s (Load t a b c) = (t < s.threads) × (a < s.variables) × (b < s.variables)
Within s (Store t a b c) = (t < s.threads) × (a < s.variables) × (c < s.variables)
Within s (Read t a b) = (t < s.threads) × (a < s.variables)
Within s (Write t a b c) = (t < s.threads) × (a < s.variables)
Within s (Same t a b) = (t < s.threads) × (a < s.variables) × (b < s.variables)
Within s (Collect t) = t < s.threads

pub record Means (s : Sizes) (m : Command) (d : Decoded) : Type 0 where
  pub command : m ≡ command_for d
  pub within : Within s d

-- a code's number, as its command has it: its place in the list of codes
abbrev code_in : Result Decoded Refusal → ℕ
code_in (Ok d) = (command_for d).code
code_in (Err q) = 0

abbrev code_of : Code → ℕ
code_of o = code_in (named o 0 0 0 0)

-- what is decoded and not refused is the command
abbrev Meant : Sizes → Command → Result Decoded Refusal → Type 0
Meant s m (Ok d) = Means s m d
Meant s m (Err q) = Unit {0}

numbers : map code_of codes ≡ listed (λ n. n) (length codes)
unfolding listed
numbers = refl

code-back : (n : ℕ) → known (decode n) ≡ true → n ≡ code_of (decode n)
code-back n e = go (dec_lt n (length codes))
  where
    go : Dec (n < length codes) → n ≡ code_of (decode n)
    go (yes l) = sym (sym (get_or-map code_of codes n unknown) ∙ ap (λ (ns : List ℕ). slice_index ns n) numbers ∙ get_d-listed (λ n. n) (length codes) n 0 l)
    go (no l) = absurd (true-not-false (sym (ap known (past-codes n (omega arith))) ∙ e))

three : (x y z : Bool) → (x && y && z) ≡ true → (x ≡ true) × (y ≡ true) × (z ≡ true)
three x y z e = let p = both_true (x && y) z e in let q = both_true x y p.0 in (q.0, q.1, p.1)

spelt : {n n' t a a' b b' c c' : ℕ} → n ≡ n' → a ≡ a' → b ≡ b' → c ≡ c'
    → ◌≡◌ {A = Command} (record { code = n; thread = t; a = a; b = b; c = c }) (record { code = n'; thread = t; a = a'; b = b'; c = c' })
spelt {t = t} e ea eb ec = λ i. record { code = e i; thread = t; a = ea i; b = eb i; c = ec i }

back_by : (s : Sizes) (o : Code) (n t a b c : ℕ) → n ≡ code_of o → known o ≡ true → t < s.threads → operands (limits s) o a b c ≡ true
    → Meant s (record { code = n; thread = t; a = a; b = b; c = c }) (named o t a b c)
unfolding operands
back_by s unknown n t a b c e k l q = absurd (true-not-false k)
back_by s start n t a b c e k l q =
    let r = three (a == 0) (b == 0) (c == 0) q in record { command = spelt e (eqb-true a 0 r.0) (eqb-true b 0 r.1) (eqb-true c 0 r.2); within = l }
back_by s end n t a b c e k l q =
    let r = three (a == 0) (b == 0) (c == 0) q in record { command = spelt e (eqb-true a 0 r.0) (eqb-true b 0 r.1) (eqb-true c 0 r.2); within = l }
back_by s new n t a b c e k l q =
    let r = both_true (nat_lt a s.variables) (nat_le (b + c) most_fields) q in record { command = spelt e refl refl refl; within = (l, ltb-true a s.variables r.0, leb-true (b + c) most_fields r.1) }
back_by s copy n t a b c e k l q =
    let r = three (nat_lt a s.variables) (nat_lt b s.variables) (nat_lt c s.threads) q in
    record { command = spelt e refl refl refl; within = (l, ltb-true a s.variables r.0, ltb-true b s.variables r.1, ltb-true c s.threads r.2) }
back_by s clear n t a b c e k l q =
    let r = three (nat_lt a s.variables) (b == 0) (c == 0) q in
    record { command = spelt e refl (eqb-true b 0 r.1) (eqb-true c 0 r.2); within = (l, ltb-true a s.variables r.0) }
back_by s load n t a b c e k l q =
    let r = both_true (nat_lt a s.variables) (nat_lt b s.variables) q in
    record { command = spelt e refl refl refl; within = (l, ltb-true a s.variables r.0, ltb-true b s.variables r.1) }
back_by s store n t a b c e k l q =
    let r = both_true (nat_lt a s.variables) (nat_lt c s.variables) q in
    record { command = spelt e refl refl refl; within = (l, ltb-true a s.variables r.0, ltb-true c s.variables r.1) }
back_by s read n t a b c e k l q =
    let r = both_true (nat_lt a s.variables) (c == 0) q in record { command = spelt e refl refl (eqb-true c 0 r.1); within = (l, ltb-true a s.variables r.0) }
back_by s write n t a b c e k l q = record { command = spelt e refl refl refl; within = (l, ltb-true a s.variables q) }
back_by s same n t a b c e k l q =
    let r = three (nat_lt a s.variables) (nat_lt b s.variables) (c == 0) q in
    record { command = spelt e refl refl (eqb-true c 0 r.2); within = (l, ltb-true a s.variables r.0, ltb-true b s.variables r.1) }
back_by s collect n t a b c e k l q =
    let r = three (a == 0) (b == 0) (c == 0) q in record { command = spelt e (eqb-true a 0 r.0) (eqb-true b 0 r.1) (eqb-true c 0 r.2); within = l }

asked-number : {s : Sizes} {m : Command} {d : Result Decoded Refusal} → Decodes s m d → asked s m ≡ number_of d
asked-number g = sym (ap (λ (a : Answer). a.number) g.answer)

-- what was decoded and not refused is the command
pub decoded-means : {s : Sizes} {m : Command} {d : Decoded} → Decodes s m (Ok d) → Means s m d
unfolding asked
decoded-means {s} {m} {d} g =
    let f : asked s m ≡ 0 = asked-number g in
    let r = all_true (known (decode m.code)) (nat_lt m.thread s.threads) (operands (limits s) (decode m.code) m.a m.b m.c) f in
    subst (Meant s m) (sym (g.command ∙ decoded-named s m f))
    (back_by s (decode m.code) m.code m.thread m.a m.b m.c (code-back m.code r.0) r.0 (ltb-true m.thread s.threads r.1) r.2)

-- the number of what was refused is not 0
pub refused-number : {s : Sizes} {m : Command} (q : Refusal) → Decodes s m (Err q) → 0 < refusals.number_of q
refused-number q g = omega (arith, refusals.question-nonzero q)

first-pos : (x y : ℕ) → 0 < x → first x y ≡ x
first-pos zero y l = absurd (let o : ⊥ = omega arith in o)
first-pos (suc x) y l = refl

-- and what was refused is refused by the rules, with the same number
pub decoded-refused : {s : Sizes} {m : Command} (q : Refusal) → Decodes s m (Err q) → (n : NeverFreeing) → question (limits s) n m ≡ refusals.number_of q
decoded-refused {s} {m} q g n =
    question-first s n m ∙ ap (λ (x : ℕ). first x (state (limits s) n m)) (asked-number g) ∙ first-pos (refusals.number_of q) (state (limits s) n m) (refused-number q g)

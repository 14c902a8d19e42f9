-- A command's line has ten bytes at least: five digits, four spaces and the line feed. So few commands end in a piece of a text.
use Rattle.std.specs.Prelude.{ℕ, suc, ◌+◌, ◌*◌, ◌-◌, ◌≤◌, List, [], ◌∷◌, ◌++◌, Bool, true, false, cond, not, ◌&&◌, ◌≡◌, refl, length, eqb, ltb}
use Rattle.std.proofs.Common.{ap, arith, eqb-true}
use Rattle.lists.specs.Says.{true-not-false}
use Rattle.lists.specs.Tests.{both_true}
use Rattle.script.specs.Text.{Line, numbers, malformed_line}
use Rattle.std.specs.Prelude.{Ok, Err}
use Rattle.script.specs.declared.Reader.{Reader}
use Rattle.script.specs.declared.Step.TheVariants.{More, Ended}
use Rattle.script.specs.Text.{is_digit}
use Rattle.script.specs.Reading.{digits, number, started, spoilt, completed, numbering, spaced, digited, next_of, end_of, step_of}
use Rattle.script.specs.TextLaws.{found}

-- how many of these lines are five numbers
unfoldable pub command_count : List Line → ℕ
command_count [] = 0
command_count (Ok ns ∷ ls) = suc (command_count ls)
command_count (Err e ∷ ls) = command_count ls

pub count-append : (ls ks : List Line) → command_count (ls ++ ks) ≡ command_count ls + command_count ks
unfolding command_count
count-append [] ks = omega arith
count-append (Ok ns ∷ ls) ks = omega (arith, count-append ls ks)
count-append (Err e ∷ ls) ks = count-append ls ks

-- how many bytes a line needs at least before a line feed can end it as five numbers
unfoldable bytes_needed : Reader → ℕ
bytes_needed r = cond r.malformed 9 (9 - (2 * r.complete + cond (digits r) 1 0))

needed-most : (r : Reader) → bytes_needed r ≤ 9
unfolding bytes_needed
needed-most r = go r.malformed
  where
    go : (m : Bool) → cond m 9 (9 - (2 * r.complete + cond (digits r) 1 0)) ≤ 9
    go true = omega arith
    go false = omega arith

needed-started : bytes_needed started ≡ 9
unfolding bytes_needed
needed-started = refl

-- a byte brings one of them at most
needed-next : (r : Reader) (b : ℕ) → bytes_needed r ≤ bytes_needed (next_of r b) + 1
unfolding bytes_needed next_of spaced digited
needed-next r b = go (eqb b 32) (is_digit b)
  where
    spoils : bytes_needed r ≤ bytes_needed spoilt + 1
    spoils = omega (arith, needed-most r)

    completes : (m : Bool) → (digits r) ≡ true → cond m 9 (9 - (2 * r.complete + cond (digits r) 1 0)) ≤ cond m 9 (9 - (2 * (r.complete + 1) + 0)) + 1
    completes true e = omega arith
    completes false e = omega (arith, ap (λ (d : Bool). cond {A = ℕ} d 1 0) e)

    space : (d t : Bool) → (digits r) ≡ d → bytes_needed r ≤ bytes_needed (cond (d && t) (completed r) spoilt) + 1
    space true true e = completes r.malformed e
    space true false e = spoils
    space false t e = spoils

    numbers : (m : Bool) → cond m 9 (9 - (2 * r.complete + cond (digits r) 1 0)) ≤ cond m 9 (9 - (2 * r.complete + 1)) + 1
    numbers true = omega arith
    numbers false = omega arith

    digit : (t : Bool) (n : ℕ) → bytes_needed r ≤ bytes_needed (cond t (numbering r n) spoilt) + 1
    digit true n = numbers r.malformed
    digit false n = spoils

    go : (s d : Bool) → bytes_needed r ≤ bytes_needed (cond s (spaced r) (cond d (digited r (b - 48)) spoilt)) + 1
    go true d = space (digits r) (ltb r.complete 4) refl
    go false true = digit (ltb (10 * (number r) + (b - 48)) 4_294_967_296) (10 * (number r) + (b - 48))
    go false false = spoils

-- a line that ends as five numbers lacks none
needed-none : (r : Reader) → (not r.malformed && ((digits r) && eqb r.complete 4)) ≡ true → bytes_needed r ≡ 0
unfolding bytes_needed
needed-none r e = go r.malformed (both_true (not r.malformed) ((digits r) && eqb r.complete 4) e)
  where
    go : (m : Bool) → (not m ≡ true) × (((digits r) && eqb r.complete 4) ≡ true) → cond m 9 (9 - (2 * r.complete + cond (digits r) 1 0)) ≡ 0
    go true p = absurd (true-not-false p.0)
    go false p =
        let q = both_true (digits r) (eqb r.complete 4) p.1 in
        omega (arith, eqb-true r.complete 4 q.1, ap (λ (t : Bool). cond {A = ℕ} t 1 0) q.0)

commands-needed : (bs : List ℕ) (r : Reader) → 10 * command_count (found r bs) + bytes_needed r ≤ length bs + 9
unfolding found command_count step_of end_of
commands-needed [] r = omega (arith, needed-most r)
commands-needed (b ∷ bs) r = go (eqb b 10) (commands-needed bs (next_of r b)) (commands-needed bs started)
  where
    ended : 10 * command_count (found started bs) + bytes_needed started ≤ length bs + 9 → (t : Bool) → (not r.malformed && ((digits r) && eqb r.complete 4)) ≡ t
        → 10 * command_count (cond t (numbers r.first r.second r.third r.fourth (number r)) malformed_line ∷ found started bs) + bytes_needed r ≤ suc (length bs) + 9
    ended k true e = omega (arith, needed-started, needed-none r e)
    ended k false e = omega (arith, needed-started, needed-most r)

    go : (t : Bool) → 10 * command_count (found (next_of r b) bs) + bytes_needed (next_of r b) ≤ length bs + 9 → 10 * command_count (found started bs) + bytes_needed started ≤ length bs + 9
        → 10 * command_count (elim (cond t (Ended (end_of r)) (More (next_of r b))) as (λ x. List Line) [ More s ↦ found s bs | Ended l ↦ l ∷ found started bs ]) + bytes_needed r ≤ suc (length bs) + 9
    go true h k = ended k (not r.malformed && ((digits r) && eqb r.complete 4)) refl
    go false h k = omega (arith, needed-next r b)

-- The first of them may have begun before the piece.
pub commands-few : (bs : List ℕ) (r : Reader) → 10 * command_count (found r bs) ≤ length bs + 9
commands-few bs r = omega (arith, commands-needed bs r)

-- The regioned heap answers as the heap that never frees does, when that is given the commands less those refused with 13 or 14.
use Rattle.std.specs.Prelude.{ℕ, zero, suc, ◌≤◌, ◌≡◌, refl, ◌⊎◌, List, [], ◌∷◌, Bool, true, false, cond, not, ◌||◌, leb, eqb}
use Rattle.std.proofs.Common.{arith, sym, subst, ◌∙◌, inl, inr, ne_eqb}
use Rattle.std.proofs.Math.Path.{ap, ap₂}
use Rattle.lists.specs.Members.{keep}
use Rattle.rules.specs.declared.Sizes.{Sizes}
use Rattle.rules.specs.declared.Command.{Command}
use Rattle.rules.specs.declared.Answer.{Answer}
use Rattle.rules.specs.Terms.{refused, ask, Limits, limits, first}
use Rattle.rules.specs.NeverFreeing as nf
use Rattle.rules.specs.NeverFreeing.{Access, no_field, references, numbers, accessed, Effect, opens, ends, collects, makes, assigns, meaning_of, nested}
use Rattle.rules.specs.Graph.{crossing, free_pages, new_pages}
use Rattle.rules.specs.Rules as ru
use Rattle.rules.specs.Rules.{Regioned, graph, asks_entries, lacking}

ask-le : (b : Bool) (q rest : ℕ) → q ≤ 12 → rest ≤ 12 → ask b q rest ≤ 12
unfolding ask
ask-le true q rest h k = k
ask-le false q rest h k = h

accessed-le : (s : Limits) (n : nf.NeverFreeing) (t : ℕ) (x : Access) (rest : ℕ) → rest ≤ 12 → accessed s n t x rest ≤ 12
accessed-le s n t no_field rest h = h
accessed-le s n t (references a f) rest h = ask-le _ 9 _ (omega arith) (ask-le _ 10 rest (omega arith) h)
accessed-le s n t (numbers a f) rest h = ask-le _ 9 _ (omega arith) (ask-le _ 10 rest (omega arith) h)

nested-le : (s : Limits) (n : nf.NeverFreeing) (t : ℕ) (e : Effect) → nested s n t e ≤ 12
nested-le s n t opens = ask-le _ 11 0 (omega arith) (omega arith)
nested-le s n t ends = ask-le _ 12 0 (omega arith) (omega arith)
nested-le s n t collects = omega arith
nested-le s n t (makes a b c) = omega arith
nested-le s n t (assigns x) = omega arith

-- the never-freeing heap refuses with 6 to 12 only
pub question-le : (s : Limits) (n : nf.NeverFreeing) (m : Command) → nf.question s n m ≤ 12
unfolding nf.question nf.state
question-le s n m =
    ask-le _ 6 _ (omega arith) (ask-le _ 7 _ (omega arith) (ask-le _ 8 _ (omega arith)
    (accessed-le s n m.thread (meaning_of m).access _ (nested-le s n m.thread (meaning_of m).effect))))

-- ours adds 13 and 14 only
room-cases : (s : Sizes) (h : Regioned) (m : Command) (h' : Regioned) → (ru.room s h m h' ≡ 0) ⊎ (lacking (refused (ru.room s h m h')) ≡ true)
unfolding ru.room ask
room-cases s h m h' = go (leb (new_pages s (graph h) (graph h')) (free_pages s (graph h))) (asks_entries (meaning_of m).effect) (leb (crossing (graph h')) s.entries)
  where
    go : (a b c : Bool) → (ask a 13 (cond b (ask c 14 0) 0) ≡ 0) ⊎ (lacking (refused (ask a 13 (cond b (ask c 14 0) 0))) ≡ true)
    go true true true = inl refl
    go true true false = inr refl
    go true false c = inl refl
    go false b c = inr refl

-- a command is refused for want of pages or entries, and changes nothing; or it does what it does on the heap that never frees
pub data Agrees (s : Sizes) (h : Regioned) (m : Command) : Type 0 where
  lacks : (ru.step s h m).next ≡ h → lacking (ru.step s h m).answer ≡ true → Agrees s h m
  agrees : (nf.step (limits s) h.heap m).heap ≡ (ru.step s h m).next.heap → (nf.step (limits s) h.heap m).answer ≡ (ru.step s h m).answer
      → lacking (ru.step s h m).answer ≡ false → Agrees s h m

pub step-agrees : (s : Sizes) (h : Regioned) (m : Command) → Agrees s h m
unfolding nf.answered ru.answered ru.after
step-agrees s h m = go (nf.question (limits s) h.heap m) refl (ru.room s h m (ru.after s h m)) refl (question-le (limits s) h.heap m) (room-cases s h m (ru.after s h m))
  where
    small : (q : ℕ) → q ≤ 12 → (eqb q 13 || eqb q 14) ≡ false
    small q l = ap₂ ◌||◌ (ne_eqb q 13 (omega arith)) (ne_eqb q 14 (omega arith))

    nf-is : (q : ℕ) → nf.question (limits s) h.heap m ≡ q → nf.step (limits s) h.heap m ≡ nf.answered (limits s) h.heap m q
    nf-is q e = unfold nf.step in ap (nf.answered (limits s) h.heap m) e

    ru-is : (q w : ℕ) → nf.question (limits s) h.heap m ≡ q → ru.room s h m (ru.after s h m) ≡ w → ru.step s h m ≡ ru.answered s h m (first q w)
    ru-is q w e f = unfold ru.step ru.question in ap₂ (λ (a b : ℕ). ru.answered s h m (first a b)) e f

    go : (q : ℕ) → nf.question (limits s) h.heap m ≡ q → (w : ℕ) → ru.room s h m (ru.after s h m) ≡ w → nf.question (limits s) h.heap m ≤ 12
        → (ru.room s h m (ru.after s h m) ≡ 0) ⊎ (lacking (refused (ru.room s h m (ru.after s h m))) ≡ true) → Agrees s h m
    go zero e zero f l r =
        let n = nf-is 0 e in
        let u = ru-is 0 0 e f in
        agrees (ap (λ (d : nf.Step). d.heap) n ∙ sym (ap (λ (d : ru.Step). d.next.heap) u)) (ap (λ (d : nf.Step). d.answer) n ∙ sym (ap (λ (d : ru.Step). d.answer) u))
        (ap (λ (d : ru.Step). lacking d.answer) u)
    go zero e (suc w) f l (inl r) = absurd (omega arith)
    go zero e (suc w) f l (inr r) =
        let u = ru-is 0 (suc w) e f in
        lacks (ap (λ (d : ru.Step). d.next) u) (ap (λ (d : ru.Step). lacking d.answer) u ∙ ap (λ (n : ℕ). lacking (refused n)) (sym f) ∙ r)
    go (suc q) e w f l r =
        let n = nf-is (suc q) e in
        let u = ru-is (suc q) w e f in
        agrees (ap (λ (d : nf.Step). d.heap) n ∙ sym (ap (λ (d : ru.Step). d.next.heap) u)) (ap (λ (d : nf.Step). d.answer) n ∙ sym (ap (λ (d : ru.Step). d.answer) u))
        (ap (λ (d : ru.Step). lacking d.answer) u ∙ small (suc q) (omega arith))

-- and so through a list of commands
pub run-agrees : (s : Sizes) (h : Regioned) (ms : List Command)
    → ((nf.run (limits s) h.heap (ru.allowed s h ms)).answers ≡ keep (λ a. not (lacking a)) (ru.run s h ms).answers) × ((nf.run (limits s) h.heap (ru.allowed s h ms)).last ≡ (ru.run s h ms).last.heap)
unfolding ru.allowed ru.run nf.run keep
run-agrees s h [] = (refl, refl)
run-agrees s h (m ∷ ms) = go (step-agrees s h m) (run-agrees s (ru.step s h m).next ms)
  where
    h' : Regioned
    h' = (ru.step s h m).next

    ms' : List Command
    ms' = ru.allowed s h' ms

    as' : List Answer
    as' = keep (λ a. not (lacking a)) (ru.run s h' ms).answers

    -- what is claimed, for the commands l and the answers k from the heap n
    Same : nf.NeverFreeing → List Command → List Answer → Type 0
    Same n l k = ((nf.run (limits s) n l).answers ≡ k) × ((nf.run (limits s) n l).last ≡ (ru.run s h' ms).last.heap)

    -- where the test comes out as t
    Come : Bool → Type 0
    Come t = Same h.heap (cond t ms' (m ∷ ms')) (cond (not t) ((ru.step s h m).answer ∷ as') as')

    go : Agrees s h m → Same h'.heap ms' as' → Come (lacking (ru.step s h m).answer)
    go (lacks e b) rest = subst Come (sym b) (subst (λ (n : nf.NeverFreeing). Same n ms' as') (ap (λ (k : Regioned). k.heap) e) rest)
    go (agrees e a b) rest =
        let r = subst (λ (n : nf.NeverFreeing). Same n ms' as') (sym e) rest in
        subst Come (sym b) (ap₂ (λ (x : Answer) (xs : List Answer). x ∷ xs) a r.0, r.1)

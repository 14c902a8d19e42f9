-- Questions of which none said no.
use Rattle.std.specs.Prelude.{ℕ, zero, suc, ◌+◌, ◌<◌, ◌≡◌, refl, Bool, true, false, T, ltb, leb}
use Rattle.std.proofs.Common.{arith}
use Rattle.std.proofs.Math.Dec.{ltb→lt}
use Rattle.lists.specs.Tests.{both_hold}
use Rattle.rules.specs.declared.Command.{Command}
use Rattle.rules.specs.Terms.{Code, unknown, start, end, new, copy, clear, load, store, read, write, same, collect, decode, ask, Limits, first}
use Rattle.rules.specs.NeverFreeing.{NeverFreeing, most_fields, operands, question, state, Access, no_field, references, numbers, accessed, nested}
use Rattle.rules.specs.NeverFreeing.{Effect, opens, ends, collects, makes, assigns, meaning, meaning_of}

pub ask-zero : (b : Bool) (q rest : ℕ) → ask b (suc q) rest ≡ 0 → T b × (rest ≡ 0)
unfolding ask
ask-zero true q rest e = (tt, e)
ask-zero false q rest e = absurd (omega arith)

pub first-zero : (q r : ℕ) → first q r ≡ 0 → (q ≡ 0) × (r ≡ 0)
first-zero zero r e = (refl, e)
first-zero (suc q) r e = absurd (omega arith)

-- the variable that a new object is put in is below V
abbrev pub MadeLow : Limits → Effect → Type 0
MadeLow s opens = Unit
MadeLow s ends = Unit
MadeLow s collects = Unit
MadeLow s (makes a b c) = a < s.variables
MadeLow s (assigns x) = Unit

made-low : (s : Limits) (o : Code) (t a b c : ℕ) → T (operands s o a b c) → MadeLow s (meaning o t a b c).effect
unfolding operands
made-low s unknown t a b c e = tt
made-low s start t a b c e = tt
made-low s end t a b c e = tt
made-low s new t a b c e = ltb→lt _ _ (both_hold (ltb a s.variables) (leb (b + c) most_fields) e).0
made-low s copy t a b c e = tt
made-low s clear t a b c e = tt
made-low s load t a b c e = tt
made-low s store t a b c e = tt
made-low s read t a b c e = tt
made-low s write t a b c e = tt
made-low s same t a b c e = tt
made-low s collect t a b c e = tt

accessed-zero : (s : Limits) (n : NeverFreeing) (t : ℕ) (x : Access) (rest : ℕ) → accessed s n t x rest ≡ 0 → rest ≡ 0
accessed-zero s n t no_field rest e = e
accessed-zero s n t (references a f) rest e = (ask-zero _ 9 _ (ask-zero _ 8 _ e).1).1
accessed-zero s n t (numbers a f) rest e = (ask-zero _ 9 _ (ask-zero _ 8 _ e).1).1

module _ (s : Limits) (n : NeverFreeing) (m : Command) (e : question s n m ≡ 0) where
  pub thread-ok : m.thread < s.threads
  unfolding question
  thread-ok = ltb→lt _ _ (ask-zero _ 6 _ (ask-zero _ 5 _ e).1).0

  -- of 8: a new object's variable is below V
  pub made_ok : MadeLow s (meaning_of m).effect
  unfolding question
  made_ok = made-low s (decode m.code) m.thread m.a m.b m.c (ask-zero _ 7 _ (ask-zero _ 6 _ (ask-zero _ 5 _ e).1).1).0

  -- 11 and 12
  pub nested-ok : nested s n m.thread (meaning_of m).effect ≡ 0
  unfolding question state
  nested-ok = accessed-zero s n m.thread (meaning_of m).access _ (ask-zero _ 7 _ (ask-zero _ 6 _ (ask-zero _ 5 _ e).1).1).1

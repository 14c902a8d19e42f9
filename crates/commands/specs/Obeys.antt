-- A command, decoded and done: the promise of one command, an end and a collection left to the caller.
use Rattle.std.specs.Prelude.{◌≡◌, ℕ, List, Result, Ok, refl}
use Rattle.std.proofs.Common.{sym, ap, subst, ◌∙◌}
use Rattle.rules.specs.declared.Sizes.{Sizes}
use Rattle.rules.specs.declared.Command.{Command}
use Rattle.rules.specs.declared.Answer.{Answer}
use Rattle.rules.specs.declared.Refusal.{Refusal}
use Rattle.rules.specs.Terms.{done}
use Rattle.layout.specs.Words.{Words, words}
use Rattle.promises.specs.Promises.{DidHere}
use Rattle.commands.specs.declared.Decoded.{Decoded}
use Rattle.commands.specs.declared.Decoded.TheVariants.{End, Collect}
use Rattle.commands.specs.declared.Obeyed.{Obeyed}
use Rattle.commands.specs.declared.Obeyed.TheVariants.{Answered, Ends, Collects}
use Rattle.commands.specs.Decoding.{command_for, decoded_answer, asked_answer, Decodes, Within, Means, decoded-means}
use Rattle.commands.specs.Does.{Does}

-- 01's number and value: an answer has its own; an end or a collection that is left to the caller is not refused yet
abbrev pub obeyed_answer : Obeyed → Answer
obeyed_answer (Answered a) = a
obeyed_answer (Ends u) = done 0
obeyed_answer (Collects u) = done 0

-- command x is d, an end or a collection; the answer so far, that of o, is that of questions 6 to 8, and nothing is changed yet
pub record LeftToCaller (s : Sizes) (w : Words) (x : Command) (w' : Words) (o : Obeyed) (d : Decoded) : Type 0 where
  pub answer : obeyed_answer o ≡ asked_answer s x
  pub command : x ≡ command_for d
  pub within : Within s d
  pub same : w' ≡ w

abbrev pub Obeys : Sizes → List ℕ → List ℕ → List ℕ → Command → List ℕ → List ℕ → List ℕ → Obeyed → Type 0
Obeys p c m t x c' m' t' (Answered a) = DidHere p (words c m t) x (words c' m' t') (obeyed_answer (Answered a))
Obeys p c m t x c' m' t' (Ends u) = LeftToCaller p (words c m t) x (words c' m' t') (Ends u) (End u)
Obeys p c m t x c' m' t' (Collects u) = LeftToCaller p (words c m t) x (words c' m' t') (Collects u) (Collect u)

-- d is what x was decoded to
module _ (p : Sizes) (c m t : List ℕ) (x : Command) (d : Result Decoded Refusal) (g : Decodes p x d) where
  means : (e : Decoded) → d ≡ Ok e → Means p x e
  means e f = decoded-means (subst (Decodes p x) f g)

  -- its operands are in range
  pub in-range : (e : Decoded) → d ≡ Ok e → Within p e
  in-range e f = (means e f).within

  -- what was promised of the decoded command is promised of it
  pub obeyed : (e : Decoded) → d ≡ Ok e → {c' m' t' : List ℕ} {a : Answer} → Does p c m t e c' m' t' a → Obeys p c m t x c' m' t' (Answered a)
  obeyed e f {c'} {m'} {t'} {a} o = subst (λ (y : Command). DidHere p (words c m t) y (words c' m' t') a) (sym (means e f).command) o

  left : (o : Obeyed) (e : Decoded) → d ≡ Ok e → obeyed_answer o ≡ done 0 → LeftToCaller p (words c m t) x (words c m t) o e
  left o e f y =
      let r = means e f in
      record { answer = y ∙ sym (ap decoded_answer f) ∙ g.answer; command = r.command; within = r.within; same = refl }

  pub ends : (u : ℕ) → d ≡ Ok (End u) → Obeys p c m t x c m t (Ends u)
  ends u f = left (Ends u) (End u) f refl

  pub collects : (u : ℕ) → d ≡ Ok (Collect u) → Obeys p c m t x c m t (Collects u)
  collects u f = left (Collects u) (Collect u) f refl

-- A command that is refused as it is decoded does nothing.
use Rattle.std.specs.Prelude.{◌≡◌, ℕ, List, Result, Err}
use Rattle.std.proofs.Common.{subst}
use Rattle.rules.specs.declared.Sizes.{Sizes}
use Rattle.rules.specs.declared.Command.{Command}
use Rattle.rules.specs.declared.Answer.{Answer}
use Rattle.rules.specs.declared.Refusal.{Refusal}
use Rattle.rules.specs.Refusals.{number_of}
use Rattle.rules.specs.Terms.{refused}
use Rattle.layout.specs.Words.{words, heap_of}
use Rattle.promises.specs.Whole.{WholeFor}
use Rattle.promises.proofs.Questions.{did-answer, did-asked}
use Rattle.commands.specs.declared.Decoded.{Decoded}
use Rattle.commands.specs.declared.Obeyed.TheVariants.{Answered}
use Rattle.commands.specs.Decoding.{Decodes, decoded-refused, refused-number}
use Rattle.commands.specs.Obeys.{Obeys}

-- d is what x was decoded to
module _ (p : Sizes) (c m t : List ℕ) (x : Command) (d : Result Decoded Refusal) (g : Decodes p x d) where
  pub not-obeyed : WholeFor p (words c m t) → (q : Refusal) → d ≡ Err q → {a : Answer} → a ≡ refused (number_of q) → Obeys p c m t x c m t (Answered a)
  not-obeyed r q f h =
      let e = subst (Decodes p x) f g in
      did-answer h (did-asked p (words c m t) r x (number_of q) (refused-number q e) (decoded-refused q e (heap_of p (words c m t)).heap))

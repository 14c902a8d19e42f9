-- What a run accepts and a command leaves is whole. A chain of commands answers as the rules' run does, and leaves words that stand for
-- the heap that the run leaves.
use Rattle.std.specs.Prelude.{ℕ, ◌≡◌, refl, List, ◌∷◌}
use Rattle.std.proofs.Common.{arith, ap₂}
use Rattle.rules.specs.declared.Sizes.{Sizes}
use Rattle.rules.specs.declared.Command.{Command}
use Rattle.rules.specs.declared.Answer.{Answer}
use Rattle.rules.specs.Rules.{Regioned, run, step}
use Rattle.layout.specs.Words.{Words, heap_of}
use Rattle.promises.specs.Whole.{WholeFor}
use Rattle.promises.specs.Slices.{Slices, WholeSlices}
use Rattle.promises.specs.StandsFor.{StandsFor}
use Rattle.promises.specs.Promises.{Did, Chain, none, more, RunAsked, not_whole, other_chains, uneven, short, accepted}
use Rattle.promises.specs.Agreed.{heap-stands}

-- a run that is not refused found whole slices
pub asked-whole : {l : Slices} {block lent : List ℕ} {q : ℕ} → RunAsked l block lent q → q ≡ 0 → WholeSlices l
asked-whole (accepted e k f l) z = k
asked-whole (not_whole e n) z = absurd (let y : ⊥ = omega arith in y)
asked-whole (other_chains e k n) z = absurd (let y : ⊥ = omega arith in y)
asked-whole (uneven e k n) z = k
asked-whole (short e k f l) z = k

-- a command leaves whole words
pub did-whole : (s : Sizes) {w w' : Words} {m : Command} {a : Answer} → WholeFor s w → Did s w m w' a → WholeFor s w'
did-whole s {w} k d = (d.next (heap_of s w) (λ c. c) (heap-stands s w k)).stands.whole

pub record Chained (s : Sizes) (h : Regioned) (ms : List Command) (as' : List Answer) (w' : Words) : Type 0 where
  pub cell : ℕ → ℕ
  pub stands : StandsFor s w' (run s h ms).last cell
  pub answers : as' ≡ (run s h ms).answers

unfoldable pub chained : (s : Sizes) {w w' : Words} {ms : List Command} {as' : List Answer} → Chain s w ms as' w' → (h : Regioned) (cell_of : ℕ → ℕ) → StandsFor s w h cell_of → Chained s h ms as' w'
unfolding run
chained s none h cell_of st = record { cell = cell_of; stands = st; answers = refl }
chained s (more {m = m} did rest) h cell_of st =
    let b = did.next h cell_of st in
    let r = chained s rest (step s h m).next b.cell b.stands in
    record {
      cell = r.cell;
      stands = r.stands;
      answers = ap₂ (λ (x : Answer) (xs : List Answer). x ∷ xs) (did.answer h cell_of st) r.answers;
    }

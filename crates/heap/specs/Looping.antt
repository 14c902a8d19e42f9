-- What the loop of run keeps: the chain of the commands so far, with their answers in the first words of the answer slice.
use Rattle.std.specs.Prelude.{ℕ, suc, ◌+◌, ◌*◌, ◌≤◌, ◌<◌, ◌≡◌, refl, length, get_or, set}
use Rattle.std.proofs.Common.{arith, add-one, sym, ap, ap₂, ◌∙◌, length-set, get_or-set_same, get_or-set_other, drop-set-lt}
use Rattle.std.proofs.Math.Path.{subst}
use mathlib.Core.List.{List, [], ◌∷◌, ◌++◌}
use Rattle.rules.specs.declared.Sizes.{Sizes}
use Rattle.rules.specs.declared.Command.{Command}
use Rattle.rules.specs.declared.Answer.{Answer}
use Rattle.layout.specs.Words.{Words, sizes_in}
use Rattle.lists.specs.Listed.{listed, listed_same}
use Rattle.chains.specs.Chains.{with_chains}
use Rattle.promises.specs.Whole.{WholeFor}
use Rattle.promises.specs.Slices.{Slices}
use Rattle.promises.specs.StandsFor.{SameFrom}
use Rattle.promises.specs.Promises.{Did, Chain, none, more, command_at, answer_at, size, RunAsked, not_whole, other_chains, uneven, short, accepted, Ran}
use Rattle.promises.specs.Chained.{did-whole}

-- one more command at the end
pub chain_snoc : (s : Sizes) {w w₁ w₂ : Words} {ms : List Command} {as' : List Answer} {m : Command} {a : Answer}
    → Chain s w ms as' w₁ → Did s w₁ m w₂ a → Chain s w (ms ++ m ∷ []) (as' ++ a ∷ []) w₂
chain_snoc s none d = more d none
chain_snoc s (more e c) d = more e (chain_snoc s c d)

-- the answer n, v written as the answer to command i
abbrev pub written : List ℕ → ℕ → ℕ → ℕ → List ℕ
written as' i n v = set (set as' (2 * i) n) (2 * i + 1) v

module _ (as' : List ℕ) (i n v : ℕ) (fits : 2 * i + 1 < length as') where
  written-here : answer_at (written as' i n v) i ≡ record { number = n; value = v }
  written-here =
      ap₂ (λ (x y : ℕ). record { number = x; value = y })
      (get_or-set_other (set as' (2 * i) n) (2 * i + 1) (2 * i) v 0 (λ (e : 2 * i ≡ 2 * i + 1). omega arith) ∙ get_or-set_same as' (2 * i) n 0 (omega arith))
      (get_or-set_same (set as' (2 * i) n) (2 * i + 1) v 0 (omega (arith, length-set as' (2 * i) n)))

  same_word : (j : ℕ) → j < 2 * i → get_or (written as' i n v) j 0 ≡ get_or as' j 0
  same_word j l =
      get_or-set_other (set as' (2 * i) n) (2 * i + 1) j v 0 (λ (e : j ≡ 2 * i + 1). omega arith) ∙ get_or-set_other as' (2 * i) j n 0 (λ (e : j ≡ 2 * i). omega arith)

  written-before : listed (answer_at (written as' i n v)) i ≡ listed (answer_at as') i
  written-before =
      listed_same (answer_at (written as' i n v)) (answer_at as') i
      (λ j l. ap₂ (λ (x y : ℕ). record { number = x; value = y }) (same_word (2 * j) (omega arith)) (same_word (2 * j + 1) (omega arith)))

  pub chain_more : (s : Sizes) (w w₁ w₂ : Words) (block : List ℕ) → Chain s w (listed (command_at block) i) (listed (answer_at as') i) w₁
      → Did s w₁ (command_at block i) w₂ (record { number = n; value = v }) → Chain s w (listed (command_at block) (suc i)) (listed (answer_at (written as' i n v)) (suc i)) w₂
  unfolding listed
  chain_more s w w₁ w₂ block c d =
      subst (λ (k : List Answer). Chain s w (listed (command_at block) i ++ command_at block i ∷ []) k w₂)
      (sym (ap₂ (λ (k : List Answer) (a : Answer). k ++ a ∷ []) written-before written-here)) (chain_snoc s c d)

  pub spare_more : (lent : List ℕ) (m : ℕ) → i < m → SameFrom (2 * m) lent as' → SameFrom (2 * m) lent (written as' i n v)
  spare_more lent m l k =
      record {
        long = length-set (set as' (2 * i) n) (2 * i + 1) v ∙ length-set as' (2 * i) n ∙ k.long;
        rest = drop-set-lt (2 * m) (set as' (2 * i) n) (2 * i + 1) v (omega arith) ∙ drop-set-lt (2 * m) as' (2 * i) n (omega arith) ∙ k.rest;
      }

-- ---- the questions of run

pub same_from : (n : ℕ) (l : List ℕ) → SameFrom n l l
same_from n l = record { long = refl; rest = refl }

-- a refused run changes nothing
pub ran-refused : {l : Slices} {block lent : List ℕ} {q : ℕ} → RunAsked l block lent q → (q ≡ 0 → ⊥) → Ran l block lent q l lent
ran-refused {l} {block} {lent} a n =
    record { asked = a; refused = λ m. (refl, refl); obeyed = λ z. absurd (n z); chains = λ z. absurd (n z); spare = same_from (2 * size block) lent }

pub asked-none : {l : Slices} {block lent : List ℕ} {q : ℕ} → RunAsked l block lent q → q ≡ 0 → RunAsked l block lent 0
asked-none {l} {block} {lent} a e = subst (RunAsked l block lent) e a

-- where none says no, the answers fit
pub asked-room : {l : Slices} {block lent : List ℕ} → RunAsked l block lent 0 → 2 * size block ≤ length lent
asked-room (accepted e k f l) = l
asked-room (not_whole e n) = absurd (let z : ⊥ = omega arith in z)
asked-room (other_chains e k n) = absurd (let z : ⊥ = omega arith in z)
asked-room (uneven e k n) = absurd (let z : ⊥ = omega arith in z)
asked-room (short e k f l) = absurd (let z : ⊥ = omega arith in z)

-- ---- the state of the loop: i commands of the block were obeyed, from the words w to w₁

pub record Looped (s : Sizes) (w : Words) (block lent : List ℕ) (w₁ : Words) (answers : List ℕ) (i : ℕ) : Type 0 where
  pub whole : WholeFor s w₁
  pub chain : Chain s w (listed (command_at block) i) (listed (answer_at answers) i) w₁
  pub spare : SameFrom (2 * size block) lent answers

pub looped-start : (s : Sizes) (w : Words) (block lent : List ℕ) → WholeFor s w → Looped s w block lent w lent 0
unfolding listed
looped-start s w block lent k = record { whole = k; chain = none; spare = same_from (2 * size block) lent }

-- a command more, whose answer is a
pub looped-more : {s : Sizes} {w w₁ w₂ : Words} {block lent answers : List ℕ} {i : ℕ} (a : Answer) → Looped s w block lent w₁ answers i → i < size block
    → 2 * size block ≤ length lent → Did s w₁ (command_at block i) w₂ a → Looped s w block lent w₂ (written answers i a.number a.value) (i + 1)
looped-more {s} {w} {w₁} {w₂} {block} {lent} {answers} {i} a l h room d =
    let fits : 2 * i + 1 < length answers = omega (arith, l.spare.long) in
    record {
      whole = did-whole s l.whole d;
      chain = subst (λ (j : ℕ). Chain s w (listed (command_at block) j) (listed (answer_at (written answers i a.number a.value)) j) w₂) (sym (add-one i))
          (chain_more answers i a.number a.value fits s w w₁ w₂ block l.chain d);
      spare = spare_more answers i a.number a.value fits lent (size block) h l.spare;
    }

pub looped-to : {s : Sizes} {w w₁ : Words} {block lent answers : List ℕ} {i j : ℕ} → Looped s w block lent w₁ answers i → i ≡ j → Looped s w block lent w₁ answers j
looped-to {s} {w} {w₁} {block} {lent} {answers} l e = subst (λ (k : ℕ). Looped s w block lent w₁ answers k) e l

-- the whole block
pub looped-ran : {s : Sizes} {l l₁ : Slices} {block lent answers : List ℕ} → RunAsked l block lent 0 → s ≡ sizes_in l.words
    → Looped s l.words block lent l₁.words answers (size block) → l₁.chains ≡ with_chains s l₁.words.remember l.chains → Ran l block lent 0 l₁ answers
looped-ran {s} {l} {l₁} {block} {lent} {answers} a e k c =
    record {
      asked = a;
      refused = λ n. absurd (n refl);
      obeyed = λ z. subst (λ (x : Sizes). Chain x l.words (listed (command_at block) (size block)) (listed (answer_at answers) (size block)) l₁.words) e k.chain;
      chains = λ z. c ∙ ap (λ (x : Sizes). with_chains x l₁.words.remember l.chains) e;
      spare = k.spare;
    }

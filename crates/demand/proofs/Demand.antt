-- Demand 3, proved.
use Rattle.std.specs.Prelude.{ℕ, ◌*◌, ◌%◌, ◌≡◌, refl, List, [], ◌∷◌, ◌++◌, Bool, true, cond, not, length, leb}
use Rattle.std.proofs.Common.{arith, sym, ap, ap₂, ◌∙◌}
use Rattle.std.proofs.Math.Nat.{ℕ_set}
use Rattle.std.proofs.Math.Path.{subst}
use Rattle.std.proofs.Math.Bool.{false}
use Rattle.std.proofs.Math.Dec.{eqb}
use borrow.Author.Tests.{eq-eqb, ne_eqb, le-leb, lt-leb}
use Rattle.rules.specs.declared.Sizes.{Sizes}
use Rattle.rules.specs.declared.Command.{Command}
use Rattle.rules.specs.declared.Answer.{Answer}
use Rattle.rules.specs.Terms.{ask, Limits, limits}
use Rattle.lists.specs.Members.{keep}
use Rattle.rules.specs.NeverFreeing as nf
use Rattle.rules.specs.NeverFreeing.{NeverFreeing}
use Rattle.rules.specs.Rules as ru
use Rattle.rules.specs.Rules.{Regioned, lacking}
use Rattle.laws.specs.Agree.{run-agrees}
use Rattle.layout.specs.Words.{Words, sizes_in}
use Rattle.lists.specs.Listed.{listed}
use Rattle.chains.specs.Chains.{ChainsWhole}
use Rattle.chains.proofs.LentChains.{written-whole}
use Rattle.promises.specs.Slices.{Slices}
use Rattle.promises.specs.StandsFor.{StandsFor}
use Rattle.promises.specs.Promises.{Chain, none, more, commands_in, answers_in, size, RunAsked, not_whole, other_chains, uneven, short, accepted, Ran, Prepared}
use Rattle.promises.specs.Agreed.{whole_words}
use Rattle.promises.proofs.Preparing.{prepared-is}
use Rattle.promises.specs.Chained.{chained}
use Rattle.demand.specs.DemandThree.{Block, Runs, stop, next, refusal, Refusals, less, given, replies, Paired, Followed, Traced, DemandThree}
use Rattle.demand.specs.Pairing.{pairs_of, stands-paired}
use Rattle.demand.proofs.Following.{did-changes}

-- ---- the commands of a block

less-allowed : (s : Sizes) (h : Regioned) (ms : List Command) → less ms (ru.run s h ms).answers ≡ ru.allowed s h ms
unfolding ru.run ru.allowed less
less-allowed s h [] = refl
less-allowed s h (m ∷ ms) = ap (λ (xs : List Command). cond (lacking (ru.step s h m).answer) xs (m ∷ xs)) (less-allowed s (ru.step s h m).next ms)

chain-followed : (s : Sizes) {w w' : Words} {ms : List Command} {as' : List Answer} (c : Chain s w ms as' w') (h : Regioned) (cell_of : ℕ → ℕ) (st : StandsFor s w h cell_of)
    → Followed s c (pairs_of h cell_of) (pairs_of (ru.run s h ms).last (chained s c h cell_of st).cell)
unfolding ru.run chained
chain-followed s none h cell_of st = refl
chain-followed s (more {m = m} did rest) h cell_of st =
    let b = did.next h cell_of st in
    (pairs_of (ru.step s h m).next b.cell, did-changes s did h cell_of st, chain-followed s rest (ru.step s h m).next b.cell b.stands)

-- ---- one block

run-append : (s : Limits) (n : NeverFreeing) (xs ys : List Command)
    → ((nf.run s n (xs ++ ys)).answers ≡ (nf.run s n xs).answers ++ (nf.run s (nf.run s n xs).last ys).answers) × ((nf.run s n (xs ++ ys)).last ≡ (nf.run s (nf.run s n xs).last ys).last)
unfolding nf.run
run-append s n [] ys = (refl, refl)
run-append s n (m ∷ xs) ys =
    let r = run-append s (nf.step s n m).heap xs ys in (ap (λ (as' : List Answer). (nf.step s n m).answer ∷ as') r.0, r.1)

-- what a block gives, and its answers
abbrev given_by : Block → List Command
given_by b = cond (eqb b.number 0) (less (commands_in b.block) (answers_in b.block b.answers)) []

abbrev replies_of : Block → List Answer
replies_of b = cond (eqb b.number 0) (keep (λ a. not (lacking a)) (answers_in b.block b.answers)) []

-- the slices stand for the heap h, and the chains are those of their remember table
pub record Holds (s : Sizes) (l : Slices) (h : Regioned) (cell_of : ℕ → ℕ) : Type 0 where
  pub stands : StandsFor s l.words h cell_of
  pub chains : ChainsWhole s l.words.remember l.chains

pub record OneRun (s : Sizes) {l : Slices} (b : Block) (ran : Ran l b.block b.lent b.number b.left b.answers) (h : Regioned) (cell_of : ℕ → ℕ) : Type 0 where
  pub heap : Regioned
  pub cell : ℕ → ℕ
  pub holds : Holds s b.left heap cell
  pub refusal : b.number ≡ refusal b
  pub answers : (nf.run (limits s) h.heap (given_by b)).answers ≡ replies_of b
  pub last : (nf.run (limits s) h.heap (given_by b)).last ≡ heap.heap
  pub followed : (e : b.number ≡ 0) → Followed (sizes_in l.words) (ran.obeyed e) (pairs_of h cell_of) (pairs_of heap cell)
  pub same : (b.number ≡ 0 → ⊥) → pairs_of heap cell ≡ pairs_of h cell_of

module _ {l : Slices} (b : Block) (ran : Ran l b.block b.lent b.number b.left b.answers) (h : Regioned) (cell_of : ℕ → ℕ) where
  abbrev z : Sizes
  z = sizes_in l.words

  refused-run : (s : Sizes) → Holds s l h cell_of → (b.number ≡ 0 → ⊥) → b.number ≡ refusal b → OneRun s b ran h cell_of
  unfolding nf.run
  refused-run s st n e =
      let f : eqb b.number 0 ≡ false = ne_eqb b.number 0 n in
      record {
        heap = h;
        cell = cell_of;
        holds = subst (λ (x : Slices). Holds s x h cell_of) (sym (ran.refused n).0) st;
        refusal = e;
        answers = rw f;
        last = rw f;
        followed = λ y. absurd (n y);
        same = λ y. refl;
      }

  accepted-run : Holds z l h cell_of → b.number ≡ 0 → b.number ≡ refusal b → OneRun z b ran h cell_of
  accepted-run st y e =
      let f : eqb b.number 0 ≡ true = eq-eqb b.number 0 y in
      let c = chained z (ran.obeyed y) h cell_of st.stands in
      let k = run-agrees z h (commands_in b.block) in
      let m : less (commands_in b.block) (answers_in b.block b.answers) ≡ ru.allowed z h (commands_in b.block) = ap (less (commands_in b.block)) c.answers ∙ less-allowed z h (commands_in b.block) in
      record {
        heap = (ru.run z h (commands_in b.block)).last;
        cell = c.cell;
        holds = record {
          stands = c.stands;
          chains = subst (ChainsWhole z b.left.words.remember) (sym (ran.chains y)) (written-whole z b.left.words.remember l.chains c.stands.whole.remember.entries.room);
        };
        refusal = e;
        answers = rw (f, m) (k.0 ∙ ap (keep (λ a. not (lacking a))) (sym c.answers));
        last = rw (f, m) k.1;
        followed = λ x. subst (λ (x : b.number ≡ 0). Followed z (ran.obeyed x) (pairs_of h cell_of) (pairs_of (ru.run z h (commands_in b.block)).last c.cell)) (ℕ_set b.number 0 y x) (chain-followed z (ran.obeyed y) h cell_of st.stands);
        same = λ n. absurd (n y);
      }

  one-run : (s : Sizes) → Holds s l h cell_of → OneRun s b ran h cell_of
  unfolding ask
  one-run s st = go ran.asked
    where
      sizes : z ≡ s
      sizes = st.stands.whole.sized.sizes

      go : RunAsked l b.block b.lent b.number → OneRun s b ran h cell_of
      go (not_whole e n) = absurd (n (whole_words s l.words st.stands.whole))
      go (other_chains e k n) = absurd (n (subst (λ (x : Sizes). ChainsWhole x l.words.remember l.chains) (sym sizes) st.chains))
      go (uneven e k n) =
          refused-run s st (λ y. omega arith) (e ∙ sym (ap (λ (t : Bool). ask t 4 (ask (leb (2 * size b.block) (length b.lent)) 5 0)) (ne_eqb (length b.block % 5) 0 n)))
      go (short e k m i) =
          refused-run s st (λ y. omega arith)
          (e ∙ sym (ap₂ (λ (t u : Bool). ask t 4 (ask u 5 0)) (eq-eqb (length b.block % 5) 0 m) (lt-leb (2 * size b.block) (length b.lent) i)))
      go (accepted e k m i) =
          subst (λ (x : Sizes). OneRun x b ran h cell_of) sizes
          (accepted-run (subst (λ (x : Sizes). Holds x l h cell_of) (sym sizes) st) e
          (e ∙ sym (ap₂ (λ (t u : Bool). ask t 4 (ask u 5 0)) (eq-eqb (length b.block % 5) 0 m) (le-leb (2 * size b.block) (length b.lent) i))))

-- ---- the list of blocks

pub record AllRuns (s : Sizes) {l l' : Slices} {bs : List Block} (runs : Runs l bs l') (h : Regioned) (cell_of : ℕ → ℕ) : Type 0 where
  pub heap : Regioned
  pub cell : ℕ → ℕ
  pub holds : Holds s l' heap cell
  pub refusals : Refusals bs
  pub answers : (nf.run (limits s) h.heap (given bs)).answers ≡ replies bs
  pub last : (nf.run (limits s) h.heap (given bs)).last ≡ heap.heap
  pub traced : Traced runs (pairs_of h cell_of) (pairs_of heap cell)

pub all_runs : (s : Sizes) {l l' : Slices} {bs : List Block} (runs : Runs l bs l') (h : Regioned) (cell_of : ℕ → ℕ) → Holds s l h cell_of → AllRuns s runs h cell_of
unfolding given replies nf.run
all_runs s stop h cell_of st = record { heap = h; cell = cell_of; holds = st; refusals = tt; answers = refl; last = refl; traced = refl }
all_runs s (next {b = b} {bs = bs} ran rest) h cell_of st =
    let o = one-run b ran h cell_of s st in
    let r = all_runs s rest o.heap o.cell o.holds in
    let k = run-append (limits s) h.heap (given_by b) (given bs) in
    record {
      heap = r.heap;
      cell = r.cell;
      holds = r.holds;
      refusals = (o.refusal, r.refusals);
      answers = k.0 ∙ ap₂ (λ (x y : List Answer). x ++ y) o.answers (ap (λ (n : NeverFreeing). (nf.run (limits s) n (given bs)).answers) o.last ∙ r.answers);
      last = k.1 ∙ ap (λ (n : NeverFreeing). (nf.run (limits s) n (given bs)).last) o.last ∙ r.last;
      traced = (pairs_of o.heap o.cell, o.followed, o.same, r.traced);
    }

pub demand-three : (s : Sizes) (lent l : Slices) → Prepared s lent 0 l → (bs : List Block) (l' : Slices) (runs : Runs l bs l') → DemandThree s runs
unfolding ru.unused nf.empty pairs_of listed
demand-three s lent l p bs l' runs =
    let is = prepared-is s lent l p in
    let r = all_runs s runs (ru.unused s) (λ x. x) (record { stands = is.stands; chains = is.chains }) in
    record {
      refusals = r.refusals;
      answers = r.answers;
      pairs = pairs_of r.heap r.cell;
      history = r.traced;
      paired = subst (λ (n : NeverFreeing). Paired s l'.words n (pairs_of r.heap r.cell)) (sym r.last) (stands-paired s l'.words r.heap r.cell r.holds.stands);
    }

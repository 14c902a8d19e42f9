-- The two counters over every list of blocks, proved: each command, each block and each list adds what it made and freed.
use Rattle.std.specs.Prelude.{ℕ, zero, suc, ◌+◌, ◌<◌, ◌≡◌, refl, List, cond}
use native.Mathlib.Omega.{arith}
use Rattle.std.proofs.Math.Decide.{ℕ_discrete}
use Rattle.std.proofs.Common.{sym, subst, ◌∙◌}
use Rattle.std.proofs.Math.Path.{ap}
use Rattle.std.proofs.Math.Bool.{true, false}
use Rattle.std.proofs.Math.Dec.{eqb}
use borrow.Author.Tests.{eq-eqb, ne_eqb}
use Rattle.lists.specs.Counting.{bit}
use Rattle.rules.specs.declared.Sizes.{Sizes}
use Rattle.rules.specs.declared.Command.{Command}
use Rattle.rules.specs.declared.Answer.{Answer}
use Rattle.rules.specs.Terms.{limits, decode}
use Rattle.rules.specs.NeverFreeing as nf
use Rattle.rules.specs.NeverFreeing.{Effect, opens, ends, collects, makes, assigns, meaning, meaning_of}
use Rattle.rules.specs.Regions.{control, region_at}
use Rattle.rules.specs.Graph.{freed_by}
use Rattle.rules.specs.Rules as ru
use Rattle.rules.specs.Rules.{Counters, Regioned, counted, graph, innermost, counters_after}
use Rattle.laws.specs.Asked.{first-zero, thread-ok}
use Rattle.laws.specs.Counters.{counted-small, counted-add}
use Rattle.laws.specs.RulesLaws.{region-pos, control-pos}
use Rattle.laws.specs.SameRules.{same-freed}
use Rattle.layout.specs.Words.{Words, sizes_in, depth_in, made_in, freed_in, graph_of, heap_of}
use Rattle.promises.specs.Whole.{WholeFor}
use Rattle.chains.specs.Chains.{ChainsWhole}
use Rattle.promises.specs.Slices.{Slices}
use Rattle.promises.specs.StandsFor.{StandsFor}
use Rattle.promises.specs.Promises.{Became, Did, Chain, none, more, commands_in, answers_in, Ran, Prepared}
use Rattle.promises.specs.Reading.{depth-at, words-closed}
use Rattle.promises.specs.Agreed.{heap-stands, whole_words}
use Rattle.promises.proofs.Preparing.{prepared-is}
use Rattle.report.proofs.Told.{told-counted}
use Rattle.demand.specs.DemandThree.{Block, Runs, stop, next}
use Rattle.demand.proofs.Demand.{all_runs}
use Rattle.demand.specs.Counted.{made_one, made_by, objects_made, freed_on, freed_one, freed_through, freed_run, objects_freed, Counted}

-- whole words whose counters say that n objects were made and f freed
record CountersSay (s : Sizes) (w : Words) (n f : ℕ) : Type 0 where
  whole : WholeFor s w
  made : made_in s w ≡ counted n
  freed : freed_in s w ≡ counted f

-- ---- one command

counted-more : (k n m : ℕ) → k ≡ counted n → counted (k + m) ≡ counted (n + m)
counted-more k n m e =
    ap counted (let z : k + m ≡ m + counted n = omega arith in z) ∙ counted-add m n ∙ ap counted (let z : m + n ≡ n + m = omega arith in z)

counted_none : (k n : ℕ) → k ≡ counted n → k ≡ counted (n + 0)
counted_none k n e = e ∙ ap counted (let z : n ≡ n + 0 = omega arith in z)

-- what makes an object is code 3
makes_one : Effect → ℕ
makes_one opens = 0
makes_one ends = 0
makes_one collects = 0
makes_one (makes a b c) = 1
makes_one (assigns x) = 0

not_three : (n : ℕ) → bit (eqb (suc (suc (suc (suc n)))) 3) ≡ 0
not_three n = ap bit (ne_eqb (suc (suc (suc (suc n)))) 3 (λ (e : suc (suc (suc (suc n))) ≡ 3). omega arith))

code-three : (code t a b c : ℕ) → bit (eqb code 3) ≡ makes_one (meaning (decode code) t a b c).effect
unfolding makes_one
code-three zero t a b c = refl
code-three (suc zero) t a b c = refl
code-three (suc (suc zero)) t a b c = refl
code-three (suc (suc (suc zero))) t a b c = refl
code-three (suc (suc (suc (suc zero)))) t a b c = refl
code-three (suc (suc (suc (suc (suc zero))))) t a b c = refl
code-three (suc (suc (suc (suc (suc (suc zero)))))) t a b c = refl
code-three (suc (suc (suc (suc (suc (suc (suc zero))))))) t a b c = refl
code-three (suc (suc (suc (suc (suc (suc (suc (suc zero)))))))) t a b c = refl
code-three (suc (suc (suc (suc (suc (suc (suc (suc (suc zero))))))))) t a b c = refl
code-three (suc (suc (suc (suc (suc (suc (suc (suc (suc (suc zero)))))))))) t a b c = refl
code-three (suc (suc (suc (suc (suc (suc (suc (suc (suc (suc (suc zero))))))))))) t a b c = refl
code-three (suc (suc (suc (suc (suc (suc (suc (suc (suc (suc (suc (suc n)))))))))))) t a b c = not_three (suc (suc (suc (suc (suc (suc (suc (suc n))))))))

module _ (s : Sizes) (w : Words) (n f : ℕ) (said : CountersSay s w n f) (t : ℕ) where
  made_after : (e : Effect) → (counters_after s (heap_of s w) t e).made ≡ counted (n + makes_one e)
  unfolding counters_after heap_of makes_one
  made_after opens = counted_none (made_in s w) n said.made
  made_after ends = counted_none (made_in s w) n said.made
  made_after collects = counted_none (made_in s w) n said.made
  made_after (makes a b c) = counted-more (made_in s w) n 1 said.made
  made_after (assigns x) = counted_none (made_in s w) n said.made

  -- an end frees as many objects of the heap that the words make as of their graph
  freed-here : t < s.threads → freed_by s (graph (heap_of s w)) (innermost s (heap_of s w) t) ≡ freed_on s w t ends
  unfolding heap_of freed_on
  freed-here th =
      let st = heap-stands s w said.whole in
      let r = region_at s t (depth_in w t) in
      omega (
        arith,
        ap (λ (d : ℕ). freed_by s (graph (heap_of s w)) (region_at s t d)) (depth-at s w t th),
        same-freed s (λ c. c) (graph (heap_of s w)) (graph_of s w) st.sound.closed (words-closed s w said.whole) st.partners r (region-pos s t (depth_in w t)),
      )

  freed-collected : freed_by s (graph (heap_of s w)) control ≡ freed_on s w t collects
  unfolding freed_on
  freed-collected =
      let st = heap-stands s w said.whole in
      same-freed s (λ c. c) (graph (heap_of s w)) (graph_of s w) st.sound.closed (words-closed s w said.whole) st.partners control control-pos

  freed-after : t < s.threads → (e : Effect) → (counters_after s (heap_of s w) t e).freed ≡ counted (f + freed_on s w t e)
  unfolding counters_after heap_of freed_on
  freed-after th opens = counted_none (freed_in s w) f said.freed
  freed-after th ends =
      ap (λ (x : ℕ). counted (freed_in s w + x)) (freed-here th) ∙ counted-more (freed_in s w) f (freed_on s w t ends) said.freed
  freed-after th collects =
      ap (λ (x : ℕ). counted (freed_in s w + x)) freed-collected ∙ counted-more (freed_in s w) f (freed_on s w t collects) said.freed
  freed-after th (makes a b c) = counted_none (freed_in s w) f said.freed
  freed-after th (assigns x) = counted_none (freed_in s w) f said.freed

module _ (m : Command) (a : Answer) where
  made-done : a.number ≡ 0 → made_one m a ≡ makes_one (meaning_of m).effect
  unfolding made_one
  made-done z = let e : eqb a.number 0 ≡ true = eq-eqb a.number 0 z in rw e (code-three m.code m.thread m.a m.b m.c)

  made-refused : (a.number ≡ 0 → ⊥) → made_one m a ≡ 0
  unfolding made_one
  made-refused z = let e : eqb a.number 0 ≡ false = ne_eqb a.number 0 z in rw e (omega arith)

  freed-done : (s : Sizes) (w : Words) → a.number ≡ 0 → freed_one s w m a ≡ freed_on s w m.thread (meaning_of m).effect
  unfolding freed_one
  freed-done s w z = let e : eqb a.number 0 ≡ true = eq-eqb a.number 0 z in rw e

  freed-refused : (s : Sizes) (w : Words) → (a.number ≡ 0 → ⊥) → freed_one s w m a ≡ 0
  unfolding freed_one
  freed-refused s w z = let e : eqb a.number 0 ≡ false = ne_eqb a.number 0 z in rw e

did-counts : (s : Sizes) {w w' : Words} {m : Command} {a : Answer} → Did s w m w' a → (n f : ℕ) → CountersSay s w n f → CountersSay s w' (n + made_one m a) (f + freed_one s w m a)
unfolding ru.step ru.answered ru.question ru.after
did-counts s {w} {w'} {m} {a} d n f said = go (ru.question s h m) refl (ap (λ (x : Answer). x.number) (d.answer h (λ c. c) st)) (d.next h (λ c. c) st)
  where
    h : Regioned
    h = heap_of s w

    st : StandsFor s w h (λ c. c)
    st = heap-stands s w said.whole

    go : (q : ℕ) → ru.question s h m ≡ q → a.number ≡ (ru.answered s h m q).answer.number → Became s h (λ c. c) m w' (ru.answered s h m q).next
        → CountersSay s w' (n + made_one m a) (f + freed_one s w m a)
    go zero e z b =
        let t = m.thread in
        let th : t < s.threads = thread-ok (limits s) h.heap m (first-zero (nf.question (limits s) h.heap m) (ru.room s h m (ru.after s h m)) e).0 in
        record {
          whole = b.stands.whole;
          made = sym (ap (λ (k : Counters). k.made) b.stands.counters) ∙ made_after s w n f said t (meaning_of m).effect ∙ ap (λ (x : ℕ). counted (n + x)) (sym (made-done m a z));
          freed = sym (ap (λ (k : Counters). k.freed) b.stands.counters) ∙ freed-after s w n f said t th (meaning_of m).effect ∙ ap (λ (x : ℕ). counted (f + x)) (sym (freed-done m a s w z));
        }
    go (suc q) e z b =
        let no : a.number ≡ 0 → ⊥ = λ (y : a.number ≡ 0). omega arith in
        subst (λ (x : Words). CountersSay s x (n + made_one m a) (f + freed_one s w m a)) (sym (d.refused no))
        (record {
          whole = said.whole;
          made = counted_none (made_in s w) n said.made ∙ ap (λ (x : ℕ). counted (n + x)) (sym (made-refused m a no));
          freed = counted_none (freed_in s w) f said.freed ∙ ap (λ (x : ℕ). counted (f + x)) (sym (freed-refused m a s w no));
        })

-- ---- the commands of a block, and the blocks

counts-joined : (s : Sizes) (w : Words) (n i j f g k : ℕ) → CountersSay s w (n + i + j) (f + g + k) → CountersSay s w (n + (i + j)) (f + (g + k))
counts-joined s w n i j f g k c =
    record {
      whole = c.whole;
      made = c.made ∙ ap counted (let z : n + i + j ≡ n + (i + j) = omega arith in z);
      freed = c.freed ∙ ap counted (let z : f + g + k ≡ f + (g + k) = omega arith in z);
    }

counts_same : (s : Sizes) (w : Words) (n f : ℕ) → CountersSay s w n f → CountersSay s w (n + 0) (f + 0)
counts_same s w n f c = record { whole = c.whole; made = counted_none (made_in s w) n c.made; freed = counted_none (freed_in s w) f c.freed }

chain-counts : (s : Sizes) {w w' : Words} {ms : List Command} {as' : List Answer} (c : Chain s w ms as' w') (n f : ℕ) → CountersSay s w n f → CountersSay s w' (n + made_by ms as') (f + freed_through s c)
unfolding made_by freed_through
chain-counts s {w} none n f said = counts_same s w n f said
chain-counts s {w} {w'} (more {m = m} {a = a} {ms = ms} {as' = as'} did rest) n f said =
    counts-joined s w' n (made_one m a) (made_by ms as') f (freed_one s w m a) (freed_through s rest)
    (chain-counts s rest (n + made_one m a) (f + freed_one s w m a) (did-counts s did n f said))

-- what a block made
abbrev made_run : Block → ℕ
made_run b = cond (eqb b.number 0) (made_by (commands_in b.block) (answers_in b.block b.answers)) 0

run-counts : (s : Sizes) {l : Slices} (b : Block) (ran : Ran l b.block b.lent b.number b.left b.answers) (n f : ℕ) → CountersSay s l.words n f
    → CountersSay s b.left.words (n + made_run b) (f + freed_run b ran (ℕ_discrete b.number 0))
unfolding freed_run
run-counts s {l} b ran n f said = go (ℕ_discrete b.number 0)
  where
    go : (d : Dec (b.number ≡ 0)) → CountersSay s b.left.words (n + made_run b) (f + freed_run b ran d)
    go (yes e) =
        let z : eqb b.number 0 ≡ true = eq-eqb b.number 0 e in
        let k : sizes_in l.words ≡ s = said.whole.sized.sizes in
        rw z
        (subst (λ (x : Sizes). CountersSay x b.left.words (n + made_by (commands_in b.block) (answers_in b.block b.answers)) (f + freed_through (sizes_in l.words) (ran.obeyed e))) k
        (chain-counts (sizes_in l.words) (ran.obeyed e) n f (subst (λ (x : Sizes). CountersSay x l.words n f) (sym k) said)))
    go (no y) =
        let z : eqb b.number 0 ≡ false = ne_eqb b.number 0 y in
        rw z (counts_same s b.left.words n f (subst (λ (x : Slices). CountersSay s x.words n f) (sym (ran.refused y).0) said))

runs-counts : (s : Sizes) {l l' : Slices} {bs : List Block} (runs : Runs l bs l') (n f : ℕ) → CountersSay s l.words n f → CountersSay s l'.words (n + objects_made bs) (f + objects_freed runs)
unfolding objects_made objects_freed
runs-counts s {l} stop n f said = counts_same s l.words n f said
runs-counts s {l} {l'} (next {b = b} {bs = bs} ran rest) n f said =
    let i = made_run b in
    let g = freed_run b ran (ℕ_discrete b.number 0) in
    counts-joined s l'.words n i (objects_made bs) f g (objects_freed rest) (runs-counts s rest (n + i) (f + g) (run-counts s b ran n f said))

pub blocks-counted : (s : Sizes) (lent l : Slices) → Prepared s lent 0 l → (bs : List Block) (l' : Slices) (runs : Runs l bs l') → Counted s runs
unfolding ru.unused
blocks-counted s lent l p bs l' runs =
    let is = prepared-is s lent l p in
    let st = is.stands in
    let all = all_runs s runs (ru.unused s) (λ x. x) (record { stands = st; chains = is.chains }) in
    let zero_is : 0 ≡ counted 0 = sym (counted-small 0 (omega arith)) in
    let r = runs-counts s runs 0 0 (record {
      whole = st.whole;
      made = sym (ap (λ (k : Counters). k.made) st.counters) ∙ zero_is;
      freed = sym (ap (λ (k : Counters). k.freed) st.counters) ∙ zero_is;
    }) in
    let made = r.made ∙ ap counted (let z : 0 + objects_made bs ≡ objects_made bs = omega arith in z) in
    let freed = r.freed ∙ ap counted (let z : 0 + objects_freed runs ≡ objects_freed runs = omega arith in z) in
    record {
      made = made;
      freed = freed;
      live = r.whole.counters;
      whole = record {
        words = whole_words s l'.words r.whole;
        chains = subst (λ (x : Sizes). ChainsWhole x l'.words.remember l'.chains) (sym r.whole.sized.sizes) all.holds.chains;
      };
      report = λ rows' x left told z.
          let q = told-counted l' rows' x left told z in
          let same = r.whole.sized.sizes in
          record {
            made = q.made ∙ ap (λ (p : Sizes). made_in p l'.words) same ∙ made;
            freed = q.freed ∙ ap (λ (p : Sizes). freed_in p l'.words) same ∙ freed;
            total = q.total;
            leaves = q.leaves;
          };
    }

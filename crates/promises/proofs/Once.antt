-- Every lent word is determined: after a list of commands, a run and prepare. Two runs from the same slices with the same block and answer slice
-- give the same number, slices and answers.
use Rattle.std.specs.Prelude.{ℕ, ◌+◌, ◌-◌, ◌*◌, ◌/◌, ◌%◌, ◌≤◌, ◌<◌, ◌≡◌, refl, List, ◌∷◌, ◌++◌, length, get_or, drop, replicate}
use Rattle.std.proofs.Common.{arith, sym, ap, ap₂, subst, ◌∙◌, take-append-drop, length-append, length-drop}
use Rattle.std.proofs.Math.Decide.{ℕ_discrete}
use Rattle.std.proofs.lemmas.List.{length-replicate}
use Rattle.std.proofs.Math.Seq.{drop-append_seam}
use Rattle.lists.specs.Listed.{get_d-listed}
use Rattle.lists.specs.Stores.{part_same}
use Rattle.rules.specs.declared.Sizes.{Sizes}
use Rattle.rules.specs.declared.Command.{Command}
use Rattle.rules.specs.declared.Answer.{Answer}
use Rattle.rules.specs.Regions.{regions}
use Rattle.rules.specs.Rules.{Regioned, run, unused}
use Rattle.layout.specs.Places.{cells_words, remember_words, tables_words, chains_words}
use Rattle.layout.specs.Words.{Words, sizes_in, heap_of}
use Rattle.promises.specs.Whole.{WholeFor}
use Rattle.remember.specs.Table.{Entry}
use Rattle.chains.specs.Chains.{chains_of}
use Rattle.chains.proofs.LentChains.{no-chains}
use Rattle.promises.specs.Slices.{Slices}
use Rattle.promises.specs.StandsFor.{StandsFor, SameFrom, SameBeyond}
use Rattle.promises.specs.WordsOf.{laid, laid_slices}
use Rattle.promises.specs.Promises.{Chain, none, more, commands_in, answers_in, size, answer_at, RunAsked, not_whole, other_chains, uneven, short, accepted, Ran, LongEnough, PrepareAsked, out_of_range, Unused, Prepared}
use Rattle.promises.specs.Agreed.{heap-stands}
use Rattle.promises.specs.Areas.{same-beyond, beyond-both, starts}
use Rattle.promises.specs.Chained.{Chained, chained, asked-whole}
use Rattle.promises.proofs.Laid.{stands-laid, entries-are}
use Rattle.promises.proofs.Preparing.{PreparedIs, prepared-is}

-- the words past the three lengths are as they were after a list of commands
chain-beyond : (s : Sizes) {w w' : Words} {ms : List Command} {as' : List Answer} → Chain s w ms as' w' → SameBeyond s w w'
chain-beyond s {w} none = same-beyond s w
chain-beyond s (more did rest) = beyond-both did.beyond (chain-beyond s rest)

-- A LIST OF COMMANDS leaves the words of the heap that the rules' run leaves, and answers as it does
module _ (s : Sizes) {w w' : Words} {ms : List Command} {as' : List Answer} (k : WholeFor s w) (c : Chain s w ms as' w') where
  after : Chained s (heap_of s w) ms as' w'
  after = chained s c (heap_of s w) (λ x. x) (heap-stands s w k)

  pub chain-words : w' ≡ laid s (run s (heap_of s w) ms).last w
  chain-words = stands-laid s w' (run s (heap_of s w) ms).last after.cell after.stands w (chain-beyond s c)

  pub chain-answers : as' ≡ (run s (heap_of s w) ms).answers
  chain-answers = after.answers

-- A RUN that is not refused: the same of the commands of its block, and of all four slices (02, W6)
module _ {l : Slices} {block lent : List ℕ} {q : ℕ} {l' : Slices} {answers : List ℕ} (r : Ran l block lent q l' answers) (z : q ≡ 0) where
  abbrev s : Sizes
  s = sizes_in l.words

  abbrev h : Regioned
  h = (run s (heap_of s l.words) (commands_in block)).last

  whole : WholeFor s l.words
  whole = (asked-whole r.asked z).words

  stands : StandsFor s l'.words h (after s whole (r.obeyed z)).cell
  stands = (after s whole (r.obeyed z)).stands

  pub ran-words : l' ≡ laid_slices s h l
  ran-words =
      ap₂ (λ (w : Words) (k : List ℕ). record { words = w; chains = k }) (chain-words s whole (r.obeyed z))
      (r.chains z ∙ ap (λ (es : List Entry). chains_of (regions s) s.entries es ++ drop (chains_words s) l.chains) (entries-are s l'.words h (after s whole (r.obeyed z)).cell stands))

  pub ran-answers : answers_in block answers ≡ (run (sizes_in l.words) (heap_of (sizes_in l.words) l.words) (commands_in block)).answers
  ran-answers = chain-answers s whole (r.obeyed z)

-- ---- two runs

same_asked : {l : Slices} {block lent : List ℕ} {p q : ℕ} → RunAsked l block lent p → RunAsked l block lent q → p ≡ q
same_asked (not_whole e n) (not_whole f m) = e ∙ sym f
same_asked (not_whole e n) (other_chains f i m) = absurd (n i)
same_asked (not_whole e n) (uneven f i m) = absurd (n i.words)
same_asked (not_whole e n) (short f i m j) = absurd (n i.words)
same_asked (not_whole e n) (accepted f i m j) = absurd (n i.words)
same_asked (other_chains e k n) (not_whole f m) = absurd (m k)
same_asked (other_chains e k n) (other_chains f i m) = e ∙ sym f
same_asked (other_chains e k n) (uneven f i m) = absurd (n i.chains)
same_asked (other_chains e k n) (short f i m j) = absurd (n i.chains)
same_asked (other_chains e k n) (accepted f i m j) = absurd (n i.chains)
same_asked (uneven e k n) (not_whole f m) = absurd (m k.words)
same_asked (uneven e k n) (other_chains f i m) = absurd (m k.chains)
same_asked (uneven e k n) (uneven f i m) = e ∙ sym f
same_asked (uneven e k n) (short f i m j) = absurd (n m)
same_asked (uneven e k n) (accepted f i m j) = absurd (n m)
same_asked (short e k n l) (not_whole f m) = absurd (m k.words)
same_asked (short e k n l) (other_chains f i m) = absurd (m k.chains)
same_asked (short e k n l) (uneven f i m) = absurd (m n)
same_asked (short e k n l) (short f i m j) = e ∙ sym f
same_asked (short e k n l) (accepted f i m j) = absurd (let z : ⊥ = omega arith in z)
same_asked (accepted e k n l) (not_whole f m) = absurd (m k.words)
same_asked (accepted e k n l) (other_chains f i m) = absurd (m k.chains)
same_asked (accepted e k n l) (uneven f i m) = absurd (m n)
same_asked (accepted e k n l) (short f i m j) = absurd (let z : ⊥ = omega arith in z)
same_asked (accepted e k n l) (accepted f i m j) = e ∙ sym f

-- answer slices with the same answers to a block and the same words past them
module _ (block lent a b : List ℕ) (x : SameFrom (2 * size block) lent a) (y : SameFrom (2 * size block) lent b) (e : answers_in block a ≡ answers_in block b) where
  answer-same : (i : ℕ) → i < size block → answer_at a i ≡ answer_at b i
  answer-same i l =
      let d : Answer = record { number = 0; value = 0 } in
      sym (get_d-listed (answer_at a) (size block) i d l) ∙ ap (λ (as' : List Answer). get_or as' i d) e ∙ get_d-listed (answer_at b) (size block) i d l

  word_same : (j : ℕ) → j < 2 * size block → get_or a j 0 ≡ get_or b j 0
  word_same j l = go (ℕ_discrete (j % 2) 0)
    where
      go : Dec (j % 2 ≡ 0) → get_or a j 0 ≡ get_or b j 0
      go (yes z) =
          subst (λ (i : ℕ). get_or a i 0 ≡ get_or b i 0) (let q : 2 * (j / 2) ≡ j = omega arith in q)
          (ap (λ (r : Answer). r.number) (answer-same (j / 2) (omega arith)))
      go (no n) =
          subst (λ (i : ℕ). get_or a i 0 ≡ get_or b i 0) (let q : 2 * (j / 2) + 1 ≡ j = omega arith in q)
          (ap (λ (r : Answer). r.value) (answer-same (j / 2) (omega arith)))

  answers-same : a ≡ b
  answers-same =
      sym (take-append-drop (2 * size block) a)
      ∙ ap₂ ◌++◌ (part_same (2 * size block) 0 b a (x.long ∙ sym y.long) (λ i l. subst (λ (j : ℕ). get_or a j 0 ≡ get_or b j 0) (let q : i ≡ 0 + i = omega arith in q) (word_same i l)))
      (x.rest ∙ sym y.rest)
      ∙ take-append-drop (2 * size block) b

pub record SameRun (p : ℕ) (u : Slices) (a : List ℕ) (q : ℕ) (v : Slices) (b : List ℕ) : Type 0 where
  pub number : p ≡ q
  pub slices : u ≡ v
  pub answers : a ≡ b

-- TWO RUNS from the same slices with the same block and answer slice give the same number, slices and answers
pub ran-once : {l : Slices} {block lent : List ℕ} {p : ℕ} {u : Slices} {a : List ℕ} {q : ℕ} {v : Slices} {b : List ℕ} → Ran l block lent p u a → Ran l block lent q v b → SameRun p u a q v b
ran-once {l} {block} {lent} {p} {u} {a} {q} {v} {b} x y = go (ℕ_discrete p 0)
  where
    same : p ≡ q
    same = same_asked x.asked y.asked

    go : Dec (p ≡ 0) → SameRun p u a q v b
    go (yes z) =
        let z' : q ≡ 0 = sym same ∙ z in
        record {
          number = same;
          slices = ran-words x z ∙ sym (ran-words y z');
          answers = answers-same block lent a b x.spare y.spare (ran-answers x z ∙ sym (ran-answers y z'));
        }
    go (no n) =
        let m : q ≡ 0 → ⊥ = λ z. n (same ∙ z) in
        record { number = same; slices = (x.refused n).0 ∙ sym (y.refused m).0; answers = (x.refused n).1 ∙ sym (y.refused m).1 }

-- ---- prepare

-- a list that has other words up to n
kept_from : (n : ℕ) (l front : List ℕ) → n ≤ length l → length front ≡ n → SameFrom n l (front ++ drop n l)
kept_from n l front h e =
    record {
      long = omega (arith, length-append front (drop n l), length-drop n l);
      rest = ap (λ (m : ℕ). drop m (front ++ drop n l)) (sym e) ∙ drop-append_seam front (drop n l);
    }

unused-beyond : (s : Sizes) (lent l : Slices) → LongEnough s lent → 5 ≤ tables_words s → Unused s lent l → SameBeyond s lent.words l.words
unused-beyond s lent l long five u =
    let w = lent.words in
    record {
      cells = subst (SameFrom (cells_words s) w.cells) (sym u.cells) (kept_from (cells_words s) w.cells (replicate (cells_words s) 0) long.cells (length-replicate (cells_words s) 0));
      remember =
          subst (SameFrom (remember_words s) w.remember) (sym u.remember)
          (kept_from (remember_words s) w.remember (s.entries ∷ replicate (remember_words s - 1) 0) long.remember (omega (arith, length-replicate {A = ℕ} (remember_words s - 1) 0)));
      tables =
          subst (SameFrom (tables_words s) w.tables) (sym u.tables)
          (kept_from (tables_words s) w.tables (s.threads ∷ s.variables ∷ s.depth ∷ s.pages ∷ s.entries ∷ replicate (tables_words s - 5) 0) long.tables
          (omega (arith, length-replicate {A = ℕ} (tables_words s - 5) 0)));
    }

-- PREPARE leaves the words of the unused heap, in all four slices
pub prepared-words : (s : Sizes) (lent l : Slices) → Prepared s lent 0 l → l ≡ laid_slices s (unused s) lent
prepared-words s lent l p = go p.asked
  where
    is : PreparedIs s l
    is = prepared-is s lent l p

    go : PrepareAsked s lent 0 → l ≡ laid_slices s (unused s) lent
    go (out_of_range e n) = absurd (let z : ⊥ = omega arith in z)
    go (short e r n) = absurd (let z : ⊥ = omega arith in z)
    go (accepted e r long) =
        let u = p.unused refl in
        ap₂ (λ (w : Words) (k : List ℕ). record { words = w; chains = k })
        (stands-laid s l.words (unused s) (λ x. x) is.stands lent.words (unused-beyond s lent l long (omega (arith, starts s)) u))
        (u.chains ∙ ap (λ (k : List ℕ). k ++ drop (chains_words s) lent.chains)
        (sym (no-chains s l.words.remember is.entries))
        ∙ ap (λ (es : List Entry). chains_of (regions s) s.entries es ++ drop (chains_words s) lent.chains) (entries-are s l.words (unused s) (λ x. x) is.stands))

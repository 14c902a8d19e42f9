-- What a block holds after `filled`: the commands of the text's next lines, in order; and what is left of the text.
use Prim.Native.Nat.{ℕ, zero, suc, ◌+◌, ◌*◌, ◌<◌, ◌≤◌}
use mathlib.Core.List.{List, [], ◌∷◌, ◌++◌}
use Rattle.std.specs.Prelude.{Bool, cond, not, ◌&&◌, ◌≡◌, length, drop, set, eqb, ltb}
use Rattle.std.proofs.Math.Bool.{true, false}
use Rattle.std.proofs.Math.Path.{refl, ap, ap₂}
use Rattle.std.proofs.Common.{sym, ◌∙◌, arith, length-set, drop-drop}
use Rattle.std.proofs.Math.ListN.{get_or}
use borrow.Author.Tests.{ltb-true, ltb-false}
use Rattle.lists.specs.Stores.{put, past}
use Rattle.script.specs.Text.{Line, numbers, malformed_line}
use Rattle.std.specs.Prelude.{Ok, Err}
use Rattle.script.specs.declared.Reader.{Reader}
use Rattle.script.specs.declared.Step.{Step}
use Rattle.script.specs.declared.Step.TheVariants.{More, Ended}
use Rattle.script.specs.declared.Filled.{Filled}
use Rattle.script.specs.declared.Filled.TheVariants.{Done, Full, Broken}
use Rattle.script.specs.Reading.{digits, number, started, next_of, end_of, step_of}
use Rattle.script.specs.TextLaws.{found, left}
use Rattle.script.specs.FewCommands.{command_count}
use Rattle.script.specs.Blocks.{words_put, filled}
use Rattle.script.specs.BlocksCases.{stepped, length-words}

-- ---- the words of a command

abbrev pub command_at : List ℕ → ℕ → Line
command_at block n = numbers (get_or block n 0) (get_or block (n + 1) 0) (get_or block (n + 2) 0) (get_or block (n + 3) 0) (get_or block (n + 4) 0)

module _ (block : List ℕ) (n : ℕ) (ns : List ℕ) where
  abbrev code : ℕ
  code = get_or ns 0 0

  abbrev thread : ℕ
  thread = get_or ns 1 0

  abbrev a : ℕ
  a = get_or ns 2 0

  abbrev b : ℕ
  b = get_or ns 3 0

  abbrev c : ℕ
  c = get_or ns 4 0

  -- the block after the first store, and after the next
  abbrev one : List ℕ
  one = set block n code

  abbrev two : List ℕ
  two = set one (n + 1) thread

  abbrev three : List ℕ
  three = set two (n + 2) a

  abbrev four : List ℕ
  four = set three (n + 3) b

  words-keep : (i : ℕ) → i < n → get_or (words_put block n ns) i 0 ≡ get_or block i 0
  words-keep i h =
      past four (n + 4) c i 0 (omega arith) ∙ past three (n + 3) b i 0 (omega arith) ∙ past two (n + 2) a i 0 (omega arith)
      ∙ past one (n + 1) thread i 0 (omega arith) ∙ past block n code i 0 (omega arith)

  word-0 : n + 5 ≤ length block → get_or (words_put block n ns) n 0 ≡ code
  word-0 h =
      past four (n + 4) c n 0 (omega arith) ∙ past three (n + 3) b n 0 (omega arith) ∙ past two (n + 2) a n 0 (omega arith)
      ∙ past one (n + 1) thread n 0 (omega arith) ∙ put block n code 0 (omega arith)

  word-1 : n + 5 ≤ length block → get_or (words_put block n ns) (n + 1) 0 ≡ thread
  word-1 h =
      past four (n + 4) c (n + 1) 0 (omega arith) ∙ past three (n + 3) b (n + 1) 0 (omega arith) ∙ past two (n + 2) a (n + 1) 0 (omega arith)
      ∙ put one (n + 1) thread 0 (simp length-set (omega arith))

  word-2 : n + 5 ≤ length block → get_or (words_put block n ns) (n + 2) 0 ≡ a
  word-2 h =
      past four (n + 4) c (n + 2) 0 (omega arith) ∙ past three (n + 3) b (n + 2) 0 (omega arith) ∙ put two (n + 2) a 0 (simp length-set (omega arith))

  word-3 : n + 5 ≤ length block → get_or (words_put block n ns) (n + 3) 0 ≡ b
  word-3 h = past four (n + 4) c (n + 3) 0 (omega arith) ∙ put three (n + 3) b 0 (simp length-set (omega arith))

  word-4 : n + 5 ≤ length block → get_or (words_put block n ns) (n + 4) 0 ≡ c
  word-4 h = put four (n + 4) c 0 (simp length-set (omega arith))

  words_are : ns ≡ code ∷ thread ∷ a ∷ b ∷ c ∷ [] → n + 5 ≤ length block → command_at (words_put block n ns) n ≡ Ok ns
  words_are five h = (λ i. numbers (word-0 h i) (word-1 h i) (word-2 h i) (word-3 h i) (word-4 h i)) ∙ ap {B = Line} Ok (sym five)

-- a line that ends as numbers has five
abbrev Five : Step → Type 0
Five (More s) = Unit {0}
Five (Ended (Ok ns)) = ns ≡ get_or ns 0 0 ∷ get_or ns 1 0 ∷ get_or ns 2 0 ∷ get_or ns 3 0 ∷ get_or ns 4 0 ∷ []
Five (Ended (Err e)) = Unit {0}

step-five : (r : Reader) (b : ℕ) → Five (step_of r b)
unfolding step_of end_of
step-five r b = go (eqb b 10) (not r.malformed && ((digits r) && eqb r.complete 4))
  where
    go : (s t : Bool) → Five (cond s (Ended (cond t (numbers r.first r.second r.third r.fourth (number r)) malformed_line)) (More (next_of r b)))
    go true true = refl
    go true false = tt
    go false t = tt

-- ---- what was there stays

filled_keeps : (xs : List ℕ) (r : Reader) (at : ℕ) (block : List ℕ) (n i : ℕ) → i < n → get_or (filled r xs at block n).1 i 0 ≡ get_or block i 0
unfolding filled stepped
filled_keeps [] r at block n i h = refl
filled_keeps (x ∷ xs) r at block n i h = go (step_of r x) (λ s w m l. filled_keeps xs s (at + 1) w m i l)
  where
    both : (t : Bool) (p q : Filled × List ℕ) → get_or p.1 i 0 ≡ get_or block i 0 → get_or q.1 i 0 ≡ get_or block i 0 → get_or (cond t p q).1 i 0 ≡ get_or block i 0
    both true p q e f = e
    both false p q e f = f

    go : (y : Step) → ((s : Reader) (w : List ℕ) (m : ℕ) → i < m → get_or (filled s xs (at + 1) w m).1 i 0 ≡ get_or w i 0)
        → get_or (stepped y xs (at + 1) block n).1 i 0 ≡ get_or block i 0
    go (More s) f = f s block n h
    go (Ended (Ok ns)) f =
        both (ltb (length block) (n + 5 + 5)) (Full (at + 1) (n + 5), words_put block n ns)
        (filled started xs (at + 1) (words_put block n ns) (n + 5))
        (words-keep block n ns i h)
        (f started (words_put block n ns) (n + 5) (omega arith) ∙ words-keep block n ns i h)
    go (Ended (Err e)) f = refl

-- ---- what a block holds, and what is left

-- the lines of so many commands of a block, from word n on
unfoldable pub commands_in : List ℕ → ℕ → ℕ → List Line
commands_in block n zero = []
commands_in block n (suc k) = command_at block n ∷ commands_in block (n + 5) k

abbrev pub used_in : Filled → ℕ
used_in (Done s n) = n
used_in (Full at n) = n
used_in (Broken n) = n

-- what follows the commands taken: lines, and the reader after them
unfoldable pub Follow : Filled → List ℕ → List Line → Reader → Type 0
Follow (Done s n) text ls r = (ls ≡ []) × (r ≡ s)
Follow (Full at n) text ls r = (ls ≡ found started (drop at text)) × (r ≡ left started (drop at text))
Follow (Broken n) text ls r = (rest : List Line) × (ls ≡ malformed_line ∷ rest)

-- these lines are the commands that the block took behind its first n words, and those that follow
pub record Taken (ls : List Line) (r : Reader) (text : List ℕ) (n : ℕ) (p : Filled × List ℕ) : Type 0 where
  pub count : ℕ
  pub used : used_in p.0 ≡ n + 5 * count
  pub after : List Line
  pub lines : ls ≡ commands_in p.1 n count ++ after
  pub follow : Follow p.0 text after r

module _ (text xs : List ℕ) (at : ℕ) (f : drop at text ≡ xs) (block : List ℕ) (n : ℕ) (room : n + 5 ≤ length block) where
  -- a line of five numbers: it fills the block, or there is room for another
  taken-numbers : (ns : List ℕ) → Five (Ended (Ok ns)) → (t : Bool) → ltb (length block) (n + 5 + 5) ≡ t
      → ((w : List ℕ) → n + 5 + 5 ≤ length w → Taken (found started xs) (left started xs) text (n + 5) (filled started xs at w (n + 5)))
      → Taken (Ok ns ∷ found started xs) (left started xs) text n
      (cond t (Full at (n + 5), words_put block n ns) (filled started xs at (words_put block n ns) (n + 5)))
  unfolding commands_in Follow
  taken-numbers ns five true e rest =
      record {
        count = 1;
        used = omega arith;
        after = found started xs;
        lines = ap (λ (l : Line). l ∷ found started xs) (sym (words_are block n ns five room));
        follow = (ap (found started) (sym f), ap (left started) (sym f));
      }
  taken-numbers ns five false e rest =
      let w : List ℕ = words_put block n ns in
      let g = rest w (omega (arith, ltb-false (length block) (n + 5 + 5) e, length-words block n ns)) in
      let last : List ℕ = (filled started xs at w (n + 5)).1 in
      let keep : (i : ℕ) → i < n + 5 → get_or last i 0 ≡ get_or w i 0 = λ i h. filled_keeps xs started at w (n + 5) i h in
      let same : command_at last n ≡ command_at w n = λ i. numbers (keep n (omega arith) i) (keep (n + 1) (omega arith) i) (keep (n + 2) (omega arith) i) (keep (n + 3) (omega arith) i) (keep (n + 4) (omega arith) i) in
      record {
        count = suc g.count;
        used = omega (arith, g.used);
        after = g.after;
        lines = ap₂ (λ (l : Line) (ls : List Line). l ∷ ls) (sym (same ∙ words_are block n ns five room)) g.lines;
        follow = g.follow;
      }

  taken_step : (y : Step) → Five y
      → ((s : Reader) (w : List ℕ) (m : ℕ) → m + 5 ≤ length w → Taken (found s xs) (left s xs) text m (filled s xs at w m))
      → Taken (elim y as (λ z. List Line) [ More s ↦ found s xs | Ended l ↦ l ∷ found started xs ])
      (elim y as (λ z. Reader) [ More s ↦ left s xs | Ended l ↦ left started xs ]) text n (stepped y xs at block n)
  unfolding stepped commands_in Follow
  taken_step (More s) five rest = rest s block n room
  taken_step (Ended (Ok ns)) five rest =
      taken-numbers ns five (ltb (length block) (n + 5 + 5)) refl (λ w h. rest started w (n + 5) h)
  taken_step (Ended (Err e)) five rest =
      record { count = 0; used = omega arith; after = malformed_line ∷ found started xs; lines = refl; follow = (found started xs, refl) }

taken-all : (text bs : List ℕ) (r : Reader) (at : ℕ) (block : List ℕ) (n : ℕ) → drop at text ≡ bs → n + 5 ≤ length block
    → Taken (found r bs) (left r bs) text n (filled r bs at block n)
unfolding found left filled stepped commands_in Follow
taken-all text [] r at block n e room = record { count = 0; used = omega arith; after = []; lines = refl; follow = (refl, refl) }
taken-all text (x ∷ xs) r at block n e room =
    let f : drop (at + 1) text ≡ xs = sym (drop-drop 1 at text) ∙ ap (drop 1) e in
    taken_step text xs (at + 1) f block n room (step_of r x) (step-five r x) (λ s w m h. taken-all text xs s (at + 1) w m f h)

-- A block takes the commands of the next lines of a piece of text, in order, and leaves the rest.
pub block_reads : (r : Reader) (text : List ℕ) (at : ℕ) (block : List ℕ) (n : ℕ) → n + 5 ≤ length block
    → Taken (found r (drop at text)) (left r (drop at text)) text n (filled r (drop at text) at block n)
block_reads r text at block n room = taken-all text (drop at text) r at block n refl room

-- ---- how much it takes

pub length_found : (bs : List ℕ) (r : Reader) → length (found r bs) ≤ length bs
unfolding found
length_found [] r = omega arith
length_found (b ∷ bs) r = go (step_of r b) (λ s. length_found bs s)
  where
    go : (x : Step) → ((s : Reader) → length (found s bs) ≤ length bs)
        → length {A = Line} (elim x as (λ y. List Line) [ More s ↦ found s bs | Ended l ↦ l ∷ found started bs ]) ≤ suc (length bs)
    go (More s) h = omega (arith, h s)
    go (Ended l) h = omega (arith, h started)

-- a block with five words for each command, and five more, is not filled
pub never-full : (bs : List ℕ) (r : Reader) (at : ℕ) (block : List ℕ) (n : ℕ) → n + 5 * command_count (found r bs) + 5 ≤ length block
    → (e m : ℕ) → (filled r bs at block n).0 ≡ Full e m → ⊥
unfolding filled stepped found command_count
never-full [] r at block n h e m q = let z : ◌≡◌ {A = ℕ} 0 1 = cc in omega arith
never-full (x ∷ xs) r at block n h e m q = go (step_of r x) h (λ s w k l. never-full xs s (at + 1) w k l e m) q
  where
    ask : (ns : List ℕ) → n + 5 * suc (command_count (found started xs)) + 5 ≤ length block → (t : Bool) → ltb (length block) (n + 5 + 5) ≡ t
        → ((s : Reader) (w : List ℕ) (k : ℕ) → k + 5 * command_count (found s xs) + 5 ≤ length w → (filled s xs (at + 1) w k).0 ≡ Full e m → ⊥)
        → (cond t (Full (at + 1) (n + 5), words_put block n ns) (filled started xs (at + 1) (words_put block n ns) (n + 5))).0 ≡ Full e m → ⊥
    ask ns l true q f z = omega (arith, ltb-true (length block) (n + 5 + 5) q)
    ask ns l false q f z = f started (words_put block n ns) (n + 5) (omega (arith, length-words block n ns)) z

    go : (y : Step) → n + 5 * command_count (elim y as (λ z. List Line) [ More s ↦ found s xs | Ended l ↦ l ∷ found started xs ]) + 5 ≤ length block
        → ((s : Reader) (w : List ℕ) (k : ℕ) → k + 5 * command_count (found s xs) + 5 ≤ length w → (filled s xs (at + 1) w k).0 ≡ Full e m → ⊥)
        → (stepped y xs (at + 1) block n).0 ≡ Full e m → ⊥
    go (More s) l f q = f s block n l q
    go (Ended (Ok ns)) l f q = ask ns l (ltb (length block) (n + 5 + 5)) refl f q
    go (Ended (Err e)) l f q = let z : ◌≡◌ {A = ℕ} 0 1 = cc in omega arith

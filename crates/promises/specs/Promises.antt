-- The promises of one command, of run and of prepare.
use Rattle.std.specs.Prelude.{ℕ, ◌+◌, ◌-◌, ◌*◌, ◌/◌, ◌%◌, ◌≤◌, ◌<◌, ◌≡◌, List, [], ◌∷◌, ◌++◌, length, get_or, replicate, drop}
use Rattle.lists.specs.Listed.{listed}
use Rattle.rules.specs.declared.Sizes.{Sizes}
use Rattle.rules.specs.declared.Command.{Command}
use Rattle.rules.specs.declared.Answer.{Answer}
use Rattle.rules.specs.Terms.{InRange}
use Rattle.rules.specs.NeverFreeing.{Effect, opens, ends, collects, makes, assigns, meaning_of}
use Rattle.rules.specs.Regions.{control, region_at}
use Rattle.laws.specs.GraphLaws.{Alive}
use Rattle.rules.specs.Rules as ru
use Rattle.rules.specs.Rules.{Regioned, graph}
use Rattle.layout.specs.Places.{cells_words, remember_words, tables_words, chains_words}
use Rattle.layout.specs.Words.{Words, sizes_in, depth_in, owner_in, heap_of}
use Rattle.chains.specs.Chains.{ChainsWhole, with_chains}
use Rattle.promises.specs.Whole.{WholeWords}
use Rattle.promises.specs.Slices.{Slices, WholeSlices}
use Rattle.promises.specs.StandsFor.{StandsFor, SameFrom, SameBeyond}
use Rattle.promises.specs.WordsOf.{laid}

-- ---- one command

-- what a command does may move objects of region r that stay in it: a collection, in the control space
abbrev pub Slides : Effect → ℕ → Type 0
Slides opens r = ⊥
Slides ends r = ⊥
Slides collects r = r ≡ control
Slides (makes a b c) r = ⊥
Slides (assigns x) r = ⊥

-- w' stands for the heap h' after command m, in which the objects of h whose home did not change have kept their cells, but for those that it may slide
pub record Became (s : Sizes) (h : Regioned) (cell_of : ℕ → ℕ) (m : Command) (w' : Words) (h' : Regioned) : Type 0 where
  pub cell : ℕ → ℕ
  pub stands : StandsFor s w' h' cell
  pub stays : (x : ℕ) → Alive (graph h) x → (graph h').home x ≡ (graph h).home x → (Slides (meaning_of m).effect ((graph h).home x) → ⊥) → cell x ≡ cell_of x

-- what a command of thread t does frees all pages of region r: an end, of the thread's innermost region
abbrev pub Frees : Sizes → Words → ℕ → Effect → ℕ → Type 0
Frees s w t opens r = ⊥
Frees s w t ends r = r ≡ region_at s t (depth_in w t)
Frees s w t collects r = ⊥
Frees s w t (makes a b c) r = ⊥
Frees s w t (assigns x) r = ⊥

-- 01: "r's pages become free"; every page of a region that command m frees has no owner in w'
pub record Freed (s : Sizes) (w : Words) (m : Command) (w' : Words) : Type 0 where
  pub pages : (page : ℕ) → page < s.pages → Frees s w m.thread (meaning_of m).effect (owner_in s w page) → owner_in s w' page ≡ 0

-- command m on the words w answered a and left w', said of the heap that the words make: the rules' answer, and the words of the heap that the
-- rules leave, every one (02, W3)
pub record DidHere (s : Sizes) (w : Words) (m : Command) (w' : Words) (a : Answer) : Type 0 where
  pub answer : a ≡ (ru.step s (heap_of s w) m).answer
  pub words : w' ≡ laid s (ru.step s (heap_of s w) m).next w
  pub next : Became s (heap_of s w) (λ c. c) m w' (ru.step s (heap_of s w) m).next
  pub freed : a.number ≡ 0 → Freed s w m w'
  pub refused : (a.number ≡ 0 → ⊥) → w' ≡ w
  pub beyond : SameBeyond s w w'

-- the same of every heap h that the words stood for (`did-anywhere` of Here: the first says as much)
pub record Did (s : Sizes) (w : Words) (m : Command) (w' : Words) (a : Answer) : Type 0 where
  pub answer : (h : Regioned) (cell_of : ℕ → ℕ) → StandsFor s w h cell_of → a ≡ (ru.step s h m).answer
  pub words : (h : Regioned) (cell_of : ℕ → ℕ) → StandsFor s w h cell_of → w' ≡ laid s (ru.step s h m).next w
  pub next : (h : Regioned) (cell_of : ℕ → ℕ) → StandsFor s w h cell_of → Became s h cell_of m w' (ru.step s h m).next
  pub freed : a.number ≡ 0 → Freed s w m w'
  pub refused : (a.number ≡ 0 → ⊥) → w' ≡ w
  pub beyond : SameBeyond s w w'

-- ---- a list of commands

pub data Chain (s : Sizes) : Words → List Command → List Answer → Words → Type 0 where
  none : {w : Words} → Chain s w [] [] w
  more : {w w₁ w' : Words} {m : Command} {a : Answer} {ms : List Command} {as' : List Answer}
      → Did s w m w₁ a → Chain s w₁ ms as' w' → Chain s w (m ∷ ms) (a ∷ as') w'

-- five words to a command, two to an answer
abbrev pub command_at : List ℕ → ℕ → Command
command_at block i =
    record { code = get_or block (5 * i) 0; thread = get_or block (5 * i + 1) 0; a = get_or block (5 * i + 2) 0; b = get_or block (5 * i + 3) 0; c = get_or block (5 * i + 4) 0 }

abbrev pub answer_at : List ℕ → ℕ → Answer
answer_at answers i = record { number = get_or answers (2 * i) 0; value = get_or answers (2 * i + 1) 0 }

abbrev pub size : List ℕ → ℕ
size block = length block / 5

abbrev pub commands_in : List ℕ → List Command
commands_in block = listed (command_at block) (size block)

-- the answers to the commands of a block
abbrev pub answers_in : List ℕ → List ℕ → List Answer
answers_in block answers = listed (answer_at answers) (size block)

-- ---- run

-- the questions 3, 16, 4 and 5 in order: q is the first that says no, 0 if none does
pub data RunAsked (l : Slices) (block lent : List ℕ) (q : ℕ) : Type 0 where
  not_whole : q ≡ 3 → (WholeWords l.words → ⊥) → RunAsked l block lent q
  other_chains : q ≡ 16 → WholeWords l.words → (ChainsWhole (sizes_in l.words) l.words.remember l.chains → ⊥) → RunAsked l block lent q
  uneven : q ≡ 4 → WholeSlices l → (length block % 5 ≡ 0 → ⊥) → RunAsked l block lent q
  short : q ≡ 5 → WholeSlices l → length block % 5 ≡ 0 → length lent < 2 * size block → RunAsked l block lent q
  accepted : q ≡ 0 → WholeSlices l → length block % 5 ≡ 0 → 2 * size block ≤ length lent → RunAsked l block lent q

-- run on the slices l with a block and a lent answer slice gave q, and left l' and the answers
pub record Ran (l : Slices) (block lent : List ℕ) (q : ℕ) (l' : Slices) (answers : List ℕ) : Type 0 where
  pub asked : RunAsked l block lent q
  pub refused : (q ≡ 0 → ⊥) → (l' ≡ l) × (answers ≡ lent)
  pub obeyed : q ≡ 0 → Chain (sizes_in l.words) l.words (commands_in block) (answers_in block answers) l'.words
  pub chains : q ≡ 0 → l'.chains ≡ with_chains (sizes_in l.words) l'.words.remember l.chains
  pub spare : SameFrom (2 * size block) lent answers

-- ---- prepare

-- the slices are long enough
pub record LongEnough (s : Sizes) (l : Slices) : Type 0 where
  pub cells : cells_words s ≤ length l.words.cells
  pub remember : remember_words s ≤ length l.words.remember
  pub tables : tables_words s ≤ length l.words.tables
  pub chains : chains_words s ≤ length l.chains

pub data PrepareAsked (s : Sizes) (l : Slices) (q : ℕ) : Type 0 where
  out_of_range : q ≡ 1 → (InRange s → ⊥) → PrepareAsked s l q
  short : q ≡ 2 → InRange s → (LongEnough s l → ⊥) → PrepareAsked s l q
  accepted : q ≡ 0 → InRange s → LongEnough s l → PrepareAsked s l q

-- the words of an unused heap, every one up to the lengths; no cell is in use, so all of them are zero (02, W1), and no entry is, so the chains are (02, W6)
pub record Unused (s : Sizes) (l l' : Slices) : Type 0 where
  pub tables :
      l'.words.tables ≡ s.threads ∷ s.variables ∷ s.depth ∷ s.pages ∷ s.entries ∷ replicate (tables_words s - 5) 0 ++ drop (tables_words s) l.words.tables
  pub remember : l'.words.remember ≡ s.entries ∷ replicate (remember_words s - 1) 0 ++ drop (remember_words s) l.words.remember
  pub cells : l'.words.cells ≡ replicate (cells_words s) 0 ++ drop (cells_words s) l.words.cells
  pub chains : l'.chains ≡ replicate (chains_words s) 0 ++ drop (chains_words s) l.chains

-- prepare with sizes s on the slices l gave q and left l'
pub record Prepared (s : Sizes) (l : Slices) (q : ℕ) (l' : Slices) : Type 0 where
  pub asked : PrepareAsked s l q
  pub refused : (q ≡ 0 → ⊥) → l' ≡ l
  pub unused : q ≡ 0 → Unused s l l'

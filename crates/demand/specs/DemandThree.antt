-- Demand 3 of 01: over every list of blocks the answers are those of the heap that never frees.
use Rattle.std.specs.Prelude.{ℕ, zero, suc, ◌+◌, ◌*◌, ◌%◌, ◌<◌, ◌≡◌, List, [], ◌∷◌, ◌++◌, map, cond, not, length, get_or, leb, eqb}
use Rattle.rules.specs.declared.Sizes.{Sizes}
use Rattle.rules.specs.declared.Command.{Command}
use Rattle.rules.specs.declared.Answer.{Answer}
use Rattle.rules.specs.Terms.{ask, limits}
use Rattle.lists.specs.Members.{keep}
use Rattle.rules.specs.NeverFreeing as nf
use Rattle.rules.specs.NeverFreeing.{NeverFreeing, Object, no_object, depth_of, var_of, Effect, opens, ends, collects, makes, assigns, meaning_of}
use Rattle.rules.specs.Regions.{control, region_at}
use Rattle.rules.specs.Graph.{target}
use Rattle.rules.specs.Rules.{lacking}
use Rattle.layout.specs.Cells.{field_of, page_of}
use Rattle.layout.specs.Words.{Words, BeginsIn, sizes_in, depth_in, var_in, owner_in, ref_count, num_count, refs_in, nums_in, vars_in, home_in, graph_of}
use Rattle.promises.specs.Slices.{Slices}
use Rattle.promises.specs.Promises.{Chain, none, more, commands_in, answers_in, size, Ran}

-- ---- a list of runs

-- one run: its block and answer slice as lent, the number that it gave, and what it left
pub record Block : Type 0 where
  pub block : List ℕ
  pub lent : List ℕ
  pub number : ℕ
  pub left : Slices
  pub answers : List ℕ

-- each starts from the slices that the last one left
pub data Runs : Slices → List Block → Slices → Type 0 where
  stop : {l : Slices} → Runs l [] l
  next : {l l' : Slices} {b : Block} {bs : List Block} → Ran l b.block b.lent b.number b.left b.answers → Runs b.left bs l' → Runs l (b ∷ bs) l'

-- questions 4 and 5
abbrev pub refusal : Block → ℕ
refusal b = ask (eqb (length b.block % 5) 0) 4 (ask (leb (2 * size b.block) (length b.lent)) 5 0)

abbrev pub Refusals : List Block → Type 0
Refusals [] = Unit
Refusals (b ∷ bs) = (b.number ≡ refusal b) × Refusals bs

-- the commands, less those whose answer is 13 or 14
unfoldable pub less : List Command → List Answer → List Command
less [] as' = []
less (m ∷ ms) [] = []
less (m ∷ ms) (a ∷ as') = let rest = less ms as' in cond (lacking a) rest (m ∷ rest)

-- what the heap that never frees is given of a list of blocks: the commands of those that were not refused, less those that were answered 13 or 14
unfoldable pub given : List Block → List Command
given [] = []
given (b ∷ bs) = cond (eqb b.number 0) (less (commands_in b.block) (answers_in b.block b.answers)) [] ++ given bs

-- our answers to these
unfoldable pub replies : List Block → List Answer
replies [] = []
replies (b ∷ bs) = cond (eqb b.number 0) (keep (λ a. not (lacking a)) (answers_in b.block b.answers)) [] ++ replies bs

-- ---- pairs

-- A pairing is a list that lies beside the never-freeing heap's objects: 0 for one that has lost its partner, else the reference to its partner, 1 + cell number.

-- a reference v there and a reference u here are both null, or lead to partners
pub data Leads (pairs : List ℕ) (v u : ℕ) : Type 0 where
  null : v ≡ 0 → u ≡ 0 → Leads pairs v u
  partners : (x c : ℕ) → v ≡ suc x → u ≡ suc c → get_or pairs x 0 ≡ suc c → Leads pairs v u

-- object o there and the object in cell c have the same r, d and numbers, and their references lead to partners
pub record Alike (w : Words) (pairs : List ℕ) (o : Object) (c : ℕ) : Type 0 where
  pub r : length o.refs ≡ ref_count w c
  pub d : length o.nums ≡ num_count w c
  pub numbers : (i : ℕ) → i < num_count w c → get_or o.nums i 0 ≡ field_of w.cells c (ref_count w c + i)
  pub references : (i : ℕ) → i < ref_count w c → Leads pairs (get_or o.refs i 0) (field_of w.cells c i)

pub record Paired (s : Sizes) (w : Words) (n : NeverFreeing) (pairs : List ℕ) : Type 0 where
  pub beside : length pairs ≡ length n.objects
  pub used : (x c : ℕ) → get_or pairs x 0 ≡ suc c → BeginsIn s w c × (owner_in s w (page_of c) ≡ 0 → ⊥)
  pub each : (c : ℕ) → BeginsIn s w c → (x : ℕ) × (get_or pairs x 0 ≡ suc c)
  pub one : (x y c : ℕ) → get_or pairs x 0 ≡ suc c → get_or pairs y 0 ≡ suc c → x ≡ y
  pub alike : (x c : ℕ) → get_or pairs x 0 ≡ suc c → Alike w pairs (get_or n.objects x no_object) c
  pub variables : (t a : ℕ) → t < s.threads → a < s.variables → Leads pairs (var_of (limits s) n t a) (var_in s w t a)
  pub depths : (t : ℕ) → t < s.threads → depth_of n t ≡ depth_in w t

-- ---- how pairs come and go

-- the region that the object of a reference lies in, 0 for null
abbrev pub region_of : Sizes → Words → ℕ → ℕ
region_of s w zero = 0
region_of s w (suc c) = home_in s w c

-- the end of region r, or its collection, made w' of w: `move` takes a reference to an object to the reference to it afterwards, 0 where it was freed
pub record Moves (s : Sizes) (w : Words) (r : ℕ) (w' : Words) (move : ℕ → ℕ) : Type 0 where
  pub null : move 0 ≡ 0
  pub stays : (c : ℕ) → BeginsIn s w c → (owner_in s w (page_of c) ≡ r → ⊥) → move (suc c) ≡ suc c
  pub goes : (c : ℕ) → BeginsIn s w c → owner_in s w (page_of c) ≡ r → region_of s w' (move (suc c)) ≡ target s (graph_of s w) r c
  pub lands : (c c' : ℕ) → BeginsIn s w c → move (suc c) ≡ suc c' → BeginsIn s w' c'
  pub refs : (c c' : ℕ) → BeginsIn s w c → move (suc c) ≡ suc c' → refs_in w' c' ≡ map move (refs_in w c)
  pub nums : (c c' : ℕ) → BeginsIn s w c → move (suc c) ≡ suc c' → nums_in w' c' ≡ nums_in w c
  pub vars : vars_in s w' ≡ map move (vars_in s w)

-- the pairs before and after what a command of thread t does, which made w' of w: the object now in the variable of a new object is paired with the one
-- just appended, one that is moved takes its pair along, one that is freed loses it; nothing else changes pairs
abbrev pub PairsAfter : Sizes → Words → Words → ℕ → Effect → List ℕ → List ℕ → Type 0
PairsAfter s w w' t opens pairs pairs' = pairs' ≡ pairs
PairsAfter s w w' t ends pairs pairs' = (move : ℕ → ℕ) × Moves s w (region_at s t (depth_in w t)) w' move × (pairs' ≡ map move pairs)
PairsAfter s w w' t collects pairs pairs' = (move : ℕ → ℕ) × Moves s w control w' move × (pairs' ≡ map move pairs)
PairsAfter s w w' t (makes a b c) pairs pairs' = pairs' ≡ pairs ++ var_in s w' t a ∷ []
PairsAfter s w w' t (assigns x) pairs pairs' = pairs' ≡ pairs

-- the pairs before and after a command on w that answered a and left w'
pub record Changes (s : Sizes) (w : Words) (m : Command) (a : Answer) (w' : Words) (pairs pairs' : List ℕ) : Type 0 where
  pub done : a.number ≡ 0 → PairsAfter s w w' m.thread (meaning_of m).effect pairs pairs'
  pub refused : (a.number ≡ 0 → ⊥) → pairs' ≡ pairs

-- through the commands of a block, from the pairs `pairs` to `pairs'`
abbrev pub Followed : (s : Sizes) {w w' : Words} {ms : List Command} {as' : List Answer} → Chain s w ms as' w' → List ℕ → List ℕ → Type 0
Followed s none pairs pairs' = pairs' ≡ pairs
Followed s (more {w = w} {w₁ = w₁} {m = m} {a = a} did rest) pairs pairs' = (pairs₁ : List ℕ) × Changes s w m a w₁ pairs pairs₁ × Followed s rest pairs₁ pairs'

-- and through a list of blocks, of which a refused one changes none
abbrev pub Traced : {l l' : Slices} {bs : List Block} → Runs l bs l' → List ℕ → List ℕ → Type 0
Traced stop pairs pairs' = pairs' ≡ pairs
Traced (next {l = l} {b = b} ran rest) pairs pairs' =
    (pairs₁ : List ℕ) × ((e : b.number ≡ 0) → Followed (sizes_in l.words) (ran.obeyed e) pairs pairs₁) × ((b.number ≡ 0 → ⊥) → pairs₁ ≡ pairs) × Traced rest pairs₁ pairs'

-- ---- the claim, of the slices l that prepare wrote, the blocks bs, and the slices l' at the end

-- The heap that never frees is given T, V and D (`limits s`) and the commands `given bs`; pages, entries and words do not reach it.
pub record DemandThree (s : Sizes) {l l' : Slices} {bs : List Block} (runs : Runs l bs l') : Type 0 where
  pub refusals : Refusals bs
  pub answers : (nf.run (limits s) (nf.empty (limits s)) (given bs)).answers ≡ replies bs
  pub pairs : List ℕ
  pub history : Traced runs [] pairs
  pub paired : Paired s l'.words (nf.run (limits s) (nf.empty (limits s)) (given bs)).last pairs

-- The words by areas. A change names the areas that it changes: every other area, and the words past the three lengths, are the same.
use Rattle.std.specs.Prelude.{ℕ, ◌+◌, ◌≤◌, ◌<◌, ◌≡◌, refl, List, [], ◌∷◌, ◌++◌, Bool, true, false, cond, length, get_or, set, eqb}
use Rattle.std.proofs.Common.{arith, sym, ap, subst, ◌∙◌, length-set, eq-eqb}
use Rattle.std.proofs.Math.Decide.{dec_lt}
use Rattle.std.proofs.Math.Logic.{by_cases}
use Rattle.lists.specs.Counting.{sum, sum_mono}
use Rattle.lists.specs.Says.{true-not-false}
use Rattle.lists.specs.Stores.{past, drop-same}
use Rattle.rules.specs.declared.Sizes.{Sizes}
use Rattle.rules.specs.Regions.{regions}
use Rattle.layout.specs.Places.{var_count, cells_words, remember_words, tables_words, depth_at, var_at, var_of, owners_from, owner_at, used_from, used_at, marks_from, mark_at, mark_of, counts_from, count_at, count_of, made_at, freed_at, count_room}
use Rattle.layout.specs.Cells.{work_of, field_of, room_for}
use Rattle.layout.specs.Objects.{NotInUse, unused-same}
use Rattle.layout.specs.Words.{Words, BeginsIn, sizes_in, depth_in, owner_in, used_in, made_in, freed_in, head_in}
use Rattle.remember.specs.Entries.{Edited}
use Rattle.promises.specs.StandsFor.{SameFrom, SameBeyond}
use Rattle.promises.specs.Changes.{with_tables, with_cells}
use Rattle.promises.specs.Slots.{begins-kept}

-- the words of the tables, of the objects, of the cells not in use and of the remember table
pub data Area : Type 0 where
  size_words depth_words variable_words owner_words used_words mark_words count_words made_words freed_words head_words work_words field_words unused_words entry_words : Area

-- those of the tables are numbered by their arrays
abbrev number : Area → ℕ
number size_words = 0
number depth_words = 1
number variable_words = 2
number owner_words = 3
number used_words = 4
number mark_words = 5
number count_words = 6
number made_words = 7
number freed_words = 8
number head_words = 9
number work_words = 10
number field_words = 11
number unused_words = 12
number entry_words = 13

abbrev pub among : Area → List Area → Bool
among a [] = false
among a (b ∷ l) = cond (eqb (number a) (number b)) true (among a l)

-- an area is the same: of the cells, the words of the objects that w has and of the cells that it does not use
abbrev pub Same : Area → Sizes → Words → Words → Type 0
Same size_words s w w' = (sizes_in w' ≡ sizes_in w) × (get_or w'.remember 0 0 ≡ get_or w.remember 0 0)
Same depth_words s w w' = (t : ℕ) → t < s.threads → depth_in w' t ≡ depth_in w t
Same variable_words s w w' = (i : ℕ) → i < var_count s → var_of s w'.tables i ≡ var_of s w.tables i
Same owner_words s w w' = (q : ℕ) → q < s.pages → owner_in s w' q ≡ owner_in s w q
Same used_words s w w' = (q : ℕ) → q < s.pages → used_in s w' q ≡ used_in s w q
Same mark_words s w w' = (q : ℕ) → q < s.pages → mark_of s w'.tables q ≡ mark_of s w.tables q
Same count_words s w w' = (g : ℕ) → 1 ≤ g → g ≤ regions s → count_of s w'.tables g ≡ count_of s w.tables g
Same made_words s w w' = made_in s w' ≡ made_in s w
Same freed_words s w w' = freed_in s w' ≡ freed_in s w
Same head_words s w w' = (k : ℕ) → BeginsIn s w k → head_in w' k ≡ head_in w k
Same work_words s w w' = (k : ℕ) → BeginsIn s w k → work_of w'.cells k ≡ work_of w.cells k
Same field_words s w w' = (k : ℕ) → BeginsIn s w k → (f : ℕ) → f < room_for (head_in w k) → field_of w'.cells k f ≡ field_of w.cells k f
Same unused_words s w w' = (q : ℕ) → NotInUse s w.tables q → get_or w'.cells q 0 ≡ get_or w.cells q 0
Same entry_words s w w' = w'.remember ≡ w.remember

pub record Only (changed : List Area) (s : Sizes) (w w' : Words) : Type 0 where
  pub same : (a : Area) → among a changed ≡ false → Same a s w w'
  pub beyond : SameBeyond s w w'

-- ---- no change, and one after another

pub from-refl : (n : ℕ) (l : List ℕ) → SameFrom n l l
from-refl n l = record { long = refl; rest = refl }

pub same-beyond : (s : Sizes) (w : Words) → SameBeyond s w w
same-beyond s w = record { cells = from-refl _ _; remember = from-refl _ _; tables = from-refl _ _ }

from-both : {n : ℕ} {a b c : List ℕ} → SameFrom n a b → SameFrom n b c → SameFrom n a c
from-both x y = record { long = y.long ∙ x.long; rest = y.rest ∙ x.rest }

pub beyond-both : {s : Sizes} {u v w : Words} → SameBeyond s u v → SameBeyond s v w → SameBeyond s u w
beyond-both x y =
    record { cells = from-both x.cells y.cells; remember = from-both x.remember y.remember; tables = from-both x.tables y.tables }

pub among-both : (a : Area) (cs ds : List Area) → among a (cs ++ ds) ≡ false → (among a cs ≡ false) × (among a ds ≡ false)
among-both a [] ds e = (refl, e)
among-both a (c ∷ cs) ds e = go (eqb (number a) (number c)) (among-both a cs ds) e
  where
    go : (b : Bool) → (among a (cs ++ ds) ≡ false → (among a cs ≡ false) × (among a ds ≡ false)) → cond b true (among a (cs ++ ds)) ≡ false → (cond b true (among a cs) ≡ false) × (among a ds ≡ false)
    go true rest e = absurd (true-not-false (sym e))
    go false rest e = rest e

-- where the first keeps the objects
pub only-trans : {cs ds : List Area} {s : Sizes} {u v w : Words} → Only cs s u v → Only ds s v w → among used_words cs ≡ false → among head_words cs ≡ false → Only (cs ++ ds) s u w
only-trans {cs} {ds} {s} {u} {v} {w} x y used head =
    record { same = λ a n. let m = among-both a cs ds n in both a (x.same a m.0) (y.same a m.1); beyond = beyond-both x.beyond y.beyond }
  where
    stay : (k : ℕ) → BeginsIn s u k → BeginsIn s v k × (head_in v k ≡ head_in u k)
    stay k b = (begins-kept s u.cells u.tables v.cells v.tables (x.same used_words used) (x.same head_words head) k b, x.same head_words head k b)

    both : (a : Area) → Same a s u v → Same a s v w → Same a s u w
    both size_words f g = (g.0 ∙ f.0, g.1 ∙ f.1)
    both depth_words f g = λ t l. g t l ∙ f t l
    both variable_words f g = λ i l. g i l ∙ f i l
    both owner_words f g = λ q l. g q l ∙ f q l
    both used_words f g = λ q l. g q l ∙ f q l
    both mark_words f g = λ q l. g q l ∙ f q l
    both count_words f g = λ h l m. g h l m ∙ f h l m
    both made_words f g = g ∙ f
    both freed_words f g = g ∙ f
    both head_words f g = λ k i. g k (stay k i).0 ∙ f k i
    both work_words f g = λ k i. g k (stay k i).0 ∙ f k i
    both field_words f g = λ k i j l. g k (stay k i).0 j (subst (λ (h : ℕ). j < room_for h) (sym (stay k i).1) l) ∙ f k i j l
    both unused_words f g = λ q n. g q (unused-same (x.same used_words used) q n) ∙ f q n
    both entry_words f g = g ∙ f

-- ---- the arrays of the tables stand one after the other

abbrev arrays : Sizes → List ℕ
arrays s = 5 ∷ s.threads ∷ var_count s ∷ s.pages ∷ s.pages ∷ s.pages ∷ regions s ∷ 1 ∷ 1 ∷ []

abbrev start_of : Sizes → ℕ → ℕ
start_of s n = sum (λ i. get_or (arrays s) i 0) n

-- position j is one of the area's array
abbrev pub Within : Area → Sizes → ℕ → Type 0
Within a s j = (start_of s (number a) ≤ j) × (j < start_of s (number a + 1))

-- the arrays begin where layout has them
pub starts : (s : Sizes) → (start_of s 3 ≡ owners_from s) × (start_of s 4 ≡ used_from s) × (start_of s 5 ≡ marks_from s) × (start_of s 6 ≡ counts_from s) × (start_of s 7 ≡ made_at s) × (start_of s 9 ≡ tables_words s)
unfolding counts_from marks_from used_from owners_from
starts s = omega (arith, count_room s)

pub mark-in : (s : Sizes) (q : ℕ) → q < s.pages → Within mark_words s (mark_at s q)
mark-in s q l = omega (arith, starts s)

-- THE ARRAYS STAND APART
pub arrays-apart : (s : Sizes) (a b : Area) (i j : ℕ) → among a (b ∷ []) ≡ false → Within a s i → Within b s j → i ≡ j → ⊥
arrays-apart s a b i j n x y e =
    by_cases (dec_lt (number a) (number b)) (λ l. omega (arith, x.1, y.0, sum_mono (λ k. get_or (arrays s) k 0) (number a + 1) (number b) (omega arith)))
    (λ l. by_cases (dec_lt (number b) (number a)) (λ m. omega (arith, y.1, x.0, sum_mono (λ k. get_or (arrays s) k 0) (number b + 1) (number a) (omega arith)))
    (λ m. true-not-false (sym n ∙ ap (λ (t : Bool). cond t true false) (eq-eqb (number a) (number b) (omega arith)))))

-- ---- words that are the same but for some areas: the tables position by position, the rest area by area

module _ (s : Sizes) (w w' : Words) (cs : List Area) (beyond : SameBeyond s w w')
    (kept : (a : Area) → among a cs ≡ false → (j : ℕ) → Within a s j → get_or w'.tables j 0 ≡ get_or w.tables j 0) where
  areas-only : get_or w'.remember 0 0 ≡ get_or w.remember 0 0 → (among head_words cs ≡ false → Same head_words s w w') → (among work_words cs ≡ false → Same work_words s w w')
      → (among field_words cs ≡ false → Same field_words s w w') → (among unused_words cs ≡ false → Same unused_words s w w') → (among entry_words cs ≡ false → Same entry_words s w w')
      → Only cs s w w'
  areas-only size h o f u m = record { same = same; beyond = beyond }
    where
      same : (a : Area) → among a cs ≡ false → Same a s w w'
      same size_words n =
          let e : (j : ℕ) → j < 5 → get_or w'.tables j 0 ≡ get_or w.tables j 0 = λ j l. kept size_words n j (omega arith) in
          (λ i. record { threads = e 0 (omega arith) i; variables = e 1 (omega arith) i; depth = e 2 (omega arith) i; pages = e 3 (omega arith) i; entries = e 4 (omega arith) i }, size)
      same depth_words n = λ t l. kept depth_words n (depth_at t) (omega arith)
      same variable_words n = λ i l. kept variable_words n (var_at s i) (omega (arith, starts s))
      same owner_words n = λ q l. kept owner_words n (owner_at s q) (omega (arith, starts s))
      same used_words n = λ q l. kept used_words n (used_at s q) (omega (arith, starts s))
      same mark_words n = λ q l. kept mark_words n (mark_at s q) (mark-in s q l)
      same count_words n = λ g l m. kept count_words n (count_at s g) (omega (arith, starts s))
      same made_words n = kept made_words n (made_at s) (omega (arith, starts s))
      same freed_words n = kept freed_words n (freed_at s) (omega (arith, starts s))
      same head_words n = h n
      same work_words n = o n
      same field_words n = f n
      same unused_words n = u n
      same entry_words n = m n

-- other tables
pub tables-only : (s : Sizes) (w : Words) (t' : List ℕ) (cs : List Area) → length t' ≡ length w.tables
    → ((a : Area) → among a cs ≡ false → (j : ℕ) → Within a s j → get_or t' j 0 ≡ get_or w.tables j 0)
    → ((j : ℕ) → tables_words s ≤ j → get_or t' j 0 ≡ get_or w.tables j 0) → Only cs s w (with_tables w t')
tables-only s w t' cs long kept rest =
    areas-only s w (with_tables w t') cs (record { cells = from-refl _ _; remember = from-refl _ _; tables = record { long = long; rest = drop-same (tables_words s) w.tables t' long rest } }) kept
    refl (λ n k u. refl) (λ n k u. refl) (λ n k u f l. refl) (λ n q u. refl) (λ n. refl)

-- a word of the tables is stored: a depth, a variable, a mark, a counter
pub store-only : (s : Sizes) (w : Words) (b : Area) (at v : ℕ) → Within b s at → at < tables_words s → Only (b ∷ []) s w (with_tables w (set w.tables at v))
store-only s w b at v i l =
    tables-only s w (set w.tables at v) (b ∷ []) (length-set w.tables at v)
    (λ a n j x. past w.tables at v j 0 (arrays-apart s a b j at n x i)) (λ j m. past w.tables at v j 0 (λ (e : j ≡ at). omega arith))

-- other cells
pub cells-only : (s : Sizes) (w : Words) (c' : List ℕ) (cs : List Area) → (among head_words cs ≡ false → Same head_words s w (with_cells w c')) → (among work_words cs ≡ false → Same work_words s w (with_cells w c'))
    → (among field_words cs ≡ false → Same field_words s w (with_cells w c')) → (among unused_words cs ≡ false → Same unused_words s w (with_cells w c')) → SameFrom (cells_words s) w.cells c'
    → Only cs s w (with_cells w c')
cells-only s w c' cs h o f u b =
    areas-only s w (with_cells w c') cs (record { cells = b; remember = from-refl _ _; tables = from-refl _ _ }) (λ a n j x. refl) refl h o f u (λ n. refl)

-- another remember table, of as many entries
pub entries-only : (s : Sizes) (w : Words) (m' : List ℕ) → Edited s.entries w.remember m' → Only (entry_words ∷ []) s w (record { cells = w.cells; remember = m'; tables = w.tables })
entries-only s w m' e =
    areas-only s w (record { cells = w.cells; remember = m'; tables = w.tables }) (entry_words ∷ [])
    (record { cells = from-refl _ _; remember = record { long = e.long; rest = drop-same (remember_words s) w.remember m' e.long e.spare }; tables = from-refl _ _ }) (λ a n j x. refl)
    e.size (λ n k u. refl) (λ n k u. refl) (λ n k u f l. refl) (λ n q u. refl) (λ n. absurd (true-not-false (sym n)))

-- Each kept cell has in word 1 the reference to its new place.
use Rattle.std.specs.Prelude.{◌≡◌, refl, List, ℕ, ◌+◌, ◌/◌, ◌^◌, ◌≤◌, ◌<◌, length, get_or, set}
use Rattle.std.proofs.Common.{sym, ap, ap₂, ◌∙◌, subst, subst₂, arith, length-set, get_or-set_same, get_or-set_other}
use Rattle.std.proofs.Math.Decide.{dec_lt}
use Rattle.std.specs.Int.Count.{count_trailing_zeros}
use Rattle.lists.specs.Bits.{bit_at, bit-zero}
use Rattle.lists.specs.Part.{Skips}
use Rattle.rules.specs.declared.Sizes.{Sizes}
use Rattle.layout.specs.Places.{mark_of}
use Rattle.layout.specs.Cells.{work_at, work_of, ref_to, page_of, place_of, cell_on, first_on, page_cells}
use Rattle.layout.specs.Marks.{marked}
use Rattle.rules.specs.Pages.{place_in}
use Rattle.slide.specs.Ranks.{rank, new_place, KeptCell, MarksListed, rank-zero, rank-next, rank-few, rank-page, place-listed}
use Rattle.slide.specs.Walks.{Walk, Passes, walk-begin, walk-bit, walk-on, walk_here}

-- the kept cells from a up to b; there are k below b
pub record NumberedIn (p : Sizes) (l T : List ℕ) (W W' : List ℕ) (k a b : ℕ) : Type 0 where
  pub size : length W' ≡ length W
  pub kept : (c : ℕ) → a ≤ c → c < b → marked p T c ≡ 1 → work_of W' c ≡ ref_to (new_place p l T c)
  pub same : (q : ℕ) → ((c : ℕ) → a ≤ c → c < b → marked p T c ≡ 1 → q ≡ work_at c → ⊥) → get_or W' q 0 ≡ get_or W q 0
  pub count : k ≡ rank p T b

-- all of them, and there are n
pub record Numbered (p : Sizes) (l T W W' : List ℕ) (n : ℕ) : Type 0 where
  pub size : length W' ≡ length W
  pub kept : (c : ℕ) → KeptCell p T c → work_of W' c ≡ ref_to (new_place p l T c)
  pub same : (q : ℕ) → ((c : ℕ) → KeptCell p T c → q ≡ work_at c → ⊥) → get_or W' q 0 ≡ get_or W q 0
  pub count : n ≡ rank p T (first_on p.pages)

pub numbered-all : {p : Sizes} {l T W W' : List ℕ} {n : ℕ} → NumberedIn p l T W W' n 0 (first_on p.pages) → Numbered p l T W W' n
numbered-all f =
    record {
      size = f.size;
      kept = λ c k. f.kept c (omega arith) (omega (arith, k.0)) k.1;
      same = λ q n. f.same q (λ c h k on. n c (omega arith, on));
      count = f.count;
    }

module _ {p : Sizes} {l T : List ℕ} where
  pub numbered-none : (W : List ℕ) (k a : ℕ) → k ≡ rank p T a → NumberedIn p l T W W k a a
  numbered-none W k a e = record { size = refl; kept = λ c h k. absurd (let z : ⊥ = omega arith in z); same = λ q n. refl; count = e }

  -- one after the other
  pub numbered-join : {W W' W'' : List ℕ} {k k' a b d : ℕ} → a ≤ b → b ≤ d → NumberedIn p l T W W' k a b → NumberedIn p l T W' W'' k' b d → NumberedIn p l T W W'' k' a d
  numbered-join {W} {W'} {W''} {k} {k'} {a} {b} {d} ab bd f g =
      record {
        size = g.size ∙ f.size;
        kept = λ c h i on. go c h i on (dec_lt c b);
        same = λ q n. g.same q (λ c h. n c (omega arith)) ∙ f.same q (λ c h i. n c h (omega arith));
        count = g.count;
      }
    where
      go : (c : ℕ) → a ≤ c → c < d → marked p T c ≡ 1 → Dec (c < b) → work_of W'' c ≡ ref_to (new_place p l T c)
      go c h i on (yes y) = g.same (work_at c) (λ e m o on' s. omega arith) ∙ f.kept c h y on
      go c h i on (no y) = g.kept c (omega arith) i on

  -- a cell that is not kept
  pub numbered-pass : {W W' : List ℕ} {k a c : ℕ} → a ≤ c → marked p T c ≡ 0 → NumberedIn p l T W W' k a c → NumberedIn p l T W W' k a (c + 1)
  numbered-pass {W} {W'} {k} {a} {c} h off f =
      numbered-join h (omega arith) f
      (record {
        size = refl;
        kept = λ d m i on. absurd (let z : ⊥ = omega (arith, ap (marked p T) (let e : d ≡ c = omega arith in e)) in z);
        same = λ q n. refl;
        count = omega (arith, f.count, rank-next p T c);
      })

  -- one that is: d and v are the cell and the reference as the code has them
  pub numbered-cell : {W W' : List ℕ} {k a c : ℕ} (d v : ℕ) → a ≤ c → marked p T c ≡ 1 → work_at c < length W → d ≡ c → v ≡ ref_to (place_in l k) → NumberedIn p l T W W' k a c
      → NumberedIn p l T W (set W' (work_at d) v) (k + 1) a (c + 1)
  numbered-cell {W} {W'} {k} {a} {c} d v h on long ed ev f =
      numbered-join h (omega arith) f
      (subst (λ (x : ℕ). NumberedIn p l T W' (set W' (work_at x) v) (k + 1) c (c + 1)) (sym ed)
      (record {
        size = length-set W' (work_at c) v;
        kept = λ e m i on'.
            subst (λ (x : ℕ). work_of (set W' (work_at c) v) x ≡ ref_to (new_place p l T x)) (let s : c ≡ e = omega arith in s)
            (get_or-set_same W' (work_at c) v 0 (omega (arith, f.size)) ∙ ev ∙ ap (λ (x : ℕ). ref_to (place_in l x)) f.count);
        same = λ q n. get_or-set_other W' (work_at c) q v 0 (n c (omega arith) (omega arith) on);
        count = omega (arith, f.count, rank-next p T c);
      }))

-- ---- set bit by set bit and page by page

-- the mark of a cell of the page, by its word
pub marked-here : (p : Sizes) (T : List ℕ) (page w i : ℕ) → w ≡ mark_of p T page → i < page_cells → marked p T (cell_on page i) ≡ bit_at w i
marked-here p T page w i e l =
    let a : page_of (cell_on page i) ≡ page = omega arith in
    let b : place_of (cell_on page i) ≡ i = omega arith in
    ap₂ (λ (x y : ℕ). bit_at (mark_of p T x) y) a b ∙ ap (λ (x : ℕ). bit_at x i) (sym e)

-- no cell of a page without marks is marked
pub unmarked-page : (p : Sizes) (T : List ℕ) (page c : ℕ) → mark_of p T page ≡ 0 → page_of c ≡ page → marked p T c ≡ 0
unmarked-page p T page c z e =
    ap (λ (x : ℕ). bit_at (mark_of p T x) (place_of c)) e ∙ ap (λ (x : ℕ). bit_at x (place_of c)) z ∙ bit-zero (place_of c)

-- the cells of a page below place i
abbrev pub NumberedHere : Sizes → List ℕ → List ℕ → ℕ → List ℕ → List ℕ → ℕ → ℕ → Type 0
NumberedHere p l T page W W' k i = NumberedIn p l T W W' k (first_on page) (cell_on page i)

-- the pages below b
abbrev pub NumberedTo : Sizes → List ℕ → List ℕ → List ℕ → List ℕ → ℕ → ℕ → Type 0
NumberedTo p l T W W' k b = NumberedIn p l T W W' k 0 (first_on b)

pub number-passes : (p : Sizes) (l T : List ℕ) (page w k : ℕ) (W W' : List ℕ) → w ≡ mark_of p T page → Passes w (NumberedHere p l T page W W' k)
number-passes p l T page w k W W' e i h off f =
    subst (NumberedIn p l T W W' k (first_on page)) (let s : cell_on page i + 1 ≡ cell_on page (i + 1) = omega arith in s)
    (numbered-pass (omega arith) (marked-here p T page w i e h ∙ off) f)

pub number_bit : {p : Sizes} {l T : List ℕ} {W W' : List ℕ} {k : ℕ} (page w i d v : ℕ) {W'' : List ℕ} → w ≡ mark_of p T page → i < page_cells → bit_at w i ≡ 1
    → work_at (cell_on page i) < length W → d ≡ cell_on page i → v ≡ ref_to (place_in l k) → W'' ≡ set W' (work_at d) v
    → NumberedHere p l T page W W' k i → NumberedHere p l T page W W'' (k + 1) (i + 1)
number_bit {p} {l} {T} {W} {W'} {k} page w i d v e h on long ed ev s f =
    subst₂ (λ (X : List ℕ) (x : ℕ). NumberedIn p l T W X (k + 1) (first_on page) x) (sym s) (let s : cell_on page i + 1 ≡ cell_on page (i + 1) = omega arith in s)
    (numbered-cell d v (omega arith) (marked-here p T page w i e h ∙ on) long ed ev f)

pub number-skips : {p : Sizes} {n : ℕ} {l T : List ℕ} (m : MarksListed p n l T) (W W' : List ℕ) (k : ℕ) → Skips p.pages n l (NumberedTo p l T W W' k)
number-skips {p} {n} {l} {T} m W W' k q h off f =
    let z = m.none q h off in
    numbered-join (omega arith) (omega arith) f
    (record {
      size = refl;
      kept = λ c a b on. absurd (let y : ⊥ = omega (arith, unmarked-page p T q c z (omega arith)) in y);
      same = λ x n. refl;
      count = omega (arith, f.count, rank-page p T q z);
    })

pub number-start : (p : Sizes) (l T W : List ℕ) → NumberedTo p l T W W 0 0
number-start p l T W = numbered-none W 0 0 (sym (rank-zero p T))

pub number-turn : {p : Sizes} {l T W W' W'' : List ℕ} {k k' : ℕ} (page : ℕ) → NumberedTo p l T W W' k page → NumberedHere p l T page W' W'' k' page_cells → NumberedTo p l T W W'' k' (page + 1)
number-turn {p} {l} {T} {W} {W'} {W''} {k} {k'} page f g =
    subst (NumberedIn p l T W W'' k' 0) (let s : cell_on page page_cells ≡ first_on (page + 1) = omega arith in s)
    (numbered-join (omega arith) (omega arith) f g)

-- ---- the walk over a page, as the code has it

-- w is the mark word of the page, and so many are kept before it
pub record AtPage (p : Sizes) (T : List ℕ) (page w before : ℕ) : Type 0 where
  pub word : w ≡ mark_of p T page
  pub small : w < 2 ^ page_cells
  pub count : before ≡ rank p T (first_on page)

pub number-begin : {p : Sizes} {T : List ℕ} {page w before : ℕ} (l W : List ℕ) → AtPage p T page w before → Walk w w (NumberedHere p l T page W W before)
number-begin {p} {T} {page} {w} {before} l W s =
    walk-begin s.small
    (subst (NumberedIn p l T W W before (first_on page)) (let e : first_on page ≡ cell_on page 0 = omega arith in e) (numbered-none W before (first_on page) s.count))

-- the next bit i of it, and the place that its cell gets
pub record AtBit (p : Sizes) (n : ℕ) (l T : List ℕ) (page w : ℕ) (W W' : List ℕ) (k i : ℕ) : Type 0 where
  pub low : i < page_cells
  pub on : bit_at w i ≡ 1
  pub here : NumberedHere p l T page W W' k i
  pub few : k ≤ cell_on page i
  pub listed : k / page_cells < n
  pub place : get_or l (k / page_cells) 0 < p.pages

pub number_at : {p : Sizes} {n : ℕ} {l T : List ℕ} {page w before left k : ℕ} {W W' : List ℕ} → MarksListed p n l T → page < p.pages → AtPage p T page w before
    → Walk w left (NumberedHere p l T page W W' k) → 0 < left → AtBit p n l T page w W W' k (count_trailing_zeros 32 left)
number_at {p} {n} {l} {T} {page} {w} {before} {left} {k} {W} {W'} m h s u pos =
    let i : ℕ = count_trailing_zeros 32 left in
    let low : i < page_cells = (walk-bit u pos).lt in
    let f = walk_here u (number-passes p l T page w k W W' s.word) pos in
    let kept : KeptCell p T (cell_on page i) = (omega arith, marked-here p T page w i s.word low ∙ walk-on u pos) in
    let there = place-listed m (cell_on page i) kept in
    let listed : k / page_cells < n = omega (arith, f.count) in
    record { low = low; on = walk-on u pos; here = f; few = omega (arith, f.count, rank-few p T (cell_on page i)); listed = listed; place = m.rises.low (k / page_cells) listed }

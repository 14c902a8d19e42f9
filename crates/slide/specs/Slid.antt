-- Each kept cell goes to its new place. No place lies above its cell and places rise with their cells, so no cell is written over before
-- it has gone.
use Rattle.std.specs.Prelude.{◌≡◌, refl, ◌≢◌, List, ℕ, ◌+◌, ◌^◌, ◌≤◌, ◌<◌, length, get_or, set}
use Rattle.std.proofs.Common.{sym, ap, ◌∙◌, subst, arith, length-set, get_or-set_same, get_or-set_other}
use Rattle.std.proofs.Math.Logic.{by_cases}
use Rattle.std.proofs.Math.Decide.{ℕ_discrete, dec_lt}
use Rattle.std.specs.Int.Count.{count_trailing_zeros}
use Rattle.lists.specs.Part.{Skips}
use Rattle.rules.specs.declared.Sizes.{Sizes}
use Rattle.layout.specs.Places.{mark_of, cells_words}
use Rattle.layout.specs.Cells.{word_at, work_at, work_of, cell_named, ref_to, cell_on, cell_of, first_on, page_cells, cell_words, word_cell, work-cell, CellIn, cell_in}
use Rattle.layout.specs.Marks.{marked}
use Rattle.copy.specs.Moves.{Copied}
use Rattle.slide.specs.Ranks.{new_place, KeptCell, MarksListed, place-in, place-not-above, place-rises}
use Rattle.slide.specs.Walks.{Walk, Passes, walk-begin, walk-bit, walk-on, walk_here}
use Rattle.slide.specs.Numbered.{marked-here, unmarked-page}

-- ---- one cell

-- the words of cell c went to cell d, with word 1 zero, and no other word changed
pub record CellSlid (c d : ℕ) (W W' : List ℕ) : Type 0 where
  pub size : length W' ≡ length W
  pub moved : (i : ℕ) → i < cell_words → i ≢ 1 → get_or W' (word_at d i) 0 ≡ get_or W (word_at c i) 0
  pub clear : work_of W' d ≡ 0
  pub same : (q : ℕ) → cell_of q ≢ d → get_or W' q 0 ≡ get_or W q 0

-- a copy says the new place in word 1 of the old cell, where it stands already
pub copied-slid : {c d : ℕ} {W W' : List ℕ} → work_of W c ≡ ref_to d → Copied c d W W' → CellSlid c d W W'
copied-slid {c} {d} {W} {W'} e h =
    record {
      size = h.size;
      moved = h.body;
      clear = h.clear;
      same = λ q n.
          by_cases (ℕ_discrete q (work_at c)) (λ s. subst (λ (x : ℕ). get_or W' x 0 ≡ get_or W x 0) (sym s) (h.forward ∙ sym e)) (λ s. h.same q s n);
    }

-- a cell that stays
pub stayed-slid : {c d : ℕ} {W : List ℕ} → d ≡ c → work_at d < length W → CellSlid c d W (set W (work_at d) 0)
stayed-slid {c} {d} {W} e long =
    record {
      size = length-set W (work_at d) 0;
      moved = λ i l n.
          get_or-set_other W (work_at d) (word_at d i) 0 0 (λ s. n (omega arith)) ∙ ap (λ (x : ℕ). get_or W (word_at x i) 0) e;
      clear = get_or-set_same W (work_at d) 0 0 long;
      same = λ q n. get_or-set_other W (work_at d) q 0 0 (λ s. n (ap cell_of s ∙ work-cell d));
    }

-- ---- the kept cells from a up to b

pub record SlidIn (p : Sizes) (l T W W' : List ℕ) (a b : ℕ) : Type 0 where
  pub size : length W' ≡ length W
  pub moved : (c i : ℕ) → a ≤ c → c < b → marked p T c ≡ 1 → i < cell_words → i ≢ 1 → get_or W' (word_at (new_place p l T c) i) 0 ≡ get_or W (word_at c i) 0
  pub clear : (c : ℕ) → a ≤ c → c < b → marked p T c ≡ 1 → work_of W' (new_place p l T c) ≡ 0
  pub same : (q : ℕ) → ((c : ℕ) → a ≤ c → c < b → marked p T c ≡ 1 → cell_of q ≡ new_place p l T c → ⊥) → get_or W' q 0 ≡ get_or W q 0

-- all of them
pub record Slid (p : Sizes) (l T W W' : List ℕ) : Type 0 where
  pub size : length W' ≡ length W
  pub moved : (c i : ℕ) → KeptCell p T c → i < cell_words → i ≢ 1 → get_or W' (word_at (new_place p l T c) i) 0 ≡ get_or W (word_at c i) 0
  pub clear : (c : ℕ) → KeptCell p T c → work_of W' (new_place p l T c) ≡ 0
  pub same : (q : ℕ) → ((c : ℕ) → KeptCell p T c → cell_of q ≡ new_place p l T c → ⊥) → get_or W' q 0 ≡ get_or W q 0

pub slid-all : {p : Sizes} {l T W W' : List ℕ} → SlidIn p l T W W' 0 (first_on p.pages) → Slid p l T W W'
slid-all f =
    record {
      size = f.size;
      moved = λ c i k. f.moved c i (omega arith) (omega (arith, k.0)) k.1;
      clear = λ c k. f.clear c (omega arith) (omega (arith, k.0)) k.1;
      same = λ q n. f.same q (λ c h k on. n c (omega arith, on));
    }

-- word 1 of each kept cell from a on names its new place
abbrev pub NamedFrom : Sizes → List ℕ → List ℕ → ℕ → List ℕ → Type 0
NamedFrom p l T a W = (c : ℕ) → a ≤ c → KeptCell p T c → work_of W c ≡ ref_to (new_place p l T c)

pub slid-none : (p : Sizes) (l T W : List ℕ) (a : ℕ) → SlidIn p l T W W a a
slid-none p l T W a =
    record {
      size = refl;
      moved = λ c i h k. absurd (let z : ⊥ = omega arith in z);
      clear = λ c h k. absurd (let z : ⊥ = omega arith in z);
      same = λ q n. refl;
    }

-- a cell that is not kept
pub slid-pass : {p : Sizes} {l T W W' : List ℕ} {a b c : ℕ} → b ≤ c → ((d : ℕ) → b ≤ d → d < c → marked p T d ≡ 0) → SlidIn p l T W W' a b → SlidIn p l T W W' a c
slid-pass {p} {l} {T} {W} {W'} {a} {b} {c} bc off f =
    record {
      size = f.size;
      moved = λ d i h k on. f.moved d i h (below d k on (dec_lt d b)) on;
      clear = λ d h k on. f.clear d h (below d k on (dec_lt d b)) on;
      same = λ q n. f.same q (λ d h k. n d h (omega arith));
    }
  where
    below : (d : ℕ) → d < c → marked p T d ≡ 1 → Dec (d < b) → d < b
    below d k on (yes h) = h
    below d k on (no h) = absurd (let z : ⊥ = omega (arith, off d (omega arith) k) in z)

-- positions of different cells
apart : (x y i : ℕ) → x < y → i < cell_words → cell_of (word_at x i) ≡ y → ⊥
apart x y i h l e = omega (arith, word_cell x i l)

behind : (x b c i : ℕ) → x ≤ b → b < c → i < cell_words → cell_of (word_at c i) ≡ x → ⊥
behind x b c i h k l e = omega (arith, word_cell c i l)

module _ {p : Sizes} {n : ℕ} {l T : List ℕ} (m : MarksListed p n l T) where
  -- one after the other
  pub slid-join : {W W' W'' : List ℕ} {a b d : ℕ} → a ≤ b → b ≤ d → d ≤ first_on p.pages → SlidIn p l T W W' a b → SlidIn p l T W' W'' b d → SlidIn p l T W W'' a d
  slid-join {W} {W'} {W''} {a} {b} {d} ab bd top f g =
      record {
        size = g.size ∙ f.size;
        moved = λ c i h k on li ne. by_cases (dec_lt c b) (λ y. later c i y on li ∙ f.moved c i h y on li ne)
            (λ y. g.moved c i (omega arith) k on li ne ∙ earlier c i (omega arith) li);
        clear = λ c h k on. by_cases (dec_lt c b) (λ y. later c 1 y on (omega arith) ∙ f.clear c h y on) (λ y. g.clear c (omega arith) k on);
        same = λ q n. g.same q (λ c h. n c (omega arith)) ∙ f.same q (λ c h k. n c h (omega arith));
      }
    where
      kept : (c : ℕ) → c < d → marked p T c ≡ 1 → KeptCell p T c
      kept c h on = (omega arith, on)

      -- a new cell of the first part is no new cell of the second
      later : (c i : ℕ) → c < b → marked p T c ≡ 1 → i < cell_words → get_or W'' (word_at (new_place p l T c) i) 0 ≡ get_or W' (word_at (new_place p l T c) i) 0
      later c i h on li =
          g.same (word_at (new_place p l T c) i)
          (λ e x y one. apart (new_place p l T c) (new_place p l T e) i (place-rises m e (kept e y one) c on (omega arith)) li)

      -- and no old cell of the second is a new cell of the first
      earlier : (c i : ℕ) → b ≤ c → i < cell_words → get_or W' (word_at c i) 0 ≡ get_or W (word_at c i) 0
      earlier c i h li =
          f.same (word_at c i) (λ e x y one. behind (new_place p l T e) e c i (place-not-above m e (kept e (omega arith) one)) (omega arith) li)

  -- the names that are still to be read stand
  pub named-after : {W W' : List ℕ} {a b : ℕ} → a ≤ b → b ≤ first_on p.pages → NamedFrom p l T a W → SlidIn p l T W W' a b → NamedFrom p l T b W'
  named-after {W} {W'} {a} {b} ab top named f c h k =
      f.same (word_at c 1) (λ e x y one. behind (new_place p l T e) e c 1 (place-not-above m e (omega arith, one)) (omega arith) (omega arith))
      ∙ named c (omega arith) k

  -- one cell more
  pub slid-cell : {W W' W'' : List ℕ} {a : ℕ} (c d : ℕ) → a ≤ c → KeptCell p T c → d ≡ new_place p l T c → CellSlid c d W' W'' → SlidIn p l T W W' a c → SlidIn p l T W W'' a (c + 1)
  slid-cell {W} {W'} {W''} {a} c d h k e s f =
      slid-join h (omega arith) (omega (arith, k.0)) f
      (record {
        size = s.size;
        moved = λ b i x y on li ne.
            subst (λ (z : ℕ). get_or W'' (word_at (new_place p l T z) i) 0 ≡ get_or W' (word_at z i) 0) (let o : c ≡ b = omega arith in o)
            (ap (λ (z : ℕ). get_or W'' (word_at z i) 0) (sym e) ∙ s.moved i li ne);
        clear = λ b x y on.
            subst (λ (z : ℕ). work_of W'' (new_place p l T z) ≡ 0) (let o : c ≡ b = omega arith in o) (ap (work_of W'') (sym e) ∙ s.clear);
        same = λ q n. s.same q (λ z. n c (omega arith) (omega arith) k.1 (z ∙ e));
      })

-- ---- set bit by set bit and page by page

-- the cells of a page below place i
abbrev pub SlidHere : Sizes → List ℕ → List ℕ → ℕ → List ℕ → List ℕ → ℕ → Type 0
SlidHere p l T page W W' i = SlidIn p l T W W' (first_on page) (cell_on page i)

-- the pages below b
abbrev pub SlidTo : Sizes → List ℕ → List ℕ → List ℕ → List ℕ → ℕ → Type 0
SlidTo p l T W W' b = SlidIn p l T W W' 0 (first_on b)

pub slide-skips : {p : Sizes} {n : ℕ} {l T : List ℕ} (m : MarksListed p n l T) (W W' : List ℕ) → Skips p.pages n l (SlidTo p l T W W')
slide-skips {p} {n} {l} {T} m W W' q h off f =
    slid-pass (omega arith) (λ d x y. unmarked-page p T q d (m.none q h off) (omega arith)) f

pub slide-turn : {p : Sizes} {n : ℕ} {l T W W' W'' : List ℕ} (page : ℕ) → MarksListed p n l T → page < p.pages → SlidTo p l T W W' page → SlidHere p l T page W' W'' page_cells → SlidTo p l T W W'' (page + 1)
slide-turn {p} {n} {l} {T} {W} {W'} {W''} page m low f g =
    subst (SlidIn p l T W W'' 0) (let s : cell_on page page_cells ≡ first_on (page + 1) = omega arith in s)
    (slid-join m (omega arith) (omega arith) (omega arith) f g)

-- w is the mark word of the page, whose cells are still to go
pub record Sliding (p : Sizes) (n : ℕ) (l T : List ℕ) (page w : ℕ) (W : List ℕ) : Type 0 where
  pub listed : MarksListed p n l T
  pub low : page < p.pages
  pub word : w ≡ mark_of p T page
  pub small : w < 2 ^ page_cells
  pub named : NamedFrom p l T (first_on page) W

module _ {p : Sizes} {n : ℕ} {l T : List ℕ} {page w : ℕ} {W : List ℕ} (s : Sliding p n l T page w W) where
  pub slide-begin : Walk w w (SlidHere p l T page W W)
  slide-begin =
      walk-begin s.small
      (subst (SlidIn p l T W W (first_on page)) (let e : first_on page ≡ cell_on page 0 = omega arith in e) (slid-none p l T W (first_on page)))

  pub slide-passes : (W' : List ℕ) → Passes w (SlidHere p l T page W W')
  slide-passes W' i h off f =
      slid-pass (omega arith)
      (λ d x y. ap (marked p T) (let e : d ≡ cell_on page i = omega arith in e) ∙ marked-here p T page w i s.word h ∙ off) f

  -- the next bit i of it: its cell is kept, and names its new place
  module _ {left : ℕ} {W' : List ℕ} (u : Walk w left (SlidHere p l T page W W')) (pos : 0 < left) where
    pub slide-kept : KeptCell p T (cell_on page (count_trailing_zeros 32 left))
    slide-kept =
        let i = (walk-bit u pos).lt in
        (omega (arith, s.low), marked-here p T page w (count_trailing_zeros 32 left) s.word i ∙ walk-on u pos)

    pub slide-named : work_of W' (cell_on page (count_trailing_zeros 32 left)) ≡ ref_to (new_place p l T (cell_on page (count_trailing_zeros 32 left)))
    slide-named =
        let i = (walk-bit u pos).lt in
        named-after s.listed (omega arith) (omega (arith, s.low)) s.named (walk_here u (slide-passes W') pos) (cell_on page (count_trailing_zeros 32 left)) (omega arith) slide-kept

    -- c is the cell as the code has it
    module _ (c : ℕ) (e : c ≡ cell_on page (count_trailing_zeros 32 left)) where
      pub slide-to : work_of W' c ≡ ref_to (new_place p l T c)
      slide-to = subst (λ (x : ℕ). work_of W' x ≡ ref_to (new_place p l T x)) (sym e) slide-named

      -- both cells are there
      pub slide-there : p.pages ≤ 1024 → cells_words p ≤ length W' → CellIn c (length W') × ((0 < work_of W' c) × CellIn (cell_named (work_of W' c)) (length W'))
      slide-there few long =
          let k = subst (KeptCell p T) (sym e) slide-kept in
          let z : new_place p l T c ≡ cell_named (work_of W' c) = omega (arith, slide-to) in
          (cell_in p few long k.0, (omega (arith, slide-to), subst (λ (x : ℕ). CellIn x (length W')) z (cell_in p few long (place-in s.listed c k))))

      pub slide-bit : {W'' : List ℕ} → CellSlid c (cell_named (work_of W' c)) W' W'' → SlidHere p l T page W W'' (count_trailing_zeros 32 left + 1)
      slide-bit {W''} h =
          subst (SlidIn p l T W W'' (first_on page)) (let o : c + 1 ≡ cell_on page (count_trailing_zeros 32 left + 1) = omega arith in o)
          (slid-cell s.listed c (cell_named (work_of W' c)) (omega arith) (subst (KeptCell p T) (sym e) slide-kept) (omega (arith, slide-to)) h
          (subst (SlidIn p l T W W' (first_on page)) (sym e) (walk_here u (slide-passes W') pos)))

-- The listed pages hold the kept cells at their first places, and what lies behind is given back.
use Rattle.std.specs.Prelude.{◌≡◌, refl, ◌≢◌, List, ℕ, ◌+◌, ◌-◌, ◌*◌, ◌≤◌, ◌<◌, min, length, get_or, set}
use Rattle.std.proofs.Common.{ap, ◌∙◌, subst₂, arith, length-set, get_or-set_same, get_or-set_other}
use Rattle.std.proofs.Math.Path.{subst₃}
use Rattle.std.proofs.Math.Logic.{by_cases}
use Rattle.std.proofs.Math.Decide.{dec_lt}
use Rattle.lists.specs.Below.{upto}
use Rattle.lists.specs.Part.{Rises}
use Rattle.lists.specs.Zeros.{Cleared}
use Rattle.rules.specs.declared.Sizes.{Sizes}
use Rattle.layout.specs.Places.{Room, owner_at, used_at, mark_at, owner_of, used_of, mark_of}
use Rattle.layout.specs.Cells.{head_at, cell_on, cell_of, place_of, page_at, page_cells}

-- how many of so many kept cells listed page number j holds
abbrev pub left_for : ℕ → ℕ → ℕ
left_for kept j = min (kept - page_cells * j) page_cells

-- q is none of the three words of a page
abbrev pub OffPage : Sizes → ℕ → ℕ → Type 0
OffPage p page q = (q ≢ owner_at p page) × (q ≢ used_at p page) × (q ≢ mark_at p page)

-- ---- one page

-- its cells from place u up to place v became zero
pub record CellsCleared (page u v : ℕ) (W W' : List ℕ) : Type 0 where
  pub size : length W' ≡ length W
  pub zeros : (q : ℕ) → page_at q ≡ page → u ≤ place_of (cell_of q) → place_of (cell_of q) < v → get_or W' q 0 ≡ 0
  pub same : (q : ℕ) → (page_at q ≡ page → u ≤ place_of (cell_of q) → place_of (cell_of q) < v → ⊥) → get_or W' q 0 ≡ get_or W q 0

pub cells-none : (page u v : ℕ) (W : List ℕ) → v ≤ u → CellsCleared page u v W W
cells-none page u v W h = record { size = refl; zeros = λ q e a b. absurd (let z : ⊥ = omega arith in z); same = λ q n. refl }

pub cells-cleared : (page u v : ℕ) {W W' : List ℕ} → v ≤ page_cells → Cleared (head_at (cell_on page u)) (head_at (cell_on page v)) W W' → CellsCleared page u v W W'
cells-cleared page u v {W} {W'} few c =
    record {
      size = c.long;
      zeros = λ q e a b. c.zeros q (omega arith) (omega arith);
      same = λ q n.
          by_cases (dec_lt q (head_at (cell_on page u))) (c.low q)
          (λ a. by_cases (dec_lt q (head_at (cell_on page v))) (λ b. absurd (n (omega arith) (omega arith) (omega arith))) (λ b. c.high q (omega arith)));
    }

-- its words: so many cells in use, this owner, no marks
pub record WordsAre (p : Sizes) (page u o : ℕ) (T T' : List ℕ) : Type 0 where
  pub size : length T' ≡ length T
  pub used : used_of p T' page ≡ u
  pub owner : owner_of p T' page ≡ o
  pub mark : mark_of p T' page ≡ 0
  pub same : (q : ℕ) → OffPage p page q → get_or T' q 0 ≡ get_or T q 0

-- a page without cells is free
pub record PageWords (p : Sizes) (page u : ℕ) (T T' : List ℕ) : Type 0 where
  pub size : length T' ≡ length T
  pub used : used_of p T' page ≡ u
  pub owner : 0 < u → owner_of p T' page ≡ owner_of p T page
  pub free : u ≡ 0 → owner_of p T' page ≡ 0
  pub mark : mark_of p T' page ≡ 0
  pub same : (q : ℕ) → OffPage p page q → get_or T' q 0 ≡ get_or T q 0

pub words-held : {p : Sizes} {page u : ℕ} {T T' : List ℕ} → u ≢ 0 → WordsAre p page u (owner_of p T page) T T' → PageWords p page u T T'
words-held pos w =
    record { size = w.size; used = w.used; owner = λ h. w.owner; free = λ z. absurd (pos z); mark = w.mark; same = w.same }

pub words-free : {p : Sizes} {page u : ℕ} {T T' : List ℕ} → u ≡ 0 → WordsAre p page u 0 T T' → PageWords p page u T T'
words-free z w =
    record { size = w.size; used = w.used; owner = λ h. absurd (let y : ⊥ = omega arith in y); free = λ z. w.owner; mark = w.mark; same = w.same }

-- as the code stores them
module _ {p : Sizes} {T : List ℕ} (r : Room p (length T)) {page : ℕ} (low : page < p.pages) (u : ℕ) where
  pub words-stored : WordsAre p page u (owner_of p T page) T (set (set T (used_at p page) u) (mark_at p page) 0)
  words-stored =
      record {
        size = length-set (set T (used_at p page) u) (mark_at p page) 0 ∙ length-set T (used_at p page) u;
        used =
            get_or-set_other (set T (used_at p page) u) (mark_at p page) (used_at p page) 0 0 (λ z. omega (arith, r.used))
            ∙ get_or-set_same T (used_at p page) u 0 (omega (arith, r));
        owner =
            get_or-set_other (set T (used_at p page) u) (mark_at p page) (owner_at p page) 0 0 (λ z. omega (arith, r.owners, r.used))
            ∙ get_or-set_other T (used_at p page) (owner_at p page) u 0 (λ z. omega (arith, r.owners));
        mark = get_or-set_same (set T (used_at p page) u) (mark_at p page) 0 0 (omega (arith, r, length-set T (used_at p page) u));
        same = λ q n. get_or-set_other (set T (used_at p page) u) (mark_at p page) q 0 0 n.2 ∙ get_or-set_other T (used_at p page) q u 0 n.1;
      }

  pub words-freed : {T' : List ℕ} {o : ℕ} → WordsAre p page u o T T' → WordsAre p page u 0 T (set T' (owner_at p page) 0)
  words-freed {T'} w =
      record {
        size = length-set T' (owner_at p page) 0 ∙ w.size;
        used = get_or-set_other T' (owner_at p page) (used_at p page) 0 0 (λ z. omega (arith, r.owners)) ∙ w.used;
        owner = get_or-set_same T' (owner_at p page) 0 0 (omega (arith, r, w.size));
        mark = get_or-set_other T' (owner_at p page) (mark_at p page) 0 0 (λ z. omega (arith, r.owners, r.used)) ∙ w.mark;
        same = λ q n. get_or-set_other T' (owner_at p page) q 0 0 n.0 ∙ w.same q n;
      }

-- ---- the first n listed pages

pub record Trimmed (p : Sizes) (l : List ℕ) (n kept : ℕ) (W T W' T' : List ℕ) : Type 0 where
  pub cells-size : length W' ≡ length W
  pub tables-size : length T' ≡ length T
  pub used : (j : ℕ) → j < n → used_of p T' (get_or l j 0) ≡ left_for kept j
  pub owner : (j : ℕ) → j < n → 0 < left_for kept j → owner_of p T' (get_or l j 0) ≡ owner_of p T (get_or l j 0)
  pub free : (j : ℕ) → j < n → left_for kept j ≡ 0 → owner_of p T' (get_or l j 0) ≡ 0
  pub marks : (j : ℕ) → j < n → mark_of p T' (get_or l j 0) ≡ 0
  pub tables : (q : ℕ) → ((j : ℕ) → j < n → OffPage p (get_or l j 0) q) → get_or T' q 0 ≡ get_or T q 0
  pub zeros : (q j : ℕ) → j < n → page_at q ≡ get_or l j 0 → left_for kept j ≤ place_of (cell_of q) → place_of (cell_of q) < used_of p T (get_or l j 0) → get_or W' q 0 ≡ 0
  pub cells : (q : ℕ) → ((j : ℕ) → j < n → page_at q ≡ get_or l j 0 → left_for kept j ≤ place_of (cell_of q) → place_of (cell_of q) < used_of p T (get_or l j 0) → ⊥) → get_or W' q 0 ≡ get_or W q 0

pub trim_start : (p : Sizes) (l : List ℕ) (kept : ℕ) (W T : List ℕ) → Trimmed p l 0 kept W T W T
trim_start p l kept W T =
    record {
      cells-size = refl;
      tables-size = refl;
      used = λ j h. absurd (let z : ⊥ = omega arith in z);
      owner = λ j h. absurd (let z : ⊥ = omega arith in z);
      free = λ j h. absurd (let z : ⊥ = omega arith in z);
      marks = λ j h. absurd (let z : ⊥ = omega arith in z);
      tables = λ q n. refl;
      zeros = λ q j h. absurd (let z : ⊥ = omega arith in z);
      cells = λ q n. refl;
    }

-- the words of two pages
pub record PagesApart (p : Sizes) (a b : ℕ) : Type 0 where
  pub owner : OffPage p a (owner_at p b)
  pub used : OffPage p a (used_at p b)
  pub mark : OffPage p a (mark_at p b)

pages-apart : {p : Sizes} {k : ℕ} → Room p k → (a b : ℕ) → a < p.pages → b < p.pages → a ≢ b → PagesApart p a b
pages-apart {p} r a b la lb ne =
    record {
      owner = (λ e. ne (omega arith), λ e. omega (arith, r.owners), λ e. omega (arith, r.owners, r.used));
      used = (λ e. omega (arith, r.owners), λ e. ne (omega arith), λ e. omega (arith, r.used));
      mark = (λ e. omega (arith, r.owners, r.used), λ e. omega (arith, r.used), λ e. ne (omega arith));
    }

module _ {p : Sizes} {l : List ℕ} {m n kept : ℕ} {W T W' T' : List ℕ} (r : Room p (length T)) (rises : Rises p.pages m l) (h : n < m) (f : Trimmed p l n kept W T W' T') where
  -- the next page is none of those before it
  before : (j : ℕ) → j < n → PagesApart p (get_or l j 0) (get_or l n 0) × PagesApart p (get_or l n 0) (get_or l j 0)
  before j k =
      let low = rises.low n h in
      let low' = rises.low j (omega arith) in
      let lt = rises.rising j n k h in
      (pages-apart r (get_or l j 0) (get_or l n 0) low' low (λ e. omega arith), pages-apart r (get_or l n 0) (get_or l j 0) low low' (λ e. omega arith))

  -- its words are still the old ones
  pub trim-used : used_of p T' (get_or l n 0) ≡ used_of p T (get_or l n 0)
  trim-used = f.tables (used_at p (get_or l n 0)) (λ j k. (before j k).0.used)

  trim-owner : owner_of p T' (get_or l n 0) ≡ owner_of p T (get_or l n 0)
  trim-owner = f.tables (owner_at p (get_or l n 0)) (λ j k. (before j k).0.owner)

  trim-next : {W'' T'' : List ℕ} → CellsCleared (get_or l n 0) (left_for kept n) (used_of p T (get_or l n 0)) W' W'' → PageWords p (get_or l n 0) (left_for kept n) T' T'' → Trimmed p l (n + 1) kept W T W'' T''
  trim-next {W''} {T''} c w =
      record {
        cells-size = c.size ∙ f.cells-size;
        tables-size = w.size ∙ f.tables-size;
        used =
            upto n {X = λ j. used_of p T'' (get_or l j 0) ≡ left_for kept j} (λ j k. w.same (used_at p (get_or l j 0)) (before j k).1.used ∙ f.used j k) w.used;
        owner =
            upto n {X = λ j. 0 < left_for kept j → owner_of p T'' (get_or l j 0) ≡ owner_of p T (get_or l j 0)}
            (λ j k pos. w.same (owner_at p (get_or l j 0)) (before j k).1.owner ∙ f.owner j k pos) (λ pos. w.owner pos ∙ trim-owner);
        free =
            upto n {X = λ j. left_for kept j ≡ 0 → owner_of p T'' (get_or l j 0) ≡ 0}
            (λ j k z. w.same (owner_at p (get_or l j 0)) (before j k).1.owner ∙ f.free j k z) w.free;
        marks =
            upto n {X = λ j. mark_of p T'' (get_or l j 0) ≡ 0} (λ j k. w.same (mark_at p (get_or l j 0)) (before j k).1.mark ∙ f.marks j k) w.mark;
        tables = λ q k. w.same q (k n (omega arith)) ∙ f.tables q (λ j i. k j (omega arith));
        zeros = λ q.
            upto n {X = λ j. page_at q ≡ get_or l j 0 → left_for kept j ≤ place_of (cell_of q) → place_of (cell_of q) < used_of p T (get_or l j 0) → get_or W'' q 0 ≡ 0}
            (λ j k on a b. c.same q (λ on'. absurd (let z : ⊥ = omega (arith, rises.rising j n k h) in z)) ∙ f.zeros q j k on a b) (c.zeros q);
        cells = λ q k. c.same q (k n (omega arith)) ∙ f.cells q (λ j i. k j (omega arith));
      }

  -- page, u and v are as the code has them
  pub trim-turn : {W'' T'' : List ℕ} (page u v : ℕ) → page ≡ get_or l n 0 → u ≡ left_for kept n → v ≡ used_of p T' page → CellsCleared page u v W' W'' → PageWords p page u T' T'' → Trimmed p l (n + 1) kept W T W'' T''
  trim-turn {W''} {T''} page u v ep eu ev c w =
      trim-next (subst₃ (λ (x y z : ℕ). CellsCleared x y z W' W'') ep eu (ev ∙ ap (used_of p T') ep ∙ trim-used) c)
      (subst₂ (λ (x y : ℕ). PageWords p x y T' T'') ep eu w)

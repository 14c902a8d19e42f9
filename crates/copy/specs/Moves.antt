-- One survivor is moved: a cell is taken, its words are copied, its mark goes to the upper half.
use Rattle.std.specs.Prelude.{◌≡◌, refl, ◌≢◌, ◌⊎◌, List, [], ◌∷◌, ℕ, ◌+◌, ◌≤◌, ◌<◌, length, get_or, set}
use Rattle.std.proofs.Common.{sym, ap, ap₂, ◌∙◌, subst, inl, inr, ⊎_elim, arith, get_or-set_same, get_or-set_other}
use Rattle.std.proofs.Math.Logic.{by_cases}
use Rattle.std.proofs.Math.Decide.{ℕ_discrete}
use Rattle.lists.specs.Bits.{bit_at}
use Rattle.lists.specs.Counting.{sum_same}
use Rattle.rules.specs.Graph.{pages_of}
use Rattle.rules.specs.declared.Sizes.{Sizes}
use Rattle.rules.specs.Regions.{regions}
use Rattle.layout.specs.Places.{Room, mark_at, owner_of, used_of, mark_of, owners_from, made_at, made_of, cells_words, count_room}
use Rattle.layout.specs.Cells.{cell_on, page-on, word_at, work_at, work_of, ref_to, page_of, place_of, cell_of, word_of, page_cells, cell_words, place-low, same-cell, word_cell, word-there, work-cell, work-there}
use Rattle.layout.specs.Marks.{marked}
use Rattle.layout.specs.Objects.{InUse, NotInUse, Begins, begins-used, used-begins, begins-page, work-used}
use Rattle.layout.specs.Words.{tables_only}
use Rattle.promises.specs.Whole.{objects_of}
use Rattle.promises.specs.Regular.{Regular, SamePage, objects-same}
use Rattle.promises.specs.OwnedPages.{owned_one, owned_in, owned-same}
use Rattle.promises.specs.Areas.{owner_words, used_words, mark_words, Only, store-only, mark-in}
use Rattle.promises.proofs.Frames.{regular-frame}
use Rattle.promises.specs.TakeCell.{Took}
use Rattle.promises.proofs.TakeCell.{took-only, took-used, took-unused, still-used, used-split, owner-used, took-objects, took-objects-other, took-regular}
use Rattle.pages.specs.Noted.{NoneFreed, took-none-freed}
use Rattle.copy.specs.Marks.{marks_at, copied, raised, raised-off, raised-on, raised-other}
use Rattle.copy.specs.Cursor.{Points, took-points, points-same}
use Rattle.copy.specs.Taking.{Next, took-needs, room-same}

-- ---- the words of a cell

-- cell d has the words of cell c but for word 1, which is zero; word 1 of cell c is the reference to d
pub record Copied (c d : ℕ) (W W' : List ℕ) : Type 0 where
  pub size : length W' ≡ length W
  pub body : (i : ℕ) → i < cell_words → i ≢ 1 → get_or W' (word_at d i) 0 ≡ get_or W (word_at c i) 0
  pub clear : work_of W' d ≡ 0
  pub forward : work_of W' c ≡ ref_to d
  pub same : (x : ℕ) → x ≢ work_at c → cell_of x ≢ d → get_or W' x 0 ≡ get_or W x 0

-- ---- one move

-- survivor c can go to page q of region g
pub record Movable (p : Sizes) (g q : ℕ) (W T : List ℕ) (c : ℕ) : Type 0 where
  pub room : Room p (length T)
  pub regular : Regular p T
  pub real : 1 ≤ g
  pub low : g ≤ regions p
  pub next : Next p g q T
  pub cells-long : cells_words p ≤ length W
  pub used : Begins p W T c
  pub on : marked p T c ≡ 1
  pub fresh : copied p T c ≡ 0
  pub target : work_of W c ≡ g

pub record Step (p : Sizes) (g q c : ℕ) (W T W' T' : List ℕ) : Type 0 where
  pub can : Movable p g q W T c
  pub new : ℕ
  pub mid : List ℕ
  pub cell : new ≡ cell_on q (used_of p T q)
  pub took : Took p T g new (made_of p T) mid
  pub copied : Copied c new W W'
  pub tables : T' ≡ set mid (marks_at p c) (raised (get_or mid (marks_at p c) 0) (place_of c))

-- what the move needs of the cell that was taken
pub record Taken (p : Sizes) (W T T' : List ℕ) (c d at i : ℕ) : Type 0 where
  pub apart : c ≢ d
  pub few : p.pages ≤ 1024
  pub cell : page_of d < p.pages
  pub old : page_of c < p.pages
  pub long : cells_words p ≤ length W
  pub word : at < length T'
  pub same : length T' ≡ length T
  pub on : bit_at (get_or T' at 0) i ≡ 1
  pub fresh : bit_at (get_or T' at 0) (page_cells + i) ≡ 0

-- the marks stay
took-marks : {p : Sizes} {T : List ℕ} {g d n : ℕ} {T' : List ℕ} → 1 ≤ g → g ≤ regions p → Took p T g d n T' → (x : ℕ) → x < p.pages → mark_of p T' x ≡ mark_of p T x
took-marks {p} {T} {g} {d} {n} {T'} real low t = (took-only p (tables_only T) g d n T' t real low).same mark_words refl

pub movable-taken : {p : Sizes} {g q : ℕ} {W T T' : List ℕ} {c d n : ℕ} → Movable p g q W T c → Took p T g d n T' → Taken p W T T' c d (marks_at p c) (place_of c)
movable-taken {p} {g} {q} {W} {T} {T'} {c} {d} {n} m t =
    let page = begins-page p W T c m.used in
    let e = took-marks m.real m.low t (page_of c) page in
    record {
      apart = λ z. took-unused t (subst (InUse p T) z (begins-used p W T c m.used));
      few = m.room.few;
      cell = t.page;
      old = page;
      long = m.cells-long;
      word = omega (arith, m.room, page, t.long);
      same = t.long;
      on = ap (λ (x : ℕ). bit_at x (place_of c)) e ∙ m.on;
      fresh = ap (λ (x : ℕ). bit_at x (page_cells + place_of c)) e ∙ m.fresh;
    }

-- ---- what one move does

module _ {p : Sizes} {g q c : ℕ} {W T W' T' : List ℕ} (s : Step p g q c W T W' T') where
  page-in : page_of c < p.pages
  page-in = begins-page p W T c s.can.used

  mid-long : marks_at p c < length s.mid
  mid-long = (movable-taken s.can s.took).word

  mid-only : Only (mark_words ∷ []) p (tables_only s.mid) (tables_only T')
  mid-only =
      subst (λ (X : List ℕ). Only (mark_words ∷ []) p (tables_only s.mid) (tables_only X)) (sym s.tables)
      (store-only p (tables_only s.mid) mark_words (marks_at p c) _ (mark-in p (page_of c) page-in) (omega (arith, page-in, s.can.room, count_room p)))

  pub mid-pages : (x : ℕ) → x < p.pages → SamePage p s.mid T' x
  mid-pages x l = record { owner = mid-only.same owner_words refl x l; used = mid-only.same used_words refl x l }

  pub step-size : length T' ≡ length T
  step-size = mid-only.beyond.tables.long ∙ s.took.long

  pub step_room : Room p (length T')
  step_room = room-same step-size s.can.room

  pub step-regular : Regular p T'
  step-regular = regular-frame mid-only refl refl refl (took-regular s.can.regular s.took s.can.real)

  -- no page becomes free
  pub step-none-freed : NoneFreed p T T'
  step-none-freed = record { was = λ x l z. (took-none-freed s.can.real s.took).was x l (sym (mid-pages x l).owner ∙ z) }

  pub step-objects : objects_of p T' g ≡ objects_of p T g + 1
  step-objects = objects-same mid-pages g ∙ took-objects s.can.regular s.took s.can.real

  pub step-objects-other : (h : ℕ) → 1 ≤ h → h ≢ g → objects_of p T' h ≡ objects_of p T h
  step-objects-other h pos ne = objects-same mid-pages h ∙ took-objects-other s.can.regular s.took s.can.real h pos ne

  pub step-pages : pages_of (objects_of p T' g) + owned_in p T' 0 p.pages ≡ pages_of (objects_of p T g) + owned_in p T 0 p.pages
  step-pages =
      ap₂ (λ (a b : ℕ). pages_of a + b) (objects-same mid-pages g) (sum_same (owned_one p T' 0) (owned_one p s.mid 0) p.pages (λ x l. owned-same (mid-pages x l) 0))
      ∙ took-needs s.can.regular s.can.real s.took

  mid-other : (x : ℕ) → x ≢ marks_at p c → get_or T' x 0 ≡ get_or s.mid x 0
  mid-other x ne =
      ap (λ (X : List ℕ). get_or X x 0) s.tables
      ∙ get_or-set_other s.mid (marks_at p c) x (raised (get_or s.mid (marks_at p c) 0) (place_of c)) 0 ne

  -- words of the tables that are neither a page's nor a count
  pub step-rest : (x : ℕ) → (x < owners_from p) ⊎ (made_at p ≤ x) → get_or T' x 0 ≡ get_or T x 0
  step-rest x (inl l) =
      mid-other x (λ e. omega (arith, s.can.room)) ∙ s.took.others x (λ e. omega arith) (λ e. omega (arith, s.can.room)) (λ e. omega (arith, s.can.room)) (λ e. omega (arith, s.can.room))
  step-rest x (inr l) =
      let page = s.took.page in
      mid-other x (λ e. omega (arith, page-in, s.can.room))
      ∙ by_cases (ℕ_discrete x (made_at p)) (λ e. ap (λ (y : ℕ). get_or s.mid y 0) e ∙ s.took.made ∙ ap (λ (y : ℕ). get_or T y 0) (sym e))
      (s.took.others x (λ e. omega (arith, page, s.can.room)) (λ e. omega (arith, page, s.can.room)) (λ e. omega (arith, s.can.real, s.can.low, s.can.room)))

  -- marks
  mark-here : get_or T' (marks_at p c) 0 ≡ raised (get_or T (marks_at p c) 0) (place_of c)
  mark-here =
      ap (λ (X : List ℕ). get_or X (marks_at p c) 0) s.tables
      ∙ get_or-set_same s.mid (marks_at p c) (raised (get_or s.mid (marks_at p c) 0) (place_of c)) 0 mid-long
      ∙ ap (λ (x : ℕ). raised x (place_of c)) (took-marks s.can.real s.can.low s.took (page_of c) page-in)

  -- other pages keep their mark word
  pub step-marks : (q : ℕ) → q < p.pages → q ≢ page_of c → mark_of p T' q ≡ mark_of p T q
  step-marks q l n =
      mid-other (mark_at p q) (λ e. n (omega arith)) ∙ took-marks s.can.real s.can.low s.took q l

  step-bit : (q j : ℕ) → q < p.pages → (q ≡ page_of c → (j ≢ place_of c) × (j ≢ page_cells + place_of c)) → bit_at (mark_of p T' q) j ≡ bit_at (mark_of p T q) j
  step-bit q j l h = go (ℕ_discrete q (page_of c))
    where
      go : Dec (q ≡ page_of c) → bit_at (mark_of p T' q) j ≡ bit_at (mark_of p T q) j
      go (yes e) =
          subst (λ (y : ℕ). bit_at (mark_of p T' y) j ≡ bit_at (mark_of p T y) j) (sym e)
          (ap (λ (y : ℕ). bit_at y j) mark-here ∙ raised-other (get_or T (marks_at p c) 0) (place_of c) s.can.on s.can.fresh j (h e).0 (h e).1)
      go (no n) = ap (λ (y : ℕ). bit_at y j) (step-marks q l n)

  pub step-off : marked p T' c ≡ 0
  step-off = ap (λ (x : ℕ). bit_at x (place_of c)) mark-here ∙ raised-off (get_or T (marks_at p c) 0) (place_of c) s.can.on s.can.fresh

  step-copied : copied p T' c ≡ 1
  step-copied = ap (λ (x : ℕ). bit_at x (page_cells + place_of c)) mark-here ∙ raised-on (get_or T (marks_at p c) 0) (place_of c) s.can.on s.can.fresh

  pub step-on : (x : ℕ) → page_of x < p.pages → x ≢ c → marked p T' x ≡ marked p T x
  step-on x l ne = step-bit (page_of x) (place_of x) l (λ e. (λ z. ne (same-cell e z), λ z. omega (arith, place-low x)))

  pub step-copied-other : (x : ℕ) → page_of x < p.pages → x ≢ c → copied p T' x ≡ copied p T x
  step-copied-other x l ne = step-bit (page_of x) (page_cells + place_of x) l (λ e. (λ z. omega (arith, place-low c), λ z. ne (same-cell e (omega arith))))

  -- a survivor waits or is copied
  pub step-bits : (x : ℕ) → page_of x < p.pages → marked p T' x + copied p T' x ≡ marked p T x + copied p T x
  step-bits x l = go (ℕ_discrete x c)
    where
      go : Dec (x ≡ c) → marked p T' x + copied p T' x ≡ marked p T x + copied p T x
      go (yes e) =
          subst (λ (y : ℕ). marked p T' y + copied p T' y ≡ marked p T y + copied p T y) (sym e)
          (omega (arith, step-off, step-copied, s.can.on, s.can.fresh))
      go (no n) = ap₂ (λ (a b : ℕ). a + b) (step-on x l n) (step-copied-other x l n)

  -- cells in use, each of which is an object
  use-mid : (x : ℕ) → InUse p T' x → InUse p s.mid x
  use-mid x u = record { page = u.page; place = omega (arith, u.place, (mid-pages (page_of x) u.page).used) }

  mid-use : (x : ℕ) → InUse p s.mid x → InUse p T' x
  mid-use x u = record { page = u.page; place = omega (arith, u.place, (mid-pages (page_of x) u.page).used) }

  pub step-new : InUse p T s.new → ⊥
  step-new = took-unused s.took

  pub step-in-use : Begins p W' T' s.new
  step-in-use = used-begins p W' T' s.new (mid-use s.new (took-used s.took))

  pub step-home : owner_of p T' (page_of s.new) ≡ g
  step-home = (mid-pages (page_of s.new) s.took.page).owner ∙ s.took.owner

  pub step_keeps : (x : ℕ) → Begins p W T x → Begins p W' T' x
  step_keeps x u = used-begins p W' T' x (mid-use x (still-used s.took x (begins-used p W T x u)))

  pub step-owner : (x : ℕ) → Begins p W T x → owner_of p T' (page_of x) ≡ owner_of p T (page_of x)
  step-owner x u = (mid-pages (page_of x) (begins-page p W T x u)).owner ∙ owner-used s.can.regular s.took x (begins-used p W T x u)

  pub step-only : (x : ℕ) → Begins p W' T' x → Begins p W T x ⊎ (x ≡ s.new)
  step-only x u = ⊎_elim inr (λ v. inl (used-begins p W T x v)) (used-split s.took x (use-mid x (begins-used p W' T' x u)))

  -- the link of an object other than c stays
  pub step-link : (x : ℕ) → Begins p W T x → x ≢ c → work_of W' x ≡ work_of W x
  step-link x u ne =
      s.copied.same (work_at x) (λ e. ne (sym (work-cell x) ∙ ap cell_of e ∙ work-cell c))
      (λ e. step-new (subst (InUse p T) (sym (work-cell x) ∙ e) (begins-used p W T x u)))

  -- and every word of its cell
  pub step_words : (x i : ℕ) → i < cell_words → Begins p W T x → (x ≡ c → i ≢ 1) → get_or W' (word_at x i) 0 ≡ get_or W (word_at x i) 0
  step_words x i l u ne =
      s.copied.same (word_at x i) (λ e. ne (sym (word_cell x i l) ∙ ap cell_of e ∙ work-cell c) (sym (word-there x i l) ∙ ap word_of e ∙ work-there c))
      (λ e. step-new (subst (InUse p T) (sym (word_cell x i l) ∙ e) (begins-used p W T x u)))

  -- nothing is written to a cell that is not in use then
  pub step-unused : (x : ℕ) → NotInUse p T' x → NotInUse p T x × (get_or W' x 0 ≡ get_or W x 0)
  step-unused x n = (
    record { low = n.low; unused = λ u. n.unused (mid-use (cell_of x) (still-used s.took (cell_of x) u)) },
    s.copied.same x (λ e. n.unused (subst (λ (i : ℕ). InUse p T' (cell_of i)) (sym e) (work-used p W' T' c (step_keeps c s.can.used))))
        (λ e. n.unused (subst (InUse p T') (sym e) (mid-use s.new (took-used s.took)))),
  )

  -- the pass stays at the page
  pub step-points : Points p T' g q
  step-points = points-same mid-pages (subst (Points p s.mid g) (ap page_of s.cell ∙ page-on q (used_of p T q) s.can.next.part) (took-points s.took))

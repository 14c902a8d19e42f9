-- The slots of the copies: those of one survivor, of the survivors of a page, of all pages.
use Rattle.std.specs.Prelude.{◌≡◌, refl, ◌≢◌, ◌⊎◌, List, ℕ, ◌+◌, ◌-◌, ◌/◌, ◌^◌, ◌≤◌, ◌<◌, length}
use Rattle.std.proofs.Common.{sym, ap, ◌∙◌, subst, inl, inr, ⊎_elim, arith}
use Rattle.std.proofs.Math.Decide.{ℕ_discrete}
use Rattle.lists.specs.Bits.{bit_at, bit-zero, clear-same, clear-other, Lowest}
use Rattle.lists.specs.SetBits.{upper-bit}
use Rattle.rules.specs.declared.Sizes.{Sizes}
use Rattle.layout.specs.Places.{Room, mark_of, cells_words}
use Rattle.layout.specs.Cells.{work_of, refs_of, page_of, place_of, cell_on, cell_named, page_cells, page-on, place-on, on-page, field_apart}
use Rattle.copy.specs.Marks.{copied}
use Rattle.copy.specs.Forward.{forward}
use Rattle.settle.specs.Rewrite.{Rewritten, link-same, refs-same}
use Rattle.settle.specs.RewriteSlots.{Field, Fields}

-- ---- the copies: of the cells that are marked as copied and of which Q holds

pub record CopySlot (p : Sizes) (Q : ℕ → Type 0) (W T : List ℕ) (x : ℕ) : Type 0 where
  pub cell : ℕ
  pub among : Q cell
  pub moved : copied p T cell ≡ 1
  pub field : Field (forward W cell) (refs_of W (forward W cell)) x

pub record Wiring (p : Sizes) (Q : ℕ → Type 0) (W T : List ℕ) : Type 0 where
  pub cells-long : cells_words p ≤ length W
  pub tables-long : Room p (length T)
  pub moved : (c : ℕ) → Q c → copied p T c ≡ 1 → work_of W c ≢ 0
  pub copies : (c : ℕ) → Q c → copied p T c ≡ 1 → Fields p (refs_of W (forward W c)) (forward W c) W
  pub once : (b c : ℕ) → Q b → Q c → copied p T b ≡ 1 → copied p T c ≡ 1 → work_of W b ≡ work_of W c → b ≡ c

-- they are found by words 0 and 1 of cells alone
slot-carried : {p : Sizes} {Q : ℕ → Type 0} {T W W' : List ℕ} → ((c : ℕ) → work_of W' c ≡ work_of W c) → ((c : ℕ) → refs_of W' c ≡ refs_of W c)
    → (x : ℕ) → CopySlot p Q W T x → CopySlot p Q W' T x
slot-carried {W = W} {W' = W'} links refs x q =
    let f = q.field in
    record {
      cell = q.cell;
      among = q.among;
      moved = q.moved;
      field =
          subst (λ (y : ℕ). Field (cell_named y) (refs_of W' (cell_named y)) x) (sym (links q.cell))
          (record { field = f.field; low = omega (arith, f.low, refs (forward W q.cell)); at = f.at });
    }

module _ {P : ℕ → Type 0} {W W' : List ℕ} (h : Rewritten P W W') where
  pub slot-now : {p : Sizes} {Q : ℕ → Type 0} {T : List ℕ} (x : ℕ) → CopySlot p Q W T x → CopySlot p Q W' T x
  slot-now = slot-carried (link-same h) (refs-same h)

  pub slot-then : {p : Sizes} {Q : ℕ → Type 0} {T : List ℕ} (x : ℕ) → CopySlot p Q W' T x → CopySlot p Q W T x
  slot-then = slot-carried (λ c. sym (link-same h c)) (λ c. sym (refs-same h c))

  pub wiring-now : {p : Sizes} {Q : ℕ → Type 0} {T : List ℕ} → Wiring p Q W T → Wiring p Q W' T
  wiring-now {p} {Q} {T} a =
      record {
        cells-long = omega (arith, a.cells-long, h.size);
        tables-long = a.tables-long;
        moved = λ c q u z. a.moved c q u (sym (link-same h c) ∙ z);
        copies = λ c q u.
            let f = a.copies c q u in
            subst (λ (y : ℕ). Fields p (refs_of W' (cell_named y)) (cell_named y) W') (sym (link-same h c))
            (record { cells-long = omega (arith, f.cells-long, h.size); page = f.page; few = omega (arith, f.few, refs-same h (forward W c)) });
        once = λ b c q q' u v e. a.once b c q q' u v (sym (link-same h b) ∙ e ∙ link-same h c);
      }

pub wiring-less : {p : Sizes} {P Q : ℕ → Type 0} {W T : List ℕ} → ((c : ℕ) → P c → Q c) → Wiring p Q W T → Wiring p P W T
wiring-less f a =
    record {
      cells-long = a.cells-long;
      tables-long = a.tables-long;
      moved = λ c q. a.moved c (f c q);
      copies = λ c q. a.copies c (f c q);
      once = λ b c q q' u v e. a.once b c (f b q) (f c q') u v e;
    }

pub slot-less : {p : Sizes} {P Q : ℕ → Type 0} {W T : List ℕ} → ((c : ℕ) → P c → Q c) → (x : ℕ) → CopySlot p P W T x → CopySlot p Q W T x
slot-less f x q = record { cell = q.cell; among = f q.cell q.among; moved = q.moved; field = q.field }

-- ---- one set of cells after another

-- R is P and Q, which have no cell in common; all are of A
pub record Split (A P Q R : ℕ → Type 0) : Type 0 where
  pub first : (c : ℕ) → P c → A c
  pub second : (c : ℕ) → Q c → A c
  pub apart : (c : ℕ) → P c → Q c → ⊥
  pub from : (c : ℕ) → R c → P c ⊎ Q c
  pub to : (c : ℕ) → P c ⊎ Q c → R c

module _ {p : Sizes} {A P Q R : ℕ → Type 0} {W T W' : List ℕ} (w : Wiring p A W T) (s : Split A P Q R) (h : Rewritten (CopySlot p P W T) W W') where
  pub slots_apart : (x : ℕ) → CopySlot p P W T x → CopySlot p Q W T x → ⊥
  slots_apart x a b =
      let qa = s.first a.cell a.among in
      let qb = s.second b.cell b.among in
      let na : work_of W a.cell ≢ 0 = w.moved a.cell qa a.moved in
      let nb : work_of W b.cell ≢ 0 = w.moved b.cell qb b.moved in
      let e : forward W a.cell ≡ forward W b.cell =
      field_apart (omega (arith, (w.copies a.cell qa a.moved).few, a.field.low)) (omega (arith, (w.copies b.cell qb b.moved).few, b.field.low))
      (sym a.field.at ∙ b.field.at) in
      s.apart b.cell (subst P (w.once a.cell b.cell qa qb a.moved b.moved (omega arith)) a.among) b.among

  pub second-wired : Wiring p Q W' T
  second-wired = wiring-now h (wiring-less s.second w)

-- ---- the copies of a page's survivors, bit by bit

abbrev pub OnPage : ℕ → ℕ → Type 0
OnPage q c = page_of c ≡ q

abbrev pub OnPages : ℕ → ℕ → Type 0
OnPages n c = page_of c < n

-- the cells of page q whose bit is not left
abbrev pub Passed : ℕ → ℕ → ℕ → Type 0
Passed q left c = OnPage q c × (bit_at left (place_of c) ≡ 0)

-- the cell of bit i comes; left' as the code has it
pub passed-split : {left : ℕ} (q i left' : ℕ) → Lowest left i → left' ≡ left - 2 ^ i → Split (OnPage q) (Passed q left) (λ c. c ≡ cell_on q i) (Passed q left')
passed-split {left} q i left' l e =
    record {
      first = λ c m. m.0;
      second = λ c z. ap page_of z ∙ page-on q i l.lt;
      apart = λ c m z. let y : ⊥ = omega (arith, l.on, ap (bit_at left) (ap place_of z ∙ place), m.1) in y;
      from = λ c m. from' c m (ℕ_discrete (place_of c) i);
      to = λ c. ⊎_elim (λ m. (m.0, at (place_of c) ∙ keeps (place_of c) m.1 (ℕ_discrete (place_of c) i)))
          (λ z. subst (Passed q left') (sym z) (page-on q i l.lt, ap (bit_at left') place ∙ at i ∙ clear-same i left l.on));
    }
  where
    place : place_of (cell_on q i) ≡ i
    place = place-on q i l.lt

    at : (j : ℕ) → bit_at left' j ≡ bit_at (left - 2 ^ i) j
    at j = ap (λ (x : ℕ). bit_at x j) e

    keeps : (j : ℕ) → bit_at left j ≡ 0 → Dec (j ≡ i) → bit_at (left - 2 ^ i) j ≡ 0
    keeps j z (yes d) = ap (bit_at (left - 2 ^ i)) d ∙ clear-same i left l.on
    keeps j z (no n) = clear-other i j left l.on n ∙ z

    from' : (c : ℕ) → Passed q left' c → Dec (place_of c ≡ i) → Passed q left c ⊎ (c ≡ cell_on q i)
    from' c m (yes d) = inr (on-page m.0 ∙ ap (cell_on q) d)
    from' c m (no n) = inl (m.0, sym (clear-other i (place_of c) left l.on n) ∙ sym (at (place_of c)) ∙ m.1)

-- w is the upper half of the page's mark word
module _ (p : Sizes) (q : ℕ) (T : List ℕ) {w : ℕ} (e : w ≡ mark_of p T q / 2 ^ 16) where
  upper-copied : (c : ℕ) → page_of c ≡ q → bit_at w (place_of c) ≡ copied p T c
  upper-copied c d =
      ap (λ (x : ℕ). bit_at x (place_of c)) e ∙ upper-bit (mark_of p T q) (place_of c) ∙ ap (λ (x : ℕ). bit_at (mark_of p T x) (page_cells + place_of c)) (sym d)

  pub bit-copied : (i : ℕ) → i < page_cells → bit_at w i ≡ 1 → copied p T (cell_on q i) ≡ 1
  bit-copied i l on = sym (upper-copied (cell_on q i) (page-on q i l)) ∙ ap (bit_at w) (place-on q i l) ∙ on

  -- a cell whose bit is not set has no copy
  pub unset-none : {W : List ℕ} (x : ℕ) → CopySlot p (Passed q w) W T x → ⊥
  unset-none x s = omega (arith, s.moved, upper-copied s.cell s.among.0, s.among.1)

-- once none is left, all cells of the page are passed
pub within-passed : (q left c : ℕ) → left ≡ 0 → OnPage q c → Passed q left c
within-passed q left c z m = (m, ap (λ (x : ℕ). bit_at x (place_of c)) z ∙ bit-zero (place_of c))

-- ---- all pages

-- page q after those below it
pub pages_split : {q n : ℕ} → q < n → Split (OnPages n) (OnPages q) (OnPage q) (OnPages (q + 1))
pages_split {q} {n} lt =
    record {
      first = λ c l. omega arith;
      second = λ c e. omega arith;
      apart = λ c l e. let z : ⊥ = omega arith in z;
      from = λ c l. go c l (ℕ_discrete (page_of c) q);
      to = λ c. ⊎_elim (λ (l : page_of c < q). omega arith) (λ (e : page_of c ≡ q). omega arith);
    }
  where
    go : (c : ℕ) → OnPages (q + 1) c → Dec (page_of c ≡ q) → OnPages q c ⊎ OnPage q c
    go c l (yes e) = inr e
    go c l (no n) = inl (omega arith)

-- a page without marks has no copies
pub unmarked-none : {p : Sizes} {q : ℕ} {W T : List ℕ} → mark_of p T q ≡ 0 → (x : ℕ) → CopySlot p (OnPage q) W T x → ⊥
unmarked-none {p} {q} {T = T} z x s = unset-none p q T refl x (slot-less (λ c m. within-passed q (mark_of p T q / 2 ^ 16) c (omega (arith, z)) m) x s)

-- Objects in the cells: where one begins, which words are its own, and its slots. An object takes one cell. What rests on that cites one of
-- `begins-used`, `used-begins`, `begins-on`, `begins-there`, `covers-cell`, `spot`, `slot-word`, `word-slot`, `none_before`, `none_after`, `none-past`
-- here, `room-is`, `room_most`, `most-is`, `most-words` or `field-page` to `field-high` in Cells, or copies a whole cell (`copy`).
use Rattle.std.specs.Prelude.{ℕ, zero, suc, ◌+◌, ◌-◌, ◌*◌, ◌≤◌, ◌<◌, List, Bool, true, false, cond, ◌≡◌, refl, leb}
use native.Mathlib.Omega.{arith}
use Rattle.std.proofs.Math.Decide.{dec_lt}
use Rattle.std.proofs.Math.Bool.{◌&&◌}
use Rattle.std.proofs.Common.{sym, subst, ◌∙◌}
use Rattle.std.proofs.Math.Path.{ap, ap₂}
use Rattle.std.proofs.Math.Dec.{ltb}
use borrow.Author.Tests.{lt-ltb, ltb-true, le-leb, leb-true}
use Rattle.lists.specs.Says.{true-not-false}
use Rattle.lists.specs.Tests.{both_true}
use Rattle.lists.specs.Counting.{sum, sum-none, sum_same, sum-add, sum-blocks}
use Rattle.rules.specs.declared.Sizes.{Sizes}
pub use Rattle.rules.specs.Rules.{cell_count}
use Rattle.layout.specs.Places.{cells_words, used_of}
use Rattle.layout.specs.Cells.{head_at, work_at, field_at, head_of, refs_of, IsReference, room_for, room-is, page_cells, page_of, place_of, cell_on, cell_of, word_of, page_at}

-- cell k is in use: it is one of the first cells of its page
pub record InUse (s : Sizes) (t : List ℕ) (k : ℕ) : Type 0 where
  pub page : page_of k < s.pages
  pub place : place_of k < used_of s t (page_of k)

-- position q is a word of a cell that is not in use
pub record NotInUse (s : Sizes) (t : List ℕ) (q : ℕ) : Type 0 where
  pub low : q < cells_words s
  pub unused : InUse s t (cell_of q) → ⊥

pub in-use? : (s : Sizes) (t : List ℕ) (k : ℕ) → Dec (InUse s t k)
in-use? s t k = go (dec_lt (page_of k) s.pages) (dec_lt (place_of k) (used_of s t (page_of k)))
  where
    go : Dec (page_of k < s.pages) → Dec (place_of k < used_of s t (page_of k)) → Dec (InUse s t k)
    go (yes l) (yes m) = yes (record { page = l; place = m })
    go (yes l) (no n) = no (λ u. n u.place)
    go (no n) d = no (λ u. n u.page)

-- the same where pages use as many cells
module _ {s : Sizes} {t t' : List ℕ} (same : (page : ℕ) → page < s.pages → used_of s t' page ≡ used_of s t page) where
  pub in-use-same : (k : ℕ) → InUse s t k → InUse s t' k
  in-use-same k u = record { page = u.page; place = omega (arith, u.place, same (page_of k) u.page) }

  in-use-back : (k : ℕ) → InUse s t' k → InUse s t k
  in-use-back k u = record { page = u.page; place = omega (arith, u.place, same (page_of k) u.page) }

  pub unused-same : (q : ℕ) → NotInUse s t q → NotInUse s t' q
  unused-same q n = record { low = n.low; unused = λ u. n.unused (in-use-back (cell_of q) u) }

  pub unused-back : (q : ℕ) → NotInUse s t' q → NotInUse s t q
  unused-back q n = record { low = n.low; unused = λ u. n.unused (in-use-same (cell_of q) u) }

-- ---- an object begins at cell k of cells c and tables t

unfoldable pub Begins : Sizes → List ℕ → List ℕ → ℕ → Type 0
Begins s c t k = InUse s t k

unfoldable pub begins_at : Sizes → List ℕ → List ℕ → ℕ → Bool
begins_at s c t k = ltb (page_of k) s.pages && ltb (place_of k) (used_of s t (page_of k))

module _ (s : Sizes) (c t : List ℕ) where
  pub begins-used : (k : ℕ) → Begins s c t k → InUse s t k
  unfolding Begins
  begins-used k b = b

  pub used-begins : (k : ℕ) → InUse s t k → Begins s c t k
  unfolding Begins
  used-begins k u = u

  pub begins-page : (k : ℕ) → Begins s c t k → page_of k < s.pages
  begins-page k b = (begins-used k b).page

  pub begins-low : (k : ℕ) → Begins s c t k → k < cell_count s
  begins-low k b = omega (arith, begins-page k b)

  pub begins-true : (k : ℕ) → Begins s c t k → begins_at s c t k ≡ true
  unfolding begins_at
  begins-true k b = ap₂ ◌&&◌ (lt-ltb _ _ (begins-used k b).page) (lt-ltb _ _ (begins-used k b).place)

  pub true-begins : (k : ℕ) → begins_at s c t k ≡ true → Begins s c t k
  unfolding begins_at
  true-begins k e =
      let r = both_true _ _ e in
      used-begins k (record { page = ltb-true _ _ r.0; place = ltb-true _ _ r.1 })

  pub begins-false : (k : ℕ) → (Begins s c t k → ⊥) → begins_at s c t k ≡ false
  begins-false k n = go (begins_at s c t k) refl
    where
      go : (b : Bool) → begins_at s c t k ≡ b → begins_at s c t k ≡ false
      go true e = absurd (n (true-begins k e))
      go false e = e

  pub begins? : (k : ℕ) → Dec (Begins s c t k)
  begins? k = go (begins_at s c t k) refl
    where
      go : (b : Bool) → begins_at s c t k ≡ b → Dec (Begins s c t k)
      go true e = yes (true-begins k e)
      go false e = no (λ b. true-not-false (sym e ∙ begins-true k b))

  -- of the cells of a page
  pub begins-on : (page place : ℕ) → page < s.pages → place < page_cells → begins_at s c t (cell_on page place) ≡ ltb place (used_of s t page)
  unfolding begins_at
  begins-on page place l m =
      let e : page_of (cell_on page place) ≡ page = omega arith in
      let f : place_of (cell_on page place) ≡ place = omega arith in
      ap₂ (λ (p q : ℕ). ltb p s.pages && ltb q (used_of s t p)) e f ∙ ap (λ (b : Bool). b && ltb place (used_of s t page)) (lt-ltb page s.pages l)

-- the same where the used word of its page and the heads of the objects there are the same
module _ (s : Sizes) (c t c' t' : List ℕ) (k : ℕ) (used : used_of s t' (page_of k) ≡ used_of s t (page_of k))
    (heads : (j : ℕ) → Begins s c t j → page_of j ≡ page_of k → head_of c' j ≡ head_of c j) where
  pub begins-same : Begins s c t k → Begins s c' t' k
  begins-same b = let u = begins-used s c t k b in used-begins s c' t' k (record { page = u.page; place = omega (arith, u.place) })

  pub begins-back : Begins s c' t' k → Begins s c t k
  begins-back b = let u = begins-used s c' t' k b in used-begins s c t k (record { page = u.page; place = omega (arith, u.place) })

-- ---- its words

-- position q is one of the words of an object at this cell with this word 0
unfoldable pub Covers : ℕ → ℕ → ℕ → Type 0
Covers cell head q = cell_of q ≡ cell

module _ (s : Sizes) (c t : List ℕ) (k : ℕ) (b : Begins s c t k) where
  -- up to the end of its room
  pub fields-inside : (f : ℕ) → f ≤ room_for (head_of c k) → field_at k f ≤ cells_words s
  fields-inside f l = omega (arith, begins-page s c t k b, room-is (head_of c k))

  pub field-inside : (f : ℕ) → f < room_for (head_of c k) → field_at k f < cells_words s
  field-inside f l = omega (arith, begins-page s c t k b, room-is (head_of c k))

  pub field-on : (f : ℕ) → f < room_for (head_of c k) → page_at (field_at k f) ≡ page_of k
  field-on f l = omega (arith, room-is (head_of c k))

  -- they lie in cells in use
  pub work-used : InUse s t (cell_of (work_at k))
  work-used = subst (InUse s t) (let e : k ≡ cell_of (work_at k) = omega arith in e) (begins-used s c t k b)

  pub field-used : (f : ℕ) → f < room_for (head_of c k) → InUse s t (cell_of (field_at k f))
  field-used f l = subst (InUse s t) (let e : k ≡ cell_of (field_at k f) = omega (arith, room-is (head_of c k)) in e) (begins-used s c t k b)

  -- none is a word of a cell that is not in use
  module _ (cell head : ℕ) (none : InUse s t cell → ⊥) where
    apart : k ≡ cell → ⊥
    apart e = none (subst (InUse s t) e (begins-used s c t k b))

    pub head-not-new : Covers cell head (head_at k) → ⊥
    unfolding Covers
    head-not-new e = apart (omega arith)

    pub work-not-new : Covers cell head (work_at k) → ⊥
    unfolding Covers
    work-not-new e = apart (omega arith)

    pub field-not-new : (f : ℕ) → f < room_for (head_of c k) → Covers cell head (field_at k f) → ⊥
    unfolding Covers
    field-not-new f l e = apart (omega (arith, room-is (head_of c k)))

  module _ (j : ℕ) (d : Begins s c t j) (g : ℕ) (l : g < room_for (head_of c j)) where
    pub field-not-head : head_at k ≡ field_at j g → ⊥
    field-not-head e = omega (arith, room-is (head_of c j))

    pub field-not-work : work_at k ≡ field_at j g → ⊥
    field-not-work e = omega (arith, room-is (head_of c j))

    -- THE OBJECTS STAND APART
    pub objects-apart : (f : ℕ) → f < room_for (head_of c k) → field_at k f ≡ field_at j g → (k ≡ j) × (f ≡ g)
    objects-apart f m e = (omega (arith, room-is (head_of c j), room-is (head_of c k)), omega (arith, room-is (head_of c j), room-is (head_of c k)))

-- they are word 0, word 1 and the fields that it has room for
module _ (cell head : ℕ) where
  pub covers-head : Covers cell head (head_at cell)
  unfolding Covers
  covers-head = omega arith

  pub covers-work : Covers cell head (work_at cell)
  unfolding Covers
  covers-work = omega arith

  pub covers-field : (f : ℕ) → f < room_for head → Covers cell head (field_at cell f)
  unfolding Covers
  covers-field f l = omega (arith, room-is head)

-- the words of an object on a page of the heap lie inside
pub covers_low : (s : Sizes) (cell head q : ℕ) → page_of cell < s.pages → Covers cell head q → q < cells_words s
unfolding Covers
covers_low s cell head q l e = omega arith

-- and in its cells
pub covers-cell : (cell head q : ℕ) → Covers cell head q → cell_of q ≡ cell
unfolding Covers
covers-cell cell head q e = e

-- each word of a cell in use is a word of an object
pub data Spot (s : Sizes) (c t : List ℕ) (q : ℕ) : Type 0 where
  head : (k : ℕ) → Begins s c t k → q ≡ head_at k → Spot s c t q
  work : (k : ℕ) → Begins s c t k → q ≡ work_at k → Spot s c t q
  field : (k f : ℕ) → Begins s c t k → f < room_for (head_of c k) → q ≡ field_at k f → Spot s c t q

pub spot : (s : Sizes) (c t : List ℕ) (q : ℕ) → InUse s t (cell_of q) → Spot s c t q
spot s c t q u = go (word_of q) refl
  where
    b : Begins s c t (cell_of q)
    b = used-begins s c t (cell_of q) u

    go : (j : ℕ) → word_of q ≡ j → Spot s c t q
    go zero e = head (cell_of q) b (omega arith)
    go (suc zero) e = work (cell_of q) b (omega arith)
    go (suc (suc f)) e = field (cell_of q) f b (omega (arith, room-is (head_of c (cell_of q)))) (omega arith)

-- ---- slots: the reference fields of objects

pub record Slot (s : Sizes) (c t : List ℕ) (q : ℕ) : Type 0 where
  pub object : ℕ
  pub field : ℕ
  pub begins : Begins s c t object
  pub room : field < room_for (head_of c object)
  pub low : field < refs_of c object
  pub at : field_at object field ≡ q

unfoldable pub is_slot : Sizes → List ℕ → List ℕ → ℕ → Bool
is_slot s c t q = begins_at s c t (cell_of q) && (leb 2 (word_of q) && ltb (word_of q) (refs_of c (cell_of q) + 2))

module _ (s : Sizes) (c t : List ℕ) (q : ℕ) where
  pub slot-true : Slot s c t q → is_slot s c t q ≡ true
  unfolding is_slot
  slot-true o =
      let e : cell_of q ≡ o.object = omega (arith, o.at, o.room, room-is (head_of c o.object)) in
      let f : word_of q ≡ 2 + o.field = omega (arith, o.at, o.room, room-is (head_of c o.object)) in
      ap₂ (λ (k j : ℕ). begins_at s c t k && (leb 2 j && ltb j (refs_of c k + 2))) e f
      ∙ ap₂ ◌&&◌ (begins-true s c t o.object o.begins) (ap₂ ◌&&◌ (le-leb 2 (2 + o.field) (omega arith)) (lt-ltb (2 + o.field) (refs_of c o.object + 2) (omega (arith, o.low))))

  pub true-slot : is_slot s c t q ≡ true → Slot s c t q
  unfolding is_slot
  true-slot e =
      let r = both_true _ _ e in
      let p = both_true _ _ r.1 in
      let two = leb-true 2 (word_of q) p.0 in
      record {
        object = cell_of q;
        field = word_of q - 2;
        begins = true-begins s c t (cell_of q) r.0;
        room = omega (arith, room-is (head_of c (cell_of q)));
        low = omega (arith, ltb-true (word_of q) (refs_of c (cell_of q) + 2) p.1);
        at = omega arith;
      }

  pub slot? : Dec (Slot s c t q)
  slot? = go (is_slot s c t q) refl
    where
      go : (b : Bool) → is_slot s c t q ≡ b → Dec (Slot s c t q)
      go true e = yes (true-slot e)
      go false e = no (λ o. true-not-false (sym e ∙ slot-true o))

  pub no_slot : (Slot s c t q → ⊥) → is_slot s c t q ≡ false
  no_slot n = go (is_slot s c t q) refl
    where
      go : (b : Bool) → is_slot s c t q ≡ b → is_slot s c t q ≡ false
      go true e = absurd (n (true-slot e))
      go false e = e

  pub slot-low : Slot s c t q → q < cells_words s
  slot-low o = subst (λ (i : ℕ). i < cells_words s) o.at (field-inside s c t o.object o.begins o.field o.room)

  pub slot-page : (o : Slot s c t q) → page_at q ≡ page_of o.object
  slot-page o = subst (λ (i : ℕ). page_at i ≡ page_of o.object) o.at (field-on s c t o.object o.begins o.field o.room)

  pub slot-on : Slot s c t q → page_at q < s.pages
  slot-on o = subst (λ (i : ℕ). i < s.pages) (sym (slot-page o)) (begins-page s c t o.object o.begins)

  -- by the cell of the position, and the word of it there
  pub slot-word : Slot s c t q → InUse s t (cell_of q) × IsReference (head_of c (cell_of q)) (word_of q)
  slot-word o =
      let e : o.object ≡ cell_of q = omega (arith, o.at, o.room, room-is (head_of c o.object)) in
      let f : word_of q ≡ o.field + 2 = omega (arith, o.at, o.room, room-is (head_of c o.object)) in
      (subst (InUse s t) e (begins-used s c t o.object o.begins), (omega arith, omega (arith, o.low, ap (refs_of c) e)))

  pub word-slot : InUse s t (cell_of q) → IsReference (head_of c (cell_of q)) (word_of q) → Slot s c t q
  word-slot u r =
      record {
        object = cell_of q;
        field = word_of q - 2;
        begins = used-begins s c t (cell_of q) u;
        room = omega (arith, r.0, room-is (head_of c (cell_of q)));
        low = omega (arith, r.0, r.1);
        at = omega (arith, r.0);
      }

-- each reference field of an object is one
pub field-slot : (s : Sizes) (c t : List ℕ) (k f : ℕ) → Begins s c t k → f < room_for (head_of c k) → f < refs_of c k → Slot s c t (field_at k f)
field-slot s c t k f b l m = record { object = k; field = f; begins = b; room = l; low = m; at = refl }

-- ---- a pass over the words: cell by cell of a page, and in a cell reference by reference

module _ (s : Sizes) (c t : List ℕ) (q : ℕ) where
  pub none_before : (k : ℕ) → head_at k ≤ q → q < field_at k 0 → Slot s c t q → ⊥
  none_before k l m o = omega (arith, o.at, o.room, room-is (head_of c o.object))

  pub none_after : (k f : ℕ) → refs_of c k ≤ f → field_at k f ≤ q → q < head_at (k + 1) → Slot s c t q → ⊥
  none_after k f h l m o =
      let e : o.object ≡ k = omega (arith, o.at, o.room, room-is (head_of c o.object)) in
      omega (arith, o.at, o.low, ap (refs_of c) e)

  pub none-past : (page place : ℕ) → used_of s t page ≤ place → place ≤ page_cells → head_at (cell_on page place) ≤ q → q < head_at (cell_on (page + 1) 0) → Slot s c t q → ⊥
  none-past page place h i l m o =
      let e : page_of o.object ≡ page = omega (arith, o.at, o.room, room-is (head_of c o.object)) in
      omega (arith, o.at, o.room, room-is (head_of c o.object), (begins-used s c t o.object o.begins).place, ap (used_of s t) e)

pub begins-there : (s : Sizes) (c t : List ℕ) (page place : ℕ) → page < s.pages → place < page_cells → place < used_of s t page → Begins s c t (cell_on page place)
begins-there s c t page place l m u = true-begins s c t (cell_on page place) (begins-on s c t page place l m ∙ lt-ltb place (used_of s t page) u)

-- what is 0 but at slots sums up object by object
abbrev pub slots_of : Sizes → List ℕ → List ℕ → (ℕ → ℕ) → ℕ → ℕ
slots_of s c t g k = cond (begins_at s c t k) (sum (λ f. g (field_at k f)) (refs_of c k)) 0

module _ (s : Sizes) (c t : List ℕ) (g : ℕ → ℕ) (none : (q : ℕ) → q < cells_words s → (Slot s c t q → ⊥) → g q ≡ 0)
    (few : (k : ℕ) → Begins s c t k → refs_of c k ≤ room_for (head_of c k)) where
  one : (k : ℕ) → k < cell_count s → sum (λ j. g (16 * k + j)) 16 ≡ slots_of s c t g k
  one k l = go (begins? s c t k)
    where
      go : Dec (Begins s c t k) → sum (λ j. g (16 * k + j)) 16 ≡ cond (begins_at s c t k) (sum (λ f. g (field_at k f)) (refs_of c k)) 0
      go (no n) =
          sum-none (λ j. g (16 * k + j)) 16 (λ j m. none (16 * k + j) (omega arith) (λ o.
          let e : o.object ≡ k = omega (arith, o.at, o.room, room-is (head_of c o.object)) in
          n (subst (Begins s c t) e o.begins)))
          ∙ sym (ap (λ (b : Bool). cond b (sum (λ f. g (field_at k f)) (refs_of c k)) 0) (begins-false s c t k n))
      go (yes b) =
          let r = refs_of c k in
          let h : r ≤ 14 = omega (arith, few k b, room-is (head_of c k)) in
          let e : r + (14 - r) ≡ 14 = omega arith in
          omega (
            arith,
            sum-add (λ j. g (16 * k + j)) 2 14,
            ap (sum (λ i. g (16 * k + (2 + i)))) (sym e) ∙ sum-add (λ i. g (16 * k + (2 + i))) r (14 - r),
            sum-none (λ j. g (16 * k + j)) 2 (λ j m. none (16 * k + j) (omega arith) (none_before s c t (16 * k + j) k (omega arith) (omega arith))),
            sum-none (λ j. g (16 * k + (2 + (r + j)))) (14 - r) (λ j m. none (16 * k + (2 + (r + j))) (omega arith) (none_after s c t (16 * k + (2 + (r + j))) k r (omega arith) (omega arith) (omega arith))),
            sum_same (λ i. g (16 * k + (2 + i))) (λ f. g (field_at k f)) r (λ i m. ap g (let q : 16 * k + (2 + i) ≡ field_at k i = omega arith in q)),
            ap (λ (x : Bool). cond x (sum (λ f. g (field_at k f)) r) 0) (begins-true s c t k b),
          )

  pub slots-sum : sum g (cells_words s) ≡ sum (slots_of s c t g) (cell_count s)
  slots-sum =
      let e : cells_words s ≡ 16 * cell_count s = omega arith in
      ap (sum g) e ∙ sum-blocks 16 g (slots_of s c t g) (cell_count s) one

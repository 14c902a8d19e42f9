-- Crossing slots, counted page by page, cell by cell and reference by reference.
use Rattle.std.specs.Prelude.{◌≡◌, ℕ, ◌+◌, ◌<◌, ◌≤◌, false, List, ◌==◌}
use Rattle.std.proofs.Common.{sym, ap, ap₂, subst, ◌∙◌, arith, le-ltb, eq-eqb, eqb-true}
use Rattle.lists.specs.Counting.{count, count-positive, count-zero, count-to, sum_mono, bit}
use Rattle.lists.specs.Says.{Says}
use Rattle.rules.specs.declared.Sizes.{Sizes}
use Rattle.layout.specs.Places.{cells_words, owner_of, used_of}
use Rattle.layout.specs.Cells.{head_at, head_of, field_at, field_of, refs_of, most_fields, room_for, room_most, field_end, page_cells, page_of, cell_on, page-on}
use Rattle.layout.specs.Objects.{Begins, begins-there, Slot, none_before, none_after, none-past}
use Rattle.remember.specs.Crossing.{crosses_from, cross_to, crossing}
use Rattle.remember.proofs.Crosses.{field-cross, no-cross}
use Rattle.whole.specs.Cells.{CellsWhole}

-- how many slots cross before position n
abbrev pub crossing_to : Sizes → List ℕ → List ℕ → ℕ → ℕ
crossing_to p c t n = count (crossing p c t) n

-- every object is whole, and so many slots cross
pub record CellsCross (p : Sizes) (c t : List ℕ) (n : ℕ) : Type 0 where
  pub whole : CellsWhole p c t
  pub crossing : crossing_to p c t (cells_words p) ≡ n

module _ (p : Sizes) (c t : List ℕ) where
  none : (q : ℕ) → (Slot p c t q → ⊥) → crossing p c t q ≡ false
  none q n = le-ltb 0 (cross_to p c t q) (omega (arith, no-cross p c t q n))

  -- so a count may pass over what is no slot
  pub to_fields : (k : ℕ) → crossing_to p c t (field_at k 0) ≡ crossing_to p c t (head_at k)
  to_fields k = count-to (crossing p c t) (head_at k) (field_at k 0) (omega arith) (λ q l m. none q (none_before p c t q k l m))

  pub to-next-cell : (k f : ℕ) → refs_of c k ≤ f → f ≤ most_fields → crossing_to p c t (head_at (k + 1)) ≡ crossing_to p c t (field_at k f)
  to-next-cell k f h i = count-to (crossing p c t) (field_at k f) (head_at (k + 1)) (field_end k f i) (λ q l m. none q (none_after p c t q k f h l m))

  pub to-next-page : (page place : ℕ) → used_of p t page ≤ place → place ≤ page_cells
      → crossing_to p c t (head_at (cell_on (page + 1) 0)) ≡ crossing_to p c t (head_at (cell_on page place))
  to-next-page page place h i =
      count-to (crossing p c t) (head_at (cell_on page place)) (head_at (cell_on (page + 1) 0)) (omega arith) (λ q l m. none q (none-past p c t q page place h i l m))

  -- the slot of field f: o, x and r are its owner, its word and the region that it crosses into, as the code read them
  pub crosses-at : (page place cell f o x r : ℕ) {used refs : ℕ} → cell ≡ cell_on page place → o ≡ owner_of p t page → x ≡ field_of c cell f
      → r ≡ crosses_from p t o x → used ≡ used_of p t page → refs ≡ refs_of c cell → page < p.pages → used ≤ page_cells → refs ≤ most_fields → place < used → f < refs
      → r ≡ cross_to p c t (field_at cell f)
  crosses-at page place cell f o x r {used} {refs} i e q z u v w a n l m =
      let b : Begins p c t cell = subst (Begins p c t) (sym i) (begins-there p c t page place w (omega arith) (omega arith)) in
      let room : f < room_for (head_of c cell) = omega (arith, room_most (head_of c cell)) in
      let at : page_of cell ≡ page = ap page_of i ∙ page-on page place (omega arith) in
      z ∙ ap₂ (crosses_from p t) (e ∙ ap (owner_of p t) (sym at)) q ∙ sym (field-cross p c t cell f b room (omega arith))

  next : (k f : ℕ) → crossing_to p c t (field_at k (f + 1)) ≡ crossing_to p c t (field_at k f + 1)
  next k f = let e : field_at k (f + 1) ≡ field_at k f + 1 = omega arith in ap (crossing_to p c t) e

  pub crosses-yes : (k f : ℕ) {r : ℕ} → r ≡ cross_to p c t (field_at k f) → 0 < r → crossing_to p c t (field_at k (f + 1)) ≡ crossing_to p c t (field_at k f) + 1
  crosses-yes k f e l = next k f ∙ count-positive (cross_to p c t) (field_at k f) e l

  pub crosses-no : (k f : ℕ) {r : ℕ} → r ≡ cross_to p c t (field_at k f) → r ≤ 0 → crossing_to p c t (field_at k (f + 1)) ≡ crossing_to p c t (field_at k f)
  crosses-no k f e l = next k f ∙ count-zero (cross_to p c t) (field_at k f) e l

  -- what has been counted is no more than all
  counted-so-far : (m n : ℕ) → m ≤ n → crossing_to p c t m ≤ crossing_to p c t n
  counted-so-far m n l = sum_mono (λ q. bit (crossing p c t q)) m n l

  -- so the first slot past e of them is one too many
  pub too_many : (k f : ℕ) {n e r : ℕ} → n ≡ crossing_to p c t (field_at k f) → r ≡ cross_to p c t (field_at k f) → 0 < r → e < n + 1
      → field_at k (f + 1) ≤ cells_words p → CellsCross p c t e → ⊥
  too_many k f h q l m b w = omega (arith, crosses-yes k f q l, counted-so-far (field_at k (f + 1)) (cells_words p) b, w.crossing)

-- n as the code counted it, all there are
pub says-cross : {p : Sizes} {c t : List ℕ} (n e : ℕ) → CellsWhole p c t → n ≡ crossing_to p c t (cells_words p) → Says (n == e) (CellsCross p c t e)
says-cross n e w h = (λ q. record { whole = w; crossing = sym h ∙ eqb-true n e q }, λ k. eq-eqb n e (h ∙ k.crossing))

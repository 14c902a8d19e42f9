-- Cells in use: their form, their working word and their references. An object begins at each of them.
use Rattle.std.specs.Prelude.{◌≡◌, ℕ, ◌+◌, ◌-◌, ◌<◌, ◌≤◌, List, refl}
use Rattle.std.proofs.Common.{sym, ap, subst, ◌∙◌, arith}
use Rattle.rules.specs.declared.Sizes.{Sizes}
use Rattle.layout.specs.declared.Kind.TheVariants.{Number}
use Rattle.layout.specs.Places.{used_of}
use Rattle.layout.specs.Cells.{head_of, work_of, field_of, field_count, refs_of, most_fields, room_most, cell_named, page_cells, page_of, place_of, cell_on, on-page}
use Rattle.layout.specs.Objects.{Begins, begins-page, begins-used, used-begins, begins-there}
use Rattle.promises.specs.Whole.{IsRef, ObjectWhole}

pub record CellWhole (p : Sizes) (c t : List ℕ) (k : ℕ) : Type 0 where
  pub object : ObjectWhole p c t k
  pub working : work_of c k ≡ 0

-- the fields of cell k from f on are zero
abbrev pub ZeroFrom : List ℕ → ℕ → ℕ → Type 0
ZeroFrom c k f = (g : ℕ) → g < most_fields → f ≤ g → field_of c k g ≡ 0

-- every object
abbrev pub CellsWhole : Sizes → List ℕ → List ℕ → Type 0
CellsWhole p c t = (k : ℕ) → Begins p c t k → CellWhole p c t k

-- the cells in use of a page
abbrev pub PageCells : Sizes → List ℕ → List ℕ → ℕ → Type 0
PageCells p c t page = (place : ℕ) → place < used_of p t page → CellWhole p c t (cell_on page place)

-- page by page is every object
pub all-pages : (p : Sizes) (c t : List ℕ) → ((page : ℕ) → page < p.pages → PageCells p c t page) → CellsWhole p c t
all-pages p c t h k b =
    let u = begins-used p c t k b in
    subst (λ (x : ℕ). CellWhole p c t x) (sym (on-page refl)) (h (page_of k) u.page (place_of k) u.place)

-- the fields as the code finds them whole: r is the count of references and d that of numbers, as it read them
module _ {p : Sizes} {c t : List ℕ} {k r d : ℕ} (e : r ≡ refs_of c k) (q : d ≡ field_count Number (head_of c k)) where
  pub object-whole : r + d ≤ most_fields → ((f : ℕ) → f < r → IsRef p c t (field_of c k f)) → ZeroFrom c k (r + d) → ObjectWhole p c t k
  object-whole few refs rest =
      record {
        head = omega arith;
        rest = λ f l m. rest f (omega (arith, room_most (head_of c k))) (omega arith);
        references = λ f l. refs f (omega arith);
      }

  -- and what a whole object says
  pub zero_rest : ObjectWhole p c t k → ZeroFrom c k (r + d)
  zero_rest w f l m = w.rest f (omega (arith, room_most (head_of c k))) (omega arith)

pub field-is-ref : {p : Sizes} {c t : List ℕ} {k f r y : ℕ} → ObjectWhole p c t k → r ≡ refs_of c k → y ≡ field_of c k f → f < r → IsRef p c t y
field-is-ref {p} {c} {t} w e q l = subst (IsRef p c t) (sym q) (w.references _ (omega arith))

-- a reference that is not null: the cell that it names, its page and place, and the cells in use there, as the code read them
module _ (p : Sizes) (c t : List ℕ) (x : ℕ) {cell page : ℕ} (e : cell ≡ x - 1) (f : page ≡ page_of cell) where
  pub ref-page : 0 < x → IsRef p c t x → page < p.pages
  ref-page k r = omega (arith, begins-page p c t (cell_named x) (r k))

  module _ {place used : ℕ} (g : place ≡ place_of cell) (h : used ≡ used_of p t page) where
    same : used_of p t (page_of (x - 1)) ≡ used
    same = ap (used_of p t) (let q : page_of (x - 1) ≡ page = omega arith in q) ∙ sym h

    pub used-ref : page < p.pages → place < used → IsRef p c t x
    used-ref l m k = used-begins p c t (cell_named x) (record { page = omega arith; place = omega (arith, same) })

    pub ref-place : 0 < x → IsRef p c t x → place < used
    ref-place k r = omega (arith, same, (begins-used p c t (cell_named x) (r k)).place)

-- a cell that the code has reached: its number and the cells in use on its page, as it read them
pub reached : {p : Sizes} {c t : List ℕ} {page place cell used : ℕ} → CellsWhole p c t → cell ≡ cell_on page place → used ≡ used_of p t page
    → page < p.pages → used ≤ page_cells → place < used → CellWhole p c t cell
reached {p} {c} {t} {page} {place} {cell} {used} w e f l h m =
    subst (λ (k : ℕ). CellWhole p c t k) (sym e) (w (cell_on page place) (begins-there p c t page place l (omega arith) (omega arith)))

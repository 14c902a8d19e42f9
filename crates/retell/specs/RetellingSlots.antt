-- The crossing slots come into the remember table: of one cell, field by field, then of a page, cell by cell.
use Rattle.std.specs.Prelude.{◌≡◌, ◌≢◌, List, ℕ, ◌+◌, ◌≤◌, ◌<◌, length}
use Rattle.std.proofs.Common.{sym, ap, ap₂, subst, subst₂, ◌∙◌, arith}
use Rattle.rules.specs.declared.Sizes.{Sizes}
use Rattle.layout.specs.Places.{owner_of, entries_words, cells_words}
use Rattle.layout.specs.Cells.{head_at, field_at, field_of, head_of, refs_of, most_fields, room_most, field_end, page_cells, page_of, cell_on}
use Rattle.layout.specs.Objects.{Begins}
use Rattle.remember.specs.Crossing.{crosses_from, cross_to}
use Rattle.remember.proofs.Crosses.{no-cross, field-cross}
use Rattle.remember.specs.Entries.{entered}
use Rattle.remember.specs.Appending.{AtMost}
use Rattle.retell.specs.SlotStretches.{NoSlot, gap-before, gap-after, gap-past, Readable, readable-part, PageReadable, used-most}
use Rattle.retell.specs.Retelling.{Retold, Retelling, told-start, told-one, told_none, told-fits, told-on, telling-rest}

-- the crossing slots from a to before b stand from entry j up to entry i, by rising position
abbrev pub SlotsTold : (p : Sizes) (a b : ℕ) (W M T : List ℕ) (j : ℕ) (M' : List ℕ) (i : ℕ) → Type 0
SlotsTold p a b W M T j M' i = Retold (cross_to p W T) p.entries a b M j M' i

-- they can come there
pub record SlotsTelling (p : Sizes) (a b : ℕ) (W M T : List ℕ) (j : ℕ) : Type 0 where
  pub readable : Readable p a b W T
  pub telling : Retelling (cross_to p W T) p.entries a b M j

-- all of them, from the first entry on, where there is room for as many as cross
abbrev pub IsCrossing : Sizes → List ℕ → List ℕ → ℕ → Type 0
IsCrossing p W T x = 0 < cross_to p W T x

pub telling-all : {p : Sizes} {W M T : List ℕ} → Readable p 0 (cells_words p) W T → entries_words p.entries ≤ length M → AtMost (IsCrossing p W T) p.entries
    → SlotsTelling p 0 (cells_words p) W M T 0
telling-all r long most =
    record {
      readable = r;
      telling = record { long = long; low = omega arith; space = record { few = λ k at all once. omega (arith, most.few k at (λ i l. (all i l).entry.region) once) } };
    }

module _ {p : Sizes} {a d : ℕ} {W M T : List ℕ} {j : ℕ} (t : SlotsTelling p a d W M T j) where
  -- over positions that are no slots
  slots-gap : {b c : ℕ} {M' : List ℕ} {i : ℕ} → SlotsTold p a b W M T j M' i → a ≤ b → b ≤ c → NoSlot p b c W T → SlotsTold p a c W M T j M' i
  slots-gap {b} {c} {M'} {i} h l m none =
      told-on h l m (told_none (cross_to p W T) p.entries b c M' i h.added.low (λ x u v. no-cross p W T x (λ o. none x (record { slot = o; from = u; below = v }))))

  -- the next can come
  pub slots-rest : {b c : ℕ} {M' : List ℕ} {i : ℕ} → SlotsTold p a b W M T j M' i → a ≤ b → b ≤ c → c ≤ d → SlotsTelling p b c W M' T i
  slots-rest h l m o = record { readable = readable-part t.readable l o; telling = telling-rest h t.telling l m o }

-- ---- the fields of one cell

module _ (k : ℕ) {p : Sizes} {W M T : List ℕ} {j : ℕ} (t : SlotsTelling p (head_at k) (head_at (k + 1)) W M T j) where
  pub fields-start : SlotsTold p (head_at k) (field_at k 0) W M T j M j
  fields-start = slots-gap t (told-start (cross_to p W T) p.entries (head_at k) M j t.telling.low) (omega arith) (omega arith) (gap-before p W T k)

  module _ {f i : ℕ} {M' : List ℕ} (h : SlotsTold p (head_at k) (field_at k f) W M T j M' i) where
    pub fields-end : refs_of W k ≤ f → f ≤ most_fields → SlotsTold p (head_at k) (head_at (k + 1)) W M T j M' i
    fields-end l m = slots-gap t h (omega arith) (field_end k f m) (gap-after p W T k f l)

    -- x is the field, w the region of its cell, g the region into which it crosses, else 0, as the code has them
    module _ (b : Begins p W T k) (lt : f < refs_of W k) (x w g : ℕ) (ex : x ≡ field_of W k f) (ew : w ≡ owner_of p T (page_of k)) (eg : g ≡ crosses_from p T w x) where
      low : f < most_fields
      low = omega (arith, t.readable.few k b)

      crosses : g ≡ cross_to p W T (field_at k f)
      crosses = eg ∙ ap₂ (crosses_from p T) ew ex ∙ sym (field-cross p W T k f b (omega (arith, low, room_most (head_of W k))) lt)

      inside : field_at k f < head_at (k + 1)
      inside = omega (arith, field_end k (f + 1) (omega (arith, low)))

      here : Retelling (cross_to p W T) p.entries (field_at k f) (head_at (k + 1)) M' i
      here = telling-rest h t.telling (omega arith) (omega (arith, inside)) (omega arith)

      pub entry-fits : g ≢ 0 → i < p.entries
      entry-fits ne = told-fits here inside g crosses (omega arith)

      pub entry-told : (at : ℕ) → at ≡ field_at k f → g ≢ 0 → SlotsTold p (head_at k) (field_at k (f + 1)) W M T j (entered p.entries M' i at g) (i + 1)
      entry-told at e ne =
          subst (λ (y : ℕ). SlotsTold p (head_at k) (field_at k (f + 1)) W M T j (entered p.entries M' i y g) (i + 1)) (sym e)
          (told-on h (omega arith) (omega arith) (told-one here (omega arith) (entry-fits ne) g crosses (omega arith)))

      pub entry-none : g ≡ 0 → SlotsTold p (head_at k) (field_at k (f + 1)) W M T j M' i
      entry-none z =
          told-on h (omega arith) (omega arith)
          (told_none (cross_to p W T) p.entries (field_at k f) (field_at k (f + 1)) M' i h.added.low
          (λ y u v. let e : y ≡ field_at k f = omega arith in ap (cross_to p W T) e ∙ sym crosses ∙ z))

-- ---- the cells in use of a page before a place; k is the cell there as the code has it

module _ {p : Sizes} {page used place j i : ℕ} {W M T M' : List ℕ} (r : PageReadable p page used W T)
    (t : SlotsTelling p (head_at (cell_on page 0)) (head_at (cell_on (page + 1) 0)) W M T j)
    (h : SlotsTold p (head_at (cell_on page 0)) (head_at (cell_on page place)) W M T j M' i) where
  module _ (k : ℕ) (l : place < used) (e : k ≡ cell_on page place) where
    pub place-telling : SlotsTelling p (head_at k) (head_at (k + 1)) W M' T i
    place-telling =
        subst (λ (y : ℕ). SlotsTelling p y (head_at (k + 1)) W M' T i) (ap head_at (sym e)) (slots-rest t h (omega arith) (omega arith) (omega (arith, used-most r)))

    pub place-told : {M'' : List ℕ} {i' : ℕ} → SlotsTold p (head_at k) (head_at (k + 1)) W M' T i M'' i'
        → SlotsTold p (head_at (cell_on page 0)) (head_at (cell_on page (place + 1))) W M T j M'' i'
    place-told {M''} {i'} z =
        let a : head_at k ≡ head_at (cell_on page place) = ap head_at e in
        let b : head_at (k + 1) ≡ head_at (cell_on page (place + 1)) = omega arith in
        told-on h (omega arith) (omega arith) (subst₂ (λ (x y : ℕ). SlotsTold p x y W M' T i M'' i') a b z)

  pub page-told : used ≤ place → place ≤ page_cells → SlotsTold p (head_at (cell_on page 0)) (head_at (cell_on (page + 1) 0)) W M T j M' i
  page-told l m = slots-gap t h (omega arith) (omega arith) (gap-past p W T page place (omega (arith, r.cells)) m)

-- The slots of a stretch of positions, the stretches that have none, and when slots can be gone over.
use Rattle.std.specs.Prelude.{◌≡◌, ◌≢◌, List, ℕ, ◌+◌, ◌≤◌, ◌<◌, length, get_or}
use Rattle.std.proofs.Common.{sym, subst, arith}
use Rattle.rules.specs.declared.Sizes.{Sizes}
use Rattle.layout.specs.Places.{Room, cells_words, used_of}
use Rattle.layout.specs.Cells.{head_at, field_at, field_of, head_of, refs_of, cell_named, most_fields, room_for, room_most, room-is, page_cells, cell_on, CellIn, cell_in}
use Rattle.layout.specs.Objects.{Begins, begins-page, begins-there, Slot, field-slot, none_before, none_after, none-past}
use Rattle.layout.specs.Words.{Names}

-- a slot from position a on, before b
pub record SlotFrom (p : Sizes) (a b : ℕ) (W T : List ℕ) (x : ℕ) : Type 0 where
  pub slot : Slot p W T x
  pub from : a ≤ x
  pub below : x < b

-- there is none
abbrev pub NoSlot : (p : Sizes) (a b : ℕ) (W T : List ℕ) → Type 0
NoSlot p a b W T = (x : ℕ) → SlotFrom p a b W T x → ⊥

-- ---- the gaps of a pass: the words before the fields of a cell, those after its references, the cells of a page that are not in use

module _ (p : Sizes) (W T : List ℕ) where
  pub gap-before : (k : ℕ) → NoSlot p (head_at k) (field_at k 0) W T
  gap-before k x s = none_before p W T x k s.from s.below s.slot

  pub gap-after : (k f : ℕ) → refs_of W k ≤ f → NoSlot p (field_at k f) (head_at (k + 1)) W T
  gap-after k f l x s = none_after p W T x k f l s.from s.below s.slot

  pub gap-past : (page place : ℕ) → used_of p T page ≤ place → place ≤ page_cells → NoSlot p (head_at (cell_on page place)) (head_at (cell_on (page + 1) 0)) W T
  gap-past page place l m x s = none-past p W T x page place l m s.from s.below s.slot

-- ---- slots that can be gone over

-- no page uses more than its cells, an object's references lie in its cell, and the slots from a to before b are null or name a cell
pub record Readable (p : Sizes) (a b : ℕ) (W T : List ℕ) : Type 0 where
  pub cells-long : cells_words p ≤ length W
  pub tables-long : Room p (length T)
  pub used : (page : ℕ) → page < p.pages → used_of p T page ≤ page_cells
  pub few : (k : ℕ) → Begins p W T k → refs_of W k ≤ most_fields
  pub names : (x : ℕ) → SlotFrom p a b W T x → Names p (get_or W x 0)

-- all of them, by objects and fields
pub readable : {p : Sizes} {W T : List ℕ} → cells_words p ≤ length W → Room p (length T) → ((page : ℕ) → page < p.pages → used_of p T page ≤ page_cells)
    → ((k : ℕ) → Begins p W T k → refs_of W k ≤ most_fields) → ((k f : ℕ) → Begins p W T k → f < refs_of W k → Names p (field_of W k f))
    → Readable p 0 (cells_words p) W T
readable {p} {W} long room used few names =
    record {
      cells-long = long;
      tables-long = room;
      used = used;
      few = few;
      names = λ x s. let o = s.slot in subst (λ (y : ℕ). Names p (get_or W y 0)) o.at (names o.object o.field o.begins o.low);
    }

-- some of those
pub readable-part : {p : Sizes} {a b c d : ℕ} {W T : List ℕ} → Readable p a d W T → a ≤ b → c ≤ d → Readable p b c W T
readable-part r l m =
    record {
      cells-long = r.cells-long;
      tables-long = r.tables-long;
      used = r.used;
      few = r.few;
      names = λ x s. r.names x (record { slot = s.slot; from = omega (arith, s.from); below = omega (arith, s.below) });
    }

-- the reference fields of a cell can
pub record CellReadable (k : ℕ) (W : List ℕ) : Type 0 where
  pub inside : CellIn k (length W)
  pub few : refs_of W k ≤ most_fields
  pub names : (f : ℕ) → f < refs_of W k → field_of W k f ≢ 0 → CellIn (cell_named (field_of W k f)) (length W)

-- each is the slot at its position
module _ {p : Sizes} {W T : List ℕ} (k f : ℕ) (b : Begins p W T k) (few : refs_of W k ≤ most_fields) (l : f < refs_of W k) where
  pub own-slot : SlotFrom p (head_at k) (head_at (k + 1)) W T (field_at k f)
  own-slot =
      let room : f < room_for (head_of W k) = omega (arith, room_most (head_of W k)) in
      record { slot = field-slot p W T k f b room l; from = omega arith; below = omega (arith, room-is (head_of W k)) }

  pub own-names : Readable p (head_at k) (head_at (k + 1)) W T → Names p (field_of W k f)
  own-names r = r.names (field_at k f) own-slot

pub cell-readable : {p : Sizes} {W T : List ℕ} (k : ℕ) → Begins p W T k → Readable p (head_at k) (head_at (k + 1)) W T → CellReadable k W
cell-readable {p} {W} {T} k b r =
    record {
      inside = cell_in p r.tables-long.few r.cells-long (begins-page p W T k b);
      few = r.few k b;
      names = λ f l ne. cell_in p r.tables-long.few r.cells-long (own-names k f b (r.few k b) l r ne);
    }

-- those of a page can, `used` cells of which are in use
pub record PageReadable (p : Sizes) (page used : ℕ) (W T : List ℕ) : Type 0 where
  pub readable : Readable p (head_at (cell_on page 0)) (head_at (cell_on (page + 1) 0)) W T
  pub low : page < p.pages
  pub cells : used ≡ used_of p T page

module _ {p : Sizes} {page used : ℕ} {W T : List ℕ} (r : PageReadable p page used W T) where
  pub used-most : used ≤ page_cells
  used-most = omega (arith, r.readable.used page r.low, r.cells)

  -- an object begins at each of these; k is the cell as the code has it
  pub begins-here : (k place : ℕ) → place < used → k ≡ cell_on page place → Begins p W T k
  begins-here k place l e =
      subst (Begins p W T) (sym e) (begins-there p W T page place r.low (omega (arith, used-most)) (omega (arith, r.cells)))

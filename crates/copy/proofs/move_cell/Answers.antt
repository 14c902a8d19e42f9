-- The cell is taken and copied; the bit of the old cell is set in the lower half and not in the upper, so it can be moved there.
use Rattle.std.proofs.Common.{arith, get_or, set, ℕ, ◌+◌, ◌-◌, ◌^◌, List, ◌≡◌, ap, ap₂, ◌∙◌}
use Rattle.lists.specs.Bits.{bit_at}
use Rattle.rules.specs.declared.Sizes.{Sizes}
use Rattle.layout.specs.Places.{mark_at, mark_of, used_of, made_of}
use Rattle.layout.specs.Cells.{cell_on, place_of, page_cells, cell_in}
use Rattle.layout.specs.Objects.{begins-page}
use Rattle.promises.proofs.OwnedPages.{count_fits}
use Rattle.promises.specs.TakeCell.{Took}
use Rattle.pages.specs.Pages.{taken}
use Rattle.pages.proofs.Took.{taken-took}
use Rattle.copy.specs.Marks.{marks_at, raised, clear-fresh}
use Rattle.copy.specs.Moves.{Movable, movable-taken}
use Rattle.copy.proofs.move_cell.Goals as goal

-- the cell as take_cell gave it
took : {p : Sizes} {g q : ℕ} {W T T' : List ℕ} {c d : ℕ} → Movable p g q W T c → d ≡ cell_on q (used_of p T q) → T' ≡ taken p T q g → Took p T g d (made_of p T) T'
took m e f = taken-took m.regular m.next.low (omega (arith, m.room, m.low)) (m.real, m.low) m.next.found e f

pub take_cell-new-requires-clause-le_region : goal.take_cell-new-requires-clause-le_region
take_cell-new-requires-clause-le_region c =
    let m = c.requires in
    (m.real, m.low, count_fits m.regular _ m.real m.low m.room.few)

pub copy_cell-requires-clause-nonzero : goal.copy_cell-requires-clause-nonzero
copy_cell-requires-clause-nonzero c =
    (movable-taken c.requires (took c.requires c.take_cell-new.ensures.0 c.take_cell-new.ensures.1)).apart

pub copy_cell-requires-clause-cell_in : goal.copy_cell-requires-clause-cell_in
copy_cell-requires-clause-cell_in c =
    let t = movable-taken c.requires (took c.requires c.take_cell-new.ensures.0 c.take_cell-new.ensures.1) in
    cell_in c.args.p t.few t.long t.old

pub mark-requires-clause-page_lt_pages : goal.mark-requires-clause-page_lt_pages
mark-requires-clause-page_lt_pages c = omega (arith, c.page_of-home.ensures, begins-page _ _ _ _ c.requires.used)

pub without_bit-others-requires : goal.without_bit-others-requires
without_bit-others-requires c =
    let a = c.args in
    let X : List ℕ = c.take_cell-new.new.tables in
    let t = movable-taken c.requires (took c.requires c.take_cell-new.ensures.0 c.take_cell-new.ensures.1) in
    let e : c.mark.result ≡ get_or X (marks_at a.p a.cell) 0 = c.mark.ensures ∙ ap (λ (q : ℕ). mark_of a.p X q) c.page_of-home.ensures in
    (omega (arith, c.place_of-place.ensures), ap₂ (λ (x y : ℕ). bit_at x y) e c.place_of-place.ensures ∙ t.on)

pub with_bit-marks-requires : goal.with_bit-marks-requires
with_bit-marks-requires c =
    let a = c.args in
    let X : List ℕ = c.take_cell-new.new.tables in
    let t = movable-taken c.requires (took c.requires c.take_cell-new.ensures.0 c.take_cell-new.ensures.1) in
    let e : c.mark.result ≡ get_or X (marks_at a.p a.cell) 0 = c.mark.ensures ∙ ap (λ (q : ℕ). mark_of a.p X q) c.page_of-home.ensures in
    let f = c.without_bit-others.ensures ∙ ap₂ (λ (x y : ℕ). x - 2 ^ y) e c.place_of-place.ensures in
    (omega (arith, c.place_of-place.ensures), ap₂ (λ (x y : ℕ). bit_at x (page_cells + y)) f c.place_of-place.ensures ∙ clear-fresh (get_or X (marks_at a.p a.cell) 0) (place_of a.cell) t.on t.fresh)

pub set_mark-requires-clause-page_lt_pages : goal.set_mark-requires-clause-page_lt_pages
set_mark-requires-clause-page_lt_pages c = omega (arith, c.page_of-home.ensures, begins-page _ _ _ _ c.requires.used)

pub returns : goal.returns
returns c =
    let a = c.args in
    let X : List ℕ = c.take_cell-new.new.tables in
    let w : ℕ = marks_at a.p a.cell in
    let e : c.mark.result ≡ get_or X w 0 = c.mark.ensures ∙ ap (λ (q : ℕ). mark_of a.p X q) c.page_of-home.ensures in
    let f = c.without_bit-others.ensures ∙ ap₂ (λ (x y : ℕ). x - 2 ^ y) e c.place_of-place.ensures in
    let g : c.with_bit-marks.result ≡ raised (get_or X w 0) (place_of a.cell) = c.with_bit-marks.ensures ∙ ap₂ (λ (x y : ℕ). x + 2 ^ (page_cells + y)) f c.place_of-place.ensures in
    record {
      can = c.requires;
      new = c.take_cell-new.result;
      mid = X;
      cell = c.take_cell-new.ensures.0;
      took = took c.requires c.take_cell-new.ensures.0 c.take_cell-new.ensures.1;
      copied = c.copy_cell.ensures;
      tables = c.set_mark.ensures ∙ ap₂ (λ (q x : ℕ). set X (mark_at a.p q) x) c.page_of-home.ensures g;
    }

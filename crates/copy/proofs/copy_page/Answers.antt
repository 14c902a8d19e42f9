use Rattle.std.proofs.Common.{arith, ℕ, ◌%◌, ◌^◌, List, refl, sym, ap, ◌∙◌, subst, subst₂}
use lib.Count.{count_trailing_zeros}
use Rattle.lists.specs.SetBits.{walk_start, walk-lowest, walk_turn, walk_end}
use Rattle.pages.specs.Noted.{Noted, noted-kept}
use Rattle.copy.specs.Moves.{step-none-freed}
use Rattle.copy.specs.Copying.{PageMoves, page-begin, page-seeking, page-movable, page_moved, page-left, page-pass}
use Rattle.copy.proofs.copy_page.Goals as goal
use Rattle.copy.proofs.copy_page.Goals.{then-work-region, else-work-region}

pub loop-init : goal.loop-init
loop-init c =
    let a = c.args in
    let e = c.lower_half-waiting.ensures ∙ ap (λ (x : ℕ). x % 2 ^ 16) c.mark.ensures in (
      walk_start c.lower_half-waiting.result (omega (arith, e)),
      subst (λ (x : ℕ). PageMoves a.p a.region a.page x a.at a.cells.now a.tables.now a.cells.now a.tables.now) (sym e) (page-begin a.page c.requires.points),
      c.requires.noted,
    )

pub cell_on-cell-requires : goal.cell_on-cell-requires
cell_on-cell-requires c = (omega (arith, c.requires.passing.ready.room.few, c.requires.page_lt_pages), (walk-lowest c.loop.invariant.0 c.loop-test.true).lt)

pub work-requires : goal.work-requires
work-requires c =
    let f = walk-lowest c.loop.invariant.0 c.loop-test.true in
    let r = c.requires.passing.ready in
    (omega (arith, f, c.cell_on-cell.ensures, r.room.few, c.requires.page_lt_pages), omega (arith, f, c.cell_on-cell.ensures, r.cells-long, c.requires.page_lt_pages))

pub next_page-next-requires-clause-seeking : goal.next_page-next-requires-clause-seeking
next_page-next-requires-clause-seeking c =
    let l = c.loop in
    page-seeking c.requires.passing c.requires.page_lt_pages (count_trailing_zeros 32 l.left) c.cell_on-cell.result c.cell_on-cell.ensures (walk-lowest l.invariant.0 c.loop-test.true) refl l.invariant.1 (sym c.work.ensures ∙ c.if-work-region.true)

pub move_cell-requires : goal.move_cell-requires
move_cell-requires c =
    let l = c.loop in
    page-movable c.requires.passing c.requires.page_lt_pages (count_trailing_zeros 32 l.left) c.cell_on-cell.result c.cell_on-cell.ensures (walk-lowest l.invariant.0 c.loop-test.true) refl l.invariant.1 (sym c.work.ensures ∙ c.if-work-region.true) c.next_page-next.ensures.next

pub without_bit-left-requires : goal.without_bit-left-requires
without_bit-left-requires c = let f = walk-lowest c.loop.invariant.0 c.loop-test.true in (f.lt, f.on)

pub loop-preserved : goal.loop-preserved
loop-preserved c =
    let a = c.args in
    let l = c.loop in
    let i : ℕ = count_trailing_zeros 32 l.left in
    let f = walk-lowest l.invariant.0 c.loop-test.true in
    let e = c.cell_on-cell.ensures in
    let left = c.without_bit-left in
    let x = c.cell_on-cell.result in
    let P : ℕ → List ℕ → List ℕ → Type 0 = (λ n X Y. PageMoves a.p a.region a.page left.result n a.cells.now a.tables.now X Y) in
    let Q : ℕ → ℕ → List ℕ → List ℕ → Type 0 = (λ y n X Y. PageMoves a.p a.region a.page y n a.cells.now a.tables.now X Y) in
    let h : P c.if-work-region.next c.if-work-region.cells c.if-work-region.tables × Noted a.p c.if-work-region.tables c.if-work-region.notes =
    elim c.if-work-region.branch [
      | then-work-region w ↦ (
        subst (λ (n : ℕ). P n c.if-work-region.cells c.if-work-region.tables) (sym w.next-is)
            (subst₂ (P w.next_page-next.result) (sym w.cells-is) (sym w.tables-is)
            (subst (λ (y : ℕ). Q y w.next_page-next.result w.move_cell.new.cells w.move_cell.new.tables) (sym left.ensures) (page_moved c.requires.passing c.requires.page_lt_pages i x e f refl l.invariant.1 w.move_cell.ensures))),
        subst₂ (Noted a.p) (sym w.tables-is) (sym w.notes-is) (noted-kept (step-none-freed w.move_cell.ensures) w.next_page-next.ensures.noted_2),
      )
      | else-work-region w ↦ (
        subst (λ (n : ℕ). P n c.if-work-region.cells c.if-work-region.tables) (sym w.next-is)
            (subst₂ (P l.next) (sym w.cells-is) (sym w.tables-is)
            (subst (λ (y : ℕ). Q y l.next l.cells l.tables) (sym left.ensures) (page-left c.requires.passing c.requires.page_lt_pages i x e f refl l.invariant.1 (λ z. w.if-work-region.false (c.work.ensures ∙ z))))),
        subst₂ (Noted a.p) (sym w.tables-is) (sym w.notes-is) l.invariant.2,
      )
    ] in
    (walk_turn i left.result l.invariant.0 f left.ensures, h.0, h.1)

pub returns-clause-page_pass : goal.returns-clause-page_pass
returns-clause-page_pass c =
    page-pass (walk_end c.loop.invariant.0 c.loop-test.false) c.loop.invariant.1

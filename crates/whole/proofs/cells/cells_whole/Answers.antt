use Rattle.std.proofs.Common.{◌≡◌, ℕ, ◌+◌, sym, ap, ◌∙◌, subst, not-suc-le-zero, arith, below_more}
use Rattle.lists.specs.Says.{says-no, said-no}
use Rattle.layout.specs.declared.Kind.TheVariants.{Reference, Number}
use Rattle.layout.specs.Places.{cells_words}
use Rattle.layout.specs.Cells.{head_at, field_at, cell_on, field_count, count_low, most-is}
use Rattle.remember.specs.Crossing.{cross_to}
use Rattle.layout.specs.Objects.{begins-page}
use Rattle.promises.specs.Whole.{IsRef}
use Rattle.whole.specs.Cells.{CellWhole, all-pages, reached, object-whole, zero_rest, field-is-ref}
use Rattle.whole.specs.Crossing.{crossing_to, to_fields, to-next-cell, to-next-page, crosses-at, crosses-yes, crosses-no, too_many, says-cross}
use Rattle.whole.proofs.cells.cells_whole.Goals as goal
use Rattle.whole.proofs.cells.cells_whole.Goals.{then-cross-gt0+else-entries-n, else-cross-gt0, then-all-gt-FIELDS-via-then-all-gt-FIELDS, then-all-gt-FIELDS-via-else-all-gt-FIELDS+then-work-ne0}

pub overflow_add-all : goal.overflow_add-all
overflow_add-all c = omega (arith, c.field_count-refs.ensures, count_low Reference c.head-head.result, c.field_count.ensures, count_low Number c.head-head.result)

pub loop-f-init : goal.loop-f-init
loop-f-init c =
    let cells = c.loop-place in
    let cell-on = c.cell_on-cell in
    let args = c.args in (
      omega (arith, c.requires.room.few, c.requires.p_in_bounds, cell-on.ensures),
      omega (arith, c.if-all-gt-FIELDS.false, most-is),
      λ j l. absurd (not-suc-le-zero l),
      cells.invariant.2,
      cells.invariant.3 ∙ ap (λ (k : ℕ). crossing_to args.p args.cells.now args.tables.now (head_at k)) (sym cell-on.ensures) ∙ sym (to_fields args.p args.cells.now args.tables.now cell-on.result),
    )

pub cross-requires-clause-names : goal.cross-requires-clause-names
cross-requires-clause-names c = λ n. begins-page _ _ _ _ (c.is_ref.ensures.0 c.if-not-is_ref.false (omega arith))

pub loop-f-preserved : goal.loop-f-preserved
loop-f-preserved c =
    let cross = c.cross in
    let args = c.args in
    let cell-on = c.cell_on-cell in
    let fields = c.loop-f in
    let cells = c.loop-place in
    let owner = c.owner-owner in
    let field = c.field-x in
    let here : cross.result ≡ cross_to args.p args.cells.now args.tables.now (field_at cell-on.result fields.f)
    = crosses-at args.p args.cells.now args.tables.now c.loop-page.page cells.place
    cell-on.result fields.f owner.result field.result cross.result
    cell-on.ensures owner.ensures field.ensures cross.ensures c.used-used.ensures (c.field_count-refs.ensures ∙ ap (field_count Reference) c.head-head.ensures) c.loop-page-test.true cells.invariant.0 fields.invariant.1 c.loop-place-test.true c.loop-f-test.true in (
      fields.invariant.0,
      fields.invariant.1,
      below_more _ _ fields.invariant.2 (subst (IsRef args.p args.cells.now args.tables.now) field.ensures (c.is_ref.ensures.0 c.if-not-is_ref.false)),
      elim c.if-cross-gt0.branch [ then-cross-gt0+else-entries-n w ↦ omega arith | else-cross-gt0 w ↦ omega (arith, fields.invariant.3) ],
      elim c.if-cross-gt0.branch [
        | then-cross-gt0+else-entries-n w ↦ w.n-is ∙ ap (λ (k : ℕ). k + 1) fields.invariant.4 ∙ sym (crosses-yes args.p args.cells.now args.tables.now cell-on.result fields.f here (omega (arith, w.if-cross-gt0.true)))
        | else-cross-gt0 w ↦ w.n-is ∙ fields.invariant.4 ∙ sym (crosses-no args.p args.cells.now args.tables.now cell-on.result fields.f here (omega (arith, w.if-cross-gt0.false)))
      ],
    )

pub loop-place-preserved : goal.loop-place-preserved
loop-place-preserved c =
    let cell-on = c.cell_on-cell in
    let cells = c.loop-place in
    let fields = c.loop-f in
    let args = c.args in
    let field-count = c.field_count-refs in
    let head = c.head-head in
    let field-count2 = c.field_count in
    let e : cell-on.result + 1 ≡ cell_on c.loop-page.page (cells.place + 1) = omega (arith, cell-on.ensures) in (
      cells.invariant.0,
      below_more _ _ cells.invariant.1 (subst (λ (k : ℕ). CellWhole args.p args.cells.now args.tables.now k) cell-on.ensures (record {
        working = sym c.work.ensures ∙ c.if-work-ne0.false;
        object = object-whole (field-count.ensures ∙ ap (field_count Reference) head.ensures) (field-count2.ensures ∙ ap (field_count Number) head.ensures) (omega (arith, c.if-all-gt-FIELDS.false, most-is)) (λ f l. fields.invariant.2 f (omega arith)) (c.zero_from.ensures.0 c.if-not-zero_from.false);
      })),
      fields.invariant.3,
      fields.invariant.4 ∙ sym (to-next-cell args.p args.cells.now args.tables.now cell-on.result fields.f (omega (arith, (field-count.ensures ∙ ap (field_count Reference) head.ensures))) (omega (arith, fields.invariant.1)))
          ∙ ap (λ (k : ℕ). crossing_to args.p args.cells.now args.tables.now (head_at k)) e,
    )

pub loop-page-preserved : goal.loop-page-preserved
loop-page-preserved c =
    let cells = c.loop-place in
    let pages = c.loop-page in
    let used = c.used-used in
    let args = c.args in (
      below_more _ _ pages.invariant.0 (λ k l. cells.invariant.1 k (omega (arith, used.ensures))),
      cells.invariant.2,
      cells.invariant.3 ∙ sym (to-next-page args.p args.cells.now args.tables.now pages.page cells.place (omega (arith, used.ensures)) (omega (arith, cells.invariant.0))),
    )

pub returns-then-all-gt-FIELDS : goal.returns-then-all-gt-FIELDS
returns-then-all-gt-FIELDS c =
    let refs = c.field_count-refs.ensures ∙ ap (field_count Reference) c.head-head.ensures in
    let numbers = c.field_count.ensures ∙ ap (field_count Number) c.head-head.ensures in
    says-no (λ h.
    let whole = reached h.whole c.cell_on-cell.ensures c.used-used.ensures c.loop-page-test.true c.loop-place.invariant.0 c.loop-place-test.true in
    elim c.then-all-gt-FIELDS.branch [
      | then-all-gt-FIELDS-via-then-all-gt-FIELDS w ↦ omega (arith, refs, numbers, w.if-all-gt-FIELDS.true, most-is, whole.object.head)
      | then-all-gt-FIELDS-via-else-all-gt-FIELDS+then-work-ne0 w ↦ w.if-work-ne0.true (w.work.ensures ∙ whole.working)
    ])

pub returns-then-not-is_ref : goal.returns-then-not-is_ref
returns-then-not-is_ref c =
    let refs = c.field_count-refs.ensures ∙ ap (field_count Reference) c.head-head.ensures in
    says-no (λ h.
    let whole = reached h.whole c.cell_on-cell.ensures c.used-used.ensures c.loop-page-test.true c.loop-place.invariant.0 c.loop-place-test.true in
    said-no _ c.is_ref.ensures c.if-not-is_ref.true (field-is-ref whole.object refs c.field-x.ensures c.loop-f-test.true))

pub returns-then-entries-n : goal.returns-then-entries-n
returns-then-entries-n c =
    let args = c.args in
    let fields = c.loop-f in
    let refs = c.field_count-refs.ensures ∙ ap (field_count Reference) c.head-head.ensures in
    says-no (λ h. too_many args.p args.cells.now args.tables.now c.cell_on-cell.result fields.f fields.invariant.4
    (crosses-at args.p args.cells.now args.tables.now c.loop-page.page c.loop-place.place c.cell_on-cell.result fields.f c.owner-owner.result c.field-x.result c.cross.result
    c.cell_on-cell.ensures c.owner-owner.ensures c.field-x.ensures c.cross.ensures c.used-used.ensures refs c.loop-page-test.true c.loop-place.invariant.0 fields.invariant.1 c.loop-place-test.true c.loop-f-test.true)
    c.if-cross-gt0.true c.if-entries-n.true (omega (arith, c.cell_on-cell.ensures, c.loop-page-test.true, c.loop-place.invariant.0, c.loop-place-test.true, fields.invariant.1, c.loop-f-test.true)) h)

pub returns-then-not-zero_from : goal.returns-then-not-zero_from
returns-then-not-zero_from c =
    let refs = c.field_count-refs.ensures ∙ ap (field_count Reference) c.head-head.ensures in
    let numbers = c.field_count.ensures ∙ ap (field_count Number) c.head-head.ensures in
    says-no (λ h.
    let whole = reached h.whole c.cell_on-cell.ensures c.used-used.ensures c.loop-page-test.true c.loop-place.invariant.0 c.loop-place-test.true in
    said-no _ c.zero_from.ensures c.if-not-zero_from.true (zero_rest refs numbers whole.object))

pub returns-after-loop-page : goal.returns-after-loop-page
returns-after-loop-page c =
    let pages = c.loop-page in
    let args = c.args in
    let e : head_at (cell_on pages.page 0) ≡ cells_words args.p = omega arith in
    says-cross pages.n args.entries (all-pages args.p args.cells.now args.tables.now (λ k l. pages.invariant.0 k (omega arith))) (pages.invariant.2 ∙ ap (crossing_to args.p args.cells.now args.tables.now) e)

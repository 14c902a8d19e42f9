-- The conditions, one by one: each is asked where those before it hold.
use Rattle.std.proofs.Common.{◌≡◌, Bool, true, false, [], sym, ◌∙◌, subst, ℕ}
use Rattle.lists.specs.Says.{true-not-false, said-no}
use Rattle.layout.specs.Words.{words, tables_only}
use Rattle.promises.specs.Whole.{DepthsWhole, CountersWhole, VariablesWhole, UnusedWhole}
use Rattle.whole.specs.Regions.{RegionsWhole}
use Rattle.whole.specs.Crossing.{CellsCross}
use Rattle.whole.specs.Parts.{regions-of, cells_of, whole_of}
use Rattle.whole.proofs.placed_whole.Goals as goal
use Rattle.whole.proofs.placed_whole.Goals.{then-depths_whole, else-depths_whole, then-regions_whole, else-regions_whole, then-counters_whole, else-counters_whole, then-variables_whole, else-variables_whole, then-cells_whole, else-cells_whole}

-- a test that was not asked says no
unasked : {P : Type 0} {v : Bool} → v ≡ false → v ≡ true → P
unasked f e = absurd (true-not-false (sym f ∙ e))

pub returns-then-unused_whole : goal.returns-then-unused_whole
returns-then-unused_whole c =
    let a = c.args in (
      λ e.
          let unused : (c.if-variables_whole.value ≡ true) × UnusedWhole a.p (words a.cells.now [] a.tables.now)
          = elim c.if-cells_whole.branch [ then-cells_whole w ↦ (w.if-cells_whole.true, w.unused_whole.ensures.0 (sym w.value-is ∙ c.if-unused_whole.true)) | else-cells_whole w ↦ unasked (w.value-is ∙ w.if-cells_whole.false) c.if-unused_whole.true ] in
          let cells : (c.if-counters_whole.value ≡ true) × CellsCross a.p a.cells.now a.tables.now c.used-used.result
          = elim c.if-variables_whole.branch [ then-variables_whole w ↦ (w.if-variables_whole.true, w.cells_whole.ensures.0 (sym w.value-is ∙ unused.0)) | else-variables_whole w ↦ unasked (w.value-is ∙ w.if-variables_whole.false) unused.0 ] in
          let variables : (c.if-regions_whole.value ≡ true) × VariablesWhole a.p (words a.cells.now [] a.tables.now)
          = elim c.if-counters_whole.branch [ then-counters_whole w ↦ (w.if-counters_whole.true, w.variables_whole.ensures.0 (sym w.value-is ∙ cells.0)) | else-counters_whole w ↦ unasked (w.value-is ∙ w.if-counters_whole.false) cells.0 ] in
          let counters : (c.if-depths_whole.value ≡ true) × CountersWhole a.p (tables_only a.tables.now)
          = elim c.if-regions_whole.branch [ then-regions_whole w ↦ (w.if-regions_whole.true, w.counters_whole.ensures.0 (sym w.value-is ∙ variables.0)) | else-regions_whole w ↦ unasked (w.value-is ∙ w.if-regions_whole.false) variables.0 ] in
          let regions : DepthsWhole a.p (tables_only a.tables.now) × RegionsWhole a.p a.tables.now
          = elim c.if-depths_whole.branch [ then-depths_whole w ↦ (c.depths_whole.ensures.0 w.if-depths_whole.true, w.regions_whole.ensures.0 (sym w.value-is ∙ counters.0)) | else-depths_whole w ↦ unasked (w.value-is ∙ w.if-depths_whole.false) counters.0 ] in
          whole_of {w = words a.cells.now a.remember.now a.tables.now} c.requires.sized regions.0 regions.1 counters.1 variables.1
          (subst (λ (n : ℕ). CellsCross a.p a.cells.now a.tables.now n) c.used-used.ensures cells.1) unused.1 (c.entries_whole.ensures.0 e),
      λ h. c.entries_whole.ensures.1 h.remember.entries,
    )

pub returns-else-unused_whole : goal.returns-else-unused_whole
returns-else-unused_whole c =
    let a = c.args in (
      λ e. unasked c.if-unused_whole.false e,
      λ h.
          let regions : c.if-depths_whole.value ≡ true
          = elim c.if-depths_whole.branch [ then-depths_whole w ↦ w.value-is ∙ w.regions_whole.ensures.1 (regions-of h) | else-depths_whole w ↦ absurd (said-no _ c.depths_whole.ensures w.if-depths_whole.false h.depths) ] in
          let counters : c.if-regions_whole.value ≡ true
          = elim c.if-regions_whole.branch [ then-regions_whole w ↦ w.value-is ∙ w.counters_whole.ensures.1 h.counters | else-regions_whole w ↦ unasked w.if-regions_whole.false regions ] in
          let variables : c.if-counters_whole.value ≡ true
          = elim c.if-counters_whole.branch [ then-counters_whole w ↦ w.value-is ∙ w.variables_whole.ensures.1 h.variables | else-counters_whole w ↦ unasked w.if-counters_whole.false counters ] in
          let crossing : CellsCross a.p a.cells.now a.tables.now c.used-used.result
          = subst (λ (n : ℕ). CellsCross a.p a.cells.now a.tables.now n) (sym c.used-used.ensures) (cells_of h) in
          let cells : c.if-variables_whole.value ≡ true
          = elim c.if-variables_whole.branch [ then-variables_whole w ↦ w.value-is ∙ w.cells_whole.ensures.1 crossing | else-variables_whole w ↦ unasked w.if-variables_whole.false variables ] in
          elim c.if-cells_whole.branch [ then-cells_whole w ↦ w.value-is ∙ w.unused_whole.ensures.1 h.unused | else-cells_whole w ↦ unasked w.if-cells_whole.false cells ],
    )

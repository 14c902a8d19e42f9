use Rattle.std.proofs.Common.{arith, get_or, ℕ, ◌<◌, ◌+◌, List, sym, ap, ◌∙◌, subst, subst₂}
use Rattle.rules.specs.Regions.{region_at}
use Rattle.laws.specs.RegionLaws.{region-bounds}
use Rattle.layout.specs.Cells.{page_of, first_on}
use Rattle.pages.specs.Noted.{Noted}
use Rattle.copy.specs.Passing.{Passing, Pass, order}
use Rattle.copy.specs.Copying.{Copy, copy_begin, copy-passing, copy-next, copy-skip, copy-marks}
use Rattle.copy.proofs.copy_survivors.Goals as goal
use Rattle.copy.proofs.copy_survivors.Goals.{then-come-region-ne0, else-come-region-ne0}

pub loop-level-init : goal.loop-level-init
loop-level-init c = (copy_begin c.requires.plan, c.requires.noted.0)

pub copy_pass-requires-clause-passing : goal.copy_pass-requires-clause-passing
copy_pass-requires-clause-passing c =
    let l = c.loop-level in
    subst (λ (g : ℕ). Passing c.args.p g l.cells l.tables) (sym c.region_at-region.ensures) (copy-passing c.requires.plan c.loop-level-test.true l.invariant.0)

pub copy_pass-requires-clause-by_index : goal.copy_pass-requires-clause-by_index
copy_pass-requires-clause-by_index c q lq off =
    copy-marks c.requires.plan c.loop-level.invariant.0 q lq (c.requires.by_index q lq off)

pub loop-level-preserved : goal.loop-level-preserved
loop-level-preserved c =
    let a = c.args in
    let l = c.loop-level in
    let t = c.loop-level-test.true in
    let e = c.region_at-region.ensures in
    let C : List ℕ → List ℕ → Type 0 = (λ X Y. Copy a.p a.levels (region_at a.p a.thread) (l.level + 1) a.cells.now a.tables.now X Y) in
    let P : ℕ → List ℕ → List ℕ → Type 0 = (λ x X Y. Pass a.p x (λ y. page_of y < a.p.pages) (order x 0) (order x (first_on a.p.pages)) l.cells l.tables X Y) in
    elim c.if-come-region-ne0.branch [
      | then-come-region-ne0 w ↦ (
        subst₂ C (sym w.cells-is) (sym w.tables-is) (copy-next c.requires.plan t l.invariant.0 (subst (λ (x : ℕ). P x w.copy_pass.new.cells w.copy_pass.new.tables) e w.copy_pass.ensures.pass)),
        subst₂ (Noted a.p) (sym w.tables-is) (sym w.notes-is) w.copy_pass.ensures.noted_2,
      )
      | else-come-region-ne0 w ↦ (
        subst₂ C (sym w.cells-is) (sym w.tables-is)
            (let b = region-bounds a.p a.thread l.level c.requires.thread_lt_threads.0 (omega (arith, c.requires.thread_lt_threads.1, t)) in
            copy-skip c.requires.plan t l.invariant.0 (c.requires.by_index_2 (region_at a.p a.thread l.level) b.0 b.1 (ap (λ (x : ℕ). get_or a.come.now x 0) (sym e) ∙ w.if-come-region-ne0.false))),
        subst₂ (Noted a.p) (sym w.tables-is) (sym w.notes-is) l.invariant.1,
      )
    ]

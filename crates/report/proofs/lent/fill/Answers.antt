use Rattle.std.proofs.Common.{◌≡◌, ℕ, ◌<◌, List, length, slice_set, sym, ap, ap₂, ◌∙◌, arith}
use Rattle.layout.specs.Places.{sizes_at}
use Rattle.layout.specs.Words.{depths_at}
use Rattle.report.specs.declared.Row.{Row}
use Rattle.report.specs.Opened.{turn-first, turn-next, turn-high, turn-row}
use Rattle.report.specs.Tables.{rows_in}
use Rattle.report.specs.Lent.{RegionOf, written, written_none, written_next}
use Rattle.report.proofs.lent.fill.Goals as goal
use Rattle.report.proofs.lent.fill.Goals.{In-loop-row}

-- the row at hand is one of those to write
few : (c : In-loop-row) → c.loop-row.row-index < length c.args.rows.now
few c = omega (arith, c.loop-row-test.true, c.loop-row.auto)

-- the region at hand is one of the tables'
region : (c : In-loop-row) → RegionOf c.args.tables.now c.loop-row.region
region c =
    let t = c.args.tables.now in
    let l = c.loop-row in
    (c.requires.1 (omega (arith, few c)), l.invariant.turn.low, turn-high (sizes_at t) t l.row-index l.region l.invariant.turn (omega (arith, few c, c.requires.0)))

pub loop-row-init : goal.loop-row-init
loop-row-init c =
    let t = c.args.tables.now in
    record {
      rows_so_far = sym (written_none (rows_in (sizes_at t) t) c.args.rows.now);
      turn = turn-first (sizes_at t) (depths_at (sizes_at t) t);
    }

pub row_in-requires : goal.row_in-requires
row_in-requires c = region (goal.at.row_in-requires c).In-loop-row

pub open_after-region-requires : goal.open_after-region-requires
open_after-region-requires c = region (goal.at.open_after-region-requires c).In-loop-row

pub loop-row-preserved : goal.loop-row-preserved
loop-row-preserved c =
    let t = c.args.tables.now in
    let l = c.loop-row in
    let b = (goal.at.loop-row-preserved c).In-loop-row in
    let more : l.row-index < length (rows_in (sizes_at t) t) = omega (arith, few b, c.requires.0) in
    let row = c.row_in.ensures ∙ turn-row (sizes_at t) t l.row-index l.region l.invariant.turn more in
    record {
      rows_so_far =
          ap₂ (λ (a : List Row) (x : Row). slice_set a l.row-index x) l.invariant.rows_so_far row
          ∙ written_next (rows_in (sizes_at t) t) c.args.rows.now l.row-index more (few b);
      turn = turn-next (sizes_at t) (depths_at (sizes_at t) t) l.row-index l.region c.open_after-region.result l.invariant.turn (region b).2 c.open_after-region.ensures;
    }

pub returns : goal.returns
returns c =
    let t = c.args.tables.now in
    let l = c.loop-row in
    let e : l.row-index ≡ length c.args.rows.now = omega (arith, l.auto, c.loop-row-test.false) in
    l.invariant.rows_so_far ∙ ap (λ (k : ℕ). written (rows_in (sizes_at t) t) k c.args.rows.now) e

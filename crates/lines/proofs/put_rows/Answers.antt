use Rattle.std.proofs.Common.{◌+◌, ◌*◌, ◌≤◌, ◌<◌, ◌≡◌, arith, length}
use Rattle.report.specs.Tables.{rows_in}
use Rattle.report.proofs.Stands.{rows_few}
use Rattle.lines.specs.Reporting.{rows_none, row-end, row_next, rows_all}
use Rattle.lines.proofs.put_rows.Goals as goal

pub row_count-count-requires : goal.row_count-count-requires
row_count-count-requires c = c.requires.0

pub loop-k-init : goal.loop-k-init
loop-k-init c = (omega arith, rows_none (rows_in c.args.p c.args.tables.now) _ _)

pub row_at-row-requires : goal.row_at-row-requires
row_at-row-requires c = record { whole_tables = c.requires.0; k_in_bounds = omega (arith, c.row_count-count.ensures) }

pub put_row-end-requires : goal.put_row-end-requires
put_row-end-requires c = omega (arith, c.row_count-count.ensures, rows_few _ _ c.requires.0, c.requires.1)

pub loop-k-preserved : goal.loop-k-preserved
loop-k-preserved c =
    let args = c.args in
    let pre = c.requires in
    let row_count = c.row_count-count in
    let loop = c.loop-k in
    let row_at = c.row_at-row in
    let rs = rows_in args.p args.tables.now in
    let r = row_at.result in
    let ok = row_at.type_inv in
    let fits : (r.thread < 4294967296) × (r.level < 4294967296) × (r.objects < 4294967296) × (r.pages < 4294967296) = omega (arith, ok) in
    let h : loop.k < length rs = omega (arith, row_count.ensures) in
    let room : args.at + 44 * (loop.k + 1) ≤ length args.out.now = omega (arith, row_count.ensures, rows_few _ _ pre.0, pre.1) in
    (row-end rs loop.k h row_at.ensures fits loop.invariant.0 room loop.invariant.1 c.put_row-end.ensures, row_next rs loop.k h row_at.ensures fits loop.invariant.0 room loop.invariant.1 c.put_row-end.ensures)

pub returns : goal.returns
returns c = (rows_all _ _ (let e : c.loop-k.k ≡ length (rows_in c.args.p c.args.tables.now) = omega (arith, c.row_count-count.ensures) in e) c.loop-k.invariant.1, omega (arith, c.row_count-count.ensures, rows_few _ _ c.requires.0))

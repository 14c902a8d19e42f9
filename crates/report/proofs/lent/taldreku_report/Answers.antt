-- The rows are written where no question says no.
use Rattle.std.proofs.Common.{List, ◌++◌, length, drop, ◌≤◌, sym, ap, subst, ◌∙◌, arith}
use Rattle.std.proofs.Math.Seq.{length-take-le}
use Rattle.promises.specs.Slices.{slices}
use Rattle.layout.specs.Places.{sizes_at}
use Rattle.report.specs.declared.Row.{Row}
use Rattle.report.specs.Report.{Told, refusing}
use Rattle.report.specs.Tables.{rows_in}
use Rattle.report.specs.Lent.{Asking}
use Rattle.report.proofs.LentRows.{asked-few, told-written, told-refused, written_part}
use Rattle.report.proofs.lent.taldreku_report.Goals as goal
use Rattle.report.proofs.lent.taldreku_report.Goals.{In-Ok}

-- no more rows than were lent
room : (c : In-Ok) → c.in-Ok.reported.rows ≤ length c.args.rows.now
room c =
    let a = c.args in
    (asked-few (slices a.cells.now a.remember.now a.tables.now a.chains.now) a.rows.now c.in-Ok.reported c.in-Ok.ensures).0

pub slice_bounds-fill-end : goal.slice_bounds-fill-end
slice_bounds-fill-end c = room (goal.at.slice_bounds-fill-end c).In-Ok

pub slice_bounds-fill-end-in-Ok : goal.slice_bounds-fill-end-in-Ok
slice_bounds-fill-end-in-Ok c = sym (length-take-le c.in-Ok.reported.rows c.args.rows.now (room (goal.at.slice_bounds-fill-end-in-Ok c).In-Ok))

pub fill-requires : goal.fill-requires
fill-requires c =
    let a = c.args in
    let b = asked-few (slices a.cells.now a.remember.now a.tables.now a.chains.now) a.rows.now c.in-Ok.reported c.in-Ok.ensures in
    let n = length-take-le c.in-Ok.reported.rows a.rows.now b.0 in
    (omega (arith, n, b.1), λ l. b.2 (omega (arith, n, l)))

pub returns-in-Ok : goal.returns-in-Ok
returns-in-Ok c =
    let a = c.args in
    let l = slices a.cells.now a.remember.now a.tables.now a.chains.now in
    let r = c.in-Ok.reported in
    let all = rows_in (sizes_at a.tables.now) a.tables.now in
    let e = ap (λ (k : List Row). k ++ drop r.rows a.rows.now) c.fill.ensures ∙ written_part all a.rows.now r.rows (room (goal.at.returns-in-Ok c).In-Ok) in
    subst (λ (k : List Row). Told l a.rows.now r k) (sym e) (told-written l a.rows.now r c.in-Ok.ensures)

pub returns-in-Err : goal.returns-in-Err
returns-in-Err c =
    let a = c.args in
    let l = slices a.cells.now a.remember.now a.tables.now a.chains.now in
    let e = c.refused.ensures ∙ ap refusing c.number.ensures in
    told-refused l a.rows.now c.refused.result (subst (Asking l (length a.rows.now)) (sym e) c.in-Err.ensures) e

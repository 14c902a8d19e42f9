use Rattle.std.proofs.Common.{◌≡◌, ◌+◌, refl, ap, ◌∙◌, arith}
use Rattle.lists.specs.Counting.{sum, sum_more}
use Rattle.layout.specs.Places.{depth_of}
use Rattle.report.specs.Tables.{tables-room-of}
use Rattle.report.proofs.Stands.{row-count}
use Rattle.report.proofs.row_count.Goals as goal

pub loop-thread-init : goal.loop-thread-init
loop-thread-init c = (refl, omega arith)

pub depth-requires : goal.depth-requires
depth-requires c =
    record { room = tables-room-of c.args.p c.args.tables.now c.requires (omega arith); k_lt_threads = omega arith }

pub overflow_add-n : goal.overflow_add-n
overflow_add-n c =
    let k = c.requires in
    let space = tables-room-of c.args.p c.args.tables.now k (omega arith) in
    omega (arith, c.depth.ensures, k.whole.depths c.loop-thread.thread (omega arith), c.loop-thread.invariant.1, space.depth-high, space.threads-high)

pub loop-thread-preserved : goal.loop-thread-preserved
loop-thread-preserved c =
    let k = c.requires in
    let space = tables-room-of c.args.p c.args.tables.now k (omega arith) in (
      omega (arith, c.depth.ensures, sum_more (depth_of c.args.tables.now) c.loop-thread.thread, c.loop-thread.invariant.0),
      omega (arith, c.depth.ensures, k.whole.depths c.loop-thread.thread (omega arith), c.loop-thread.invariant.1, space.depth-high),
    )

pub returns : goal.returns
returns c =
    let a = c.args in
    let e : c.loop-thread.thread ≡ a.p.threads = omega arith in
    c.loop-thread.invariant.0 ∙ ap (λ k. 1 + sum (depth_of a.tables.now) k) e ∙ row-count a.p a.tables.now c.requires

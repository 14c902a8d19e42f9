-- The control space by itself; of a thread's region, thread and level are read off its number.
use Rattle.std.proofs.Common.{◌-◌, ◌∙◌, mod-lt, mul-le-mul, div-le_self, arith}
use Rattle.report.specs.Tables.{tables-room-of, row-control, row-thread}
use Rattle.report.proofs.row_of.Goals as goal

pub count-objects-requires : goal.count-objects-requires
count-objects-requires c =
    let a = c.args in
    let space = tables-room-of a.p a.tables.now c.requires.whole_tables (omega arith) in record { room = space; le_region = c.requires.le_region }

pub returns-then-region-eq1 : goal.returns-then-region-eq1
returns-then-region-eq1 c =
    let a = c.args in c.row_with.ensures ∙ row-control a.p a.tables.now a.region c.count-objects.ensures c.if-region-eq1.true

pub thread_of-thread-requires : goal.thread_of-thread-requires
thread_of-thread-requires c =
    let a = c.args in
    let space = tables-room-of a.p a.tables.now c.requires.whole_tables (omega arith) in
    (space.depth_low, omega (arith, c.requires.le_region))

pub overflow_cast-thread : goal.overflow_cast-thread
overflow_cast-thread c =
    let a = c.args in
    let space = tables-room-of a.p a.tables.now c.requires.whole_tables (omega arith) in
    omega (arith, c.thread_of-thread.ensures, div-le_self (a.region - 2) a.p.depth, c.requires.le_region, mul-le-mul space.threads-high space.depth-high)

pub level_of-level-requires : goal.level_of-level-requires
level_of-level-requires c =
    let a = c.args in
    let space = tables-room-of a.p a.tables.now c.requires.whole_tables (omega arith) in
    (space.depth_low, space.depth-high, omega (arith, c.requires.le_region))

pub overflow_cast-level : goal.overflow_cast-level
overflow_cast-level c =
    let a = c.args in
    let space = tables-room-of a.p a.tables.now c.requires.whole_tables (omega arith) in
    omega (arith, c.level_of-level.ensures, mod-lt (a.region - 2) space.depth_low, space.depth-high)

pub returns : goal.returns
returns c =
    let a = c.args in
    c.row_with-2.ensures ∙ row-thread a.p a.tables.now a.region c.count-objects.ensures c.if-region-eq1.false c.thread_of-thread.ensures c.level_of-level.ensures

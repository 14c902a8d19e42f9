use Rattle.std.proofs.Common.{arith}
use Rattle.remember.specs.Crossing.{cross_to}
use Rattle.retell.specs.Retelling.{told-start, told-on}
use Rattle.retell.specs.RetellingSlots.{slots-rest}
use Rattle.retell.proofs.tell_pages.Goals as goal

pub loop-page-init : goal.loop-page-init
loop-page-init c =
    let a = c.args in
    told-start (cross_to a.p a.cells.now a.tables.now) a.p.entries 0 _ 0 (omega arith)

pub tell_page-i-requires-clause-slots_telling : goal.tell_page-i-requires-clause-slots_telling
tell_page-i-requires-clause-slots_telling c = slots-rest c.requires c.loop-page.invariant (omega arith) (omega arith) (omega (arith, c.loop-page-test.true))

pub loop-page-preserved : goal.loop-page-preserved
loop-page-preserved c =
    told-on c.loop-page.invariant (omega arith) (omega arith) c.tell_page-i.ensures

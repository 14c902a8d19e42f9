use Rattle.std.proofs.Common.{arith, ◌+◌, ◌-◌, ◌≡◌, ap, ◌∙◌}
use Rattle.rules.specs.Regions.{regions}
use Rattle.rules.specs.Graph.{pages_of}
use Rattle.pages.specs.Owned.{owned_below, all-owned, owned-turn}
use Rattle.pages.proofs.free_pages.Goals as goal

pub overflow_sub-free : goal.overflow_sub-free
overflow_sub-free c =
    let t = owned-turn c.args.p c.args.tables.now c.loop-g.g c.pages_for-free.result c.requires.paged c.loop-g.auto.g (omega arith) (c.pages_for-free.ensures ∙ ap pages_of c.count.ensures) in
    omega (arith, t.1)

pub loop-g-preserved : goal.loop-g-preserved
loop-g-preserved c =
    let t = owned-turn c.args.p c.args.tables.now c.loop-g.g c.pages_for-free.result c.requires.paged c.loop-g.auto.g (omega arith) (c.pages_for-free.ensures ∙ ap pages_of c.count.ensures) in
    omega (arith, t.0, t.1, ap (owned_below c.args.p c.args.tables.now) (let z : c.loop-g.g + 1 - 1 ≡ c.loop-g.g = omega arith in z))

-- after the last region
pub returns-2 : goal.returns-2
returns-2 c =
    let t = owned-turn c.args.p c.args.tables.now c.loop-g.g c.pages_for-free.result c.requires.paged c.loop-g.auto.g (omega arith) (c.pages_for-free.ensures ∙ ap pages_of c.count.ensures) in
    omega (arith, t.0, t.1, all-owned c.args.p c.args.tables.now c.requires.paged, ap (owned_below c.args.p c.args.tables.now) (let z : c.loop-g.g ≡ regions c.args.p = omega arith in z))

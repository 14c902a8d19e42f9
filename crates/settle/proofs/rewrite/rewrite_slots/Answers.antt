use Rattle.std.proofs.Common.{arith, ℕ, ◌-◌, ap, ◌∙◌}
use Rattle.layout.specs.Places.{next_in}
use Rattle.chains.proofs.Walking.{Leads, ahead-less, whole_long, first-leads, next-leads}
use Rattle.settle.specs.RewriteSlots.{along-start, along-turn, along-end}
use Rattle.settle.proofs.rewrite.rewrite_slots.Goals as goal
use Rattle.settle.proofs.rewrite.rewrite_slots.Goals.{After-next-x}

-- the next word leads on
leads-on : (c : goal.After-next-x) → (let a = c.args in let l = c.loop-x in Leads a.region a.p.entries a.remember.now l.x c.next-x.result)
leads-on c =
    next-leads c.requires.slots.entries.few c.requires.chains_whole c.loop-x.invariant.leads (omega (arith, c.loop-x-test.true))
    (c.next-x.ensures ∙ ap (λ (k : ℕ). next_in k c.args.chains.now (c.loop-x.x - 1)) c.last_region-last.ensures)

pub first-x-requires : goal.first-x-requires
first-x-requires c = (c.requires.le_region.0, omega (arith, c.requires.le_region.1, whole_long c.requires.slots.entries.few c.requires.chains_whole))

pub loop-x-init : goal.loop-x-init
loop-x-init c = along-start (first-leads c.requires.slots.entries.few c.requires.chains_whole c.args.region c.requires.le_region.0 c.requires.le_region.1 c.first-x.ensures)

pub next-x-requires : goal.next-x-requires
next-x-requires c = omega (arith, c.last_region-last.ensures, whole_long c.requires.slots.entries.few c.requires.chains_whole, c.requires.slots.entries.few, c.loop-x.invariant.leads.low, c.loop-x-test.true)

pub loop-x-smaller : goal.loop-x-smaller
loop-x-smaller c = ahead-less c.args.remember.now c.loop-x.x c.next-x.result (omega (arith, c.loop-x-test.true)) c.loop-x.invariant.leads.low (leads-on (goal.at.loop-x-smaller c).After-next-x).later

pub loop-x-preserved : goal.loop-x-preserved
loop-x-preserved c =
    along-turn c.requires.slots c.loop-x.invariant (omega (arith, c.loop-x-test.true)) c.forward_ref.result c.slot-at.result c.slot-at.ensures c.forward_ref.ensures (leads-on (goal.at.loop-x-preserved c).After-next-x)

pub returns : goal.returns
returns c = along-end c.loop-x.invariant (omega (arith, c.loop-x-test.false))

use Rattle.std.proofs.Common.{◌≡◌, ◌∙◌, ℕ, sym, subst, arith}
use Rattle.layout.specs.Places.{entries_used}
use Rattle.remember.specs.Table.{entries_in}
use Rattle.remember.specs.TableWords.{to-long}
use Rattle.chains.proofs.Linking.{Linked, Read, region-read, linked-none, linked-step, linked-all}
use Rattle.chains.proofs.relink.Goals as goal
use Rattle.chains.proofs.relink.Goals.{After-region-g}

-- the region of the entry at hand
near : (c : goal.After-region-g) → Read c.args.last c.args.entries c.args.remember.now c.loop-i.i c.region-g.result
near c = region-read c.requires.listed.room c.requires.listed.among (omega arith) (omega arith) c.region-g.ensures

pub loop-i-init : goal.loop-i-init
loop-i-init c =
    let es = entries_in c.args.entries c.args.remember.now in
    linked-none es (c.used-used.ensures ∙ sym (to-long c.args.entries c.args.remember.now (entries_used c.args.remember.now))) c.clear.ensures

pub first-next-requires : goal.first-next-requires
first-next-requires c =
    let r = near (goal.at.first-next-requires c).After-region-g in
    (r.low, omega (arith, r.high, c.requires.entries_in_bounds, c.clear.ensures.long, c.loop-i.invariant.long))

pub set_first-requires : goal.set_first-requires
set_first-requires c =
    let r = near (goal.at.set_first-requires c).After-region-g in
    (r.low, omega (arith, r.high, c.requires.entries_in_bounds, c.clear.ensures.long, c.loop-i.invariant.long, c.set_next.auto.chains))

pub loop-i-preserved : goal.loop-i-preserved
loop-i-preserved c =
    let r = near (goal.at.loop-i-preserved c).After-region-g in
    linked-step (entries_in c.args.entries c.args.remember.now) c.loop-i.invariant c.loop-i-test.true r.place r.is c.requires.listed.among r.room
    (omega (arith, c.requires.entries_in_bounds, c.clear.ensures.long)) c.first-next.ensures c.set_next.ensures c.set_first.ensures

pub returns : goal.returns
returns c =
    let es = entries_in c.args.entries c.args.remember.now in
    let l = c.loop-i in
    let e : l.i ≡ 0 = omega arith in
    linked-all es (omega (arith, to-long c.args.entries c.args.remember.now (entries_used c.args.remember.now), c.requires.listed.room)) c.requires.entries_in_bounds c.clear.ensures
    (subst (λ (i : ℕ). Linked c.args.last c.args.entries es i c.clear.new.slice l.chains) e l.invariant)

use Rattle.std.proofs.Common.{refl, ◌∙◌, ◌<◌, arith}
use Rattle.chains.proofs.Walking.{ahead-less, whole_long}
use Rattle.mark.specs.Pushes.{pushing-kept, pushing-shaped, ref-read, push-read}
use Rattle.mark.specs.Holders.{slot-held-ref, kept-slot-held}
use Rattle.mark.specs.Along.{along-start, along-low, along-here, along-all, leads-on, along-next}
use Rattle.mark.proofs.holders.push_slots.Goals as goal

pub first-x-requires : goal.first-x-requires
first-x-requires c =
    omega (arith, c.requires.le_r, whole_long c.requires.holding.remember.entries.room c.requires.chains_whole)

pub loop-x-init : goal.loop-x-init
loop-x-init c =
    (refl, refl, along-start c.requires.holding.remember.entries.room c.requires.chains_whole c.requires.le_r.0 c.requires.le_r.1 refl c.first-x.ensures)

pub push-t-requires : goal.push-t-requires
push-t-requires c =
    let loop = c.loop-x in
    let a = loop.invariant.2 in
    let pos : 0 < loop.x = omega (arith, c.loop-x-test.true) in
    let lt = along-low a pos refl in
    let h = along-here a pos refl in
    let k = pushing-kept c.requires.shaped h in record {
      shaped = pushing-shaped c.requires.shaped h;
      fact = ref-read c.requires.shaped h (slot-held-ref c.requires.shaped c.requires.holding _ _ _ lt) c.slot_for-y.result (c.slot_for-y.ensures ∙ kept-slot-held k c.requires.shaped.room c.requires.holding _ _ _ lt);
    }

pub next-x-requires : goal.next-x-requires
next-x-requires c =
    let loop = c.loop-x in
    let a = loop.invariant.2 in
    let pos : 0 < loop.x = omega (arith, c.loop-x-test.true) in
    let room = c.requires.holding.remember.entries.room in
    omega (arith, along-low a pos refl, room, c.last_region-last.ensures, whole_long room c.requires.chains_whole)

pub loop-x-smaller : goal.loop-x-smaller
loop-x-smaller c =
    let loop = c.loop-x in
    let a = loop.invariant.2 in
    let pos : 0 < loop.x = omega (arith, c.loop-x-test.true) in
    let n = leads-on c.requires.holding.remember.entries.room c.requires.chains_whole a pos refl c.last_region-last.ensures c.next-x.ensures in
    ahead-less c.args.remember.now _ _ pos a.leads.low n.later

pub loop-x-preserved : goal.loop-x-preserved
loop-x-preserved c =
    let slot-for = c.slot_for-y in
    let loop = c.loop-x in
    let a = loop.invariant.2 in
    let pos : 0 < loop.x = omega (arith, c.loop-x-test.true) in
    let lt = along-low a pos refl in
    let k = pushing-kept c.requires.shaped (along-here a pos refl) in
    let h = push-read c.requires.shaped (along-here a pos refl) (slot-held-ref c.requires.shaped c.requires.holding _ _ _ lt) slot-for.result (slot-for.ensures ∙ kept-slot-held k c.requires.shaped.room c.requires.holding _ _ _ lt) c.push-t.ensures in
    let k' = pushing-kept c.requires.shaped h in
    (k'.cells-length, k'.tables-length, along-next c.requires.holding.remember.entries.room c.requires.chains_whole a pos refl c.last_region-last.ensures c.next-x.ensures h)

pub returns : goal.returns
returns c = along-all c.loop-x.invariant.2 (omega (arith, c.loop-x-test.false))

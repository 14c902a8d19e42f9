use Rattle.std.proofs.Common.{ℕ, not, ◌-◌, ◌≤◌, ◌≡◌, ap, ◌∙◌, arith}
use Rattle.lists.specs.Counting.{bit}
use Rattle.layout.specs.Places.{next_in}
use Rattle.chains.proofs.Walking.{Leads, first-leads, next-leads, whole_long, ahead-less}
use Rattle.census.proofs.Bits.{from-bit, bit-not}
use Rattle.census.specs.Going.{walk_begins, walk-few, walk-on, walk_ends}
use Rattle.census.proofs.crossing.gone_entries.Goals as goal
use Rattle.census.proofs.crossing.gone_entries.Goals.{After-from-n, After-next-x}

-- what this entry adds
one : (c : goal.After-from-n) → (c.from-n.result ≡ 1 - bit c.cross_entry.result) × (c.from-n.result ≤ 1)
one c = let e = c.from-n.ensures ∙ from-bit (not c.cross_entry.result) ∙ bit-not c.cross_entry.result in (e, omega arith)

-- the next word leads on from the entry at hand
on : (c : goal.After-next-x) → Leads c.args.r c.args.p.entries c.args.remember.now c.loop-x.x c.next-x.result
on c =
    let a = c.args in
    next-leads c.requires.holding.remember.entries.room c.requires.chains_whole c.loop-x.invariant.leads c.loop-x-test.true
    (c.next-x.ensures ∙ ap (λ (l : ℕ). next_in l a.chains.now (c.loop-x.x - 1)) c.last_region-last.ensures)

pub first-x-requires : goal.first-x-requires
first-x-requires c =
    (omega (arith, c.requires.le_r), omega (arith, c.requires.le_r, whole_long c.requires.holding.remember.entries.room c.requires.chains_whole))

pub loop-x-init : goal.loop-x-init
loop-x-init c =
    let a = c.args in
    walk_begins a.p a.cells.now a.remember.now a.tables.now a.r
    (first-leads c.requires.holding.remember.entries.room c.requires.chains_whole a.r c.requires.le_r.0 c.requires.le_r.1 c.first-x.ensures)

pub overflow_add-n : goal.overflow_add-n
overflow_add-n c =
    let a = c.args in
    let few = walk-few a.p a.cells.now a.remember.now a.tables.now a.r c.loop-x.invariant in
    omega (arith, few.0, one (goal.at.overflow_add-n c).After-from-n, c.requires.holding.remember.entries.room, c.requires.shaped.room.entries-high)

pub next-x-requires : goal.next-x-requires
next-x-requires c =
    omega (arith, c.last_region-last.ensures, whole_long c.requires.holding.remember.entries.room c.requires.chains_whole, c.loop-x.invariant.leads.low, c.loop-x-test.true, c.requires.holding.remember.entries.room)

pub loop-x-smaller : goal.loop-x-smaller
loop-x-smaller c = ahead-less c.args.remember.now c.loop-x.x c.next-x.result c.loop-x-test.true c.loop-x.invariant.leads.low (on (goal.at.loop-x-smaller c).After-next-x).later

pub loop-x-preserved : goal.loop-x-preserved
loop-x-preserved c =
    let a = c.args in
    walk-on a.p a.cells.now a.remember.now a.tables.now a.r c.loop-x.invariant c.loop-x-test.true (on (goal.at.loop-x-preserved c).After-next-x) c.cross_entry.ensures (omega (arith, one (goal.at.loop-x-preserved c).After-from-n))

pub returns : goal.returns
returns c =
    let a = c.args in
    walk_ends a.p a.cells.now a.remember.now a.tables.now a.r c.loop-x.invariant (omega (arith, c.loop-x-test.false))

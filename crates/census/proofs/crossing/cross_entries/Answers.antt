-- Those that cross, those of r's own slots and those into r that go are all entries.
use Rattle.std.proofs.Common.{◌+◌, ◌≡◌, ◌∙◌, arith, length}
use Rattle.layout.specs.Places.{slot_in}
use Rattle.layout.specs.Cells.{at-page}
use Rattle.mark.specs.Holders.{slot-low}
use Rattle.census.specs.After.{entries_cross}
use Rattle.census.specs.OnPages.{own-listed}
use Rattle.census.specs.Going.{entries_go, all-entries}
use Rattle.census.proofs.crossing.cross_entries.Goals as goal
use Rattle.census.proofs.crossing.cross_entries.Goals.{After-own_entries-own}

sums : (c : goal.After-own_entries-own) → entries_cross c.args.p c.args.cells.now c.args.remember.now c.args.tables.now c.args.r + (c.own_entries-own.result + entries_go c.args.p c.args.cells.now c.args.remember.now c.args.tables.now c.args.r) ≡ c.used-all.result
sums c =
    let a = c.args in
    let own = own-listed a.p a.remember.now a.tables.now a.r (length a.list.now) a.list.now c.requires.lists (λ i l. at-page a.p (slot_in a.remember.now i) (slot-low c.requires.holding i l)) in
    omega (arith, all-entries c.requires.shaped c.requires.holding c.requires.others_stay, c.own_entries-own.ensures ∙ own, c.used-all.ensures)

pub overflow_sub-result : goal.overflow_sub-result
overflow_sub-result c = omega (arith, sums (goal.at.overflow_sub-result c).After-own_entries-own)

pub overflow_sub-result-2 : goal.overflow_sub-result-2
overflow_sub-result-2 c = omega (arith, sums (goal.at.overflow_sub-result-2 c).After-own_entries-own, c.gone_entries.ensures)

pub returns-clause-value : goal.returns-clause-value
returns-clause-value c =
    let e = sums (goal.at.returns-clause-value c).After-own_entries-own in
    omega (arith, e, c.gone_entries.ensures)

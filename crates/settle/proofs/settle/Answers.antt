-- The entries that stay, those before the first that is touched as they are; then those of the copies, which are rewritten on the way, then zeros;
-- and those of the copies are sorted in.
use Rattle.std.proofs.Common.{arith, ℕ, List, ◌≡◌, sym, subst}
use Rattle.rules.specs.declared.Sizes.{Sizes}
use Rattle.layout.specs.Places.{entries_used}
use Rattle.chains.proofs.Walking.{whole_long}
use Rattle.settle.specs.Update.{Settles, Updated, settle-asks, settles-appended, settles-updated}
use Rattle.settle.specs.Renew.{passed, renew-ask}
use Rattle.settle.proofs.settle.Goals as goal
use Rattle.settle.proofs.settle.Goals.{After-order_entries}

-- by the number of entries that the code read
settles : {p : Sizes} {r n u y : ℕ} {W M T : List ℕ} → Settles p r n u W M T → y ≡ u → Settles p r n y W M T
settles {p} {r} {n} {W = W} {M = M} {T = T} s e = subst (λ (x : ℕ). Settles p r n x W M T) (sym e) s

updated : (c : goal.After-order_entries) → (let a = c.args in Updated a.p a.region a.p.entries (entries_used a.remember.now) c.settle_copies-all.new.cells a.remember.now a.tables.now c.order_entries.new.remember)
updated c =
    let a = c.args in
    subst (λ (y : ℕ). Updated a.p a.region a.p.entries y c.settle_copies-all.new.cells a.remember.now a.tables.now c.order_entries.new.remember) c.used-used.ensures
    (settles-updated (settles c.requires.settles c.used-used.ensures) c.filter_entries-kept.ensures.added c.filter_entries-kept.ensures.rising c.settle_copies-all.ensures c.close_entries.ensures c.order_entries.ensures)

pub first_touched-from-requires : goal.first_touched-from-requires
first_touched-from-requires c =
    let k = c.requires.chained in
    (k.low, omega (arith, k.high, whole_long k.chainable.room k.whole))

pub filter_entries-kept-requires-clause-unchanged : goal.filter_entries-kept-requires-clause-unchanged
filter_entries-kept-requires-clause-unchanged c = passed c.requires.settles c.requires.chained c.requires.lists c.first_own-own.ensures.upper_bound c.first_own-own.ensures.not_own (omega (arith, c.first_touched-from.ensures.upper_bound)) c.first_touched-from.ensures.upper_bound_2 c.args.cells.now

pub settle_copies-all-requires-clause-settling : goal.settle_copies-all-requires-clause-settling
settle_copies-all-requires-clause-settling c = settle-asks (settles c.requires.settles c.used-used.ensures) c.filter_entries-kept.ensures.added

pub order_entries-requires-clause-gathered : goal.order_entries-requires-clause-gathered
order_entries-requires-clause-gathered c = (settles-appended (settles c.requires.settles c.used-used.ensures) c.filter_entries-kept.ensures.added c.filter_entries-kept.ensures.rising c.settle_copies-all.ensures c.close_entries.ensures).gathered

pub renew_chains-requires : goal.renew_chains-requires
renew_chains-requires c = (c.args.remember.now, renew-ask c.requires.settles c.requires.chained c.requires.lists c.first_own-own.ensures.upper_bound c.first_own-own.ensures.not_own (omega (arith, c.first_touched-from.ensures.upper_bound)) c.first_touched-from.ensures.upper_bound_2 c.used-used.ensures (updated (goal.at.renew_chains-requires c).After-order_entries))

pub returns-clause-updated : goal.returns-clause-updated
returns-clause-updated c = updated (goal.at.returns-clause-updated c).After-order_entries

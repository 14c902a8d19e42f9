-- The entries that stay, those before the first that is touched as they are, then zeros: nothing is copied, so none comes.
use Rattle.std.proofs.Common.{arith, ℕ, refl, sym, subst}
use Rattle.layout.specs.Places.{entries_used}
use Rattle.chains.proofs.Walking.{whole_long}
use Rattle.settle.specs.Settle.{settled-none}
use Rattle.settle.specs.Update.{Settles, Updated, settles-kept}
use Rattle.settle.specs.Renew.{passed, renew-ask}
use Rattle.settle.proofs.entries.keep_entries.Goals as goal
use Rattle.settle.proofs.entries.keep_entries.Goals.{After-close_entries, After-used-used}

updated : (c : goal.After-close_entries) → (let a = c.args in Updated a.p a.region a.p.entries (entries_used a.remember.now) a.cells.now a.remember.now a.tables.now c.close_entries.new.remember)
updated c =
    let a = c.args in
    subst (λ (y : ℕ). Updated a.p a.region a.p.entries y a.cells.now a.remember.now a.tables.now c.close_entries.new.remember) c.used-used.ensures
    (settles-kept (let a = c.args in
    subst (λ (y : ℕ). Settles a.p a.region a.p.entries y a.cells.now a.remember.now a.tables.now) (sym c.used-used.ensures) c.requires.settles) c.filter_entries-kept.ensures.added c.filter_entries-kept.ensures.rising (settled-none _ _ _ _ _ _ _ c.filter_entries-kept.ensures.added.low c.requires.by_index) c.close_entries.ensures refl)

pub first_touched-from-requires : goal.first_touched-from-requires
first_touched-from-requires c =
    let k = c.requires.chained in
    (k.low, omega (arith, k.high, whole_long k.chainable.room k.whole))

pub filter_entries-kept-requires-clause-unchanged : goal.filter_entries-kept-requires-clause-unchanged
filter_entries-kept-requires-clause-unchanged c = passed c.requires.settles c.requires.chained c.requires.lists c.first_own-own.ensures.upper_bound c.first_own-own.ensures.not_own (omega (arith, c.first_touched-from.ensures.upper_bound)) c.first_touched-from.ensures.upper_bound_2 c.args.cells.now

pub renew_chains-requires : goal.renew_chains-requires
renew_chains-requires c = (c.args.remember.now, renew-ask c.requires.settles c.requires.chained c.requires.lists c.first_own-own.ensures.upper_bound c.first_own-own.ensures.not_own (omega (arith, c.first_touched-from.ensures.upper_bound)) c.first_touched-from.ensures.upper_bound_2 c.used-used.ensures (updated (goal.at.renew_chains-requires c).After-close_entries))

pub returns-clause-updated : goal.returns-clause-updated
returns-clause-updated c = updated (goal.at.returns-clause-updated c).After-close_entries

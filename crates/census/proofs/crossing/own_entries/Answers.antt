use Rattle.std.proofs.Common.{ℕ, ◌≤◌, ◌<◌, arith, get_or}
use Rattle.lists.specs.Counting.{sum_more}
use Rattle.census.specs.OnPages.{slots_on, slots-few, listed-few}
use Rattle.census.proofs.crossing.own_entries.Goals as goal
use Rattle.census.proofs.crossing.own_entries.Goals.{After-own_on-k}

here : (c : goal.After-own_on-k) → (c.own_on-k.result ≤ 4096) × (c.loop-page.page-index < 1024)
here c = (
  omega (arith, c.own_on-k.ensures, slots-few c.args.remember.now (get_or c.args.list.now c.loop-page.page-index 0), c.requires.table.room, c.requires.entries_bound),
  omega (arith, listed-few c.requires.rises c.loop-page.page-index (omega arith), c.requires.entries_bound),
)

pub overflow_add-k : goal.overflow_add-k
overflow_add-k c = omega (arith, here (goal.at.overflow_add-k c).After-own_on-k, c.loop-page.invariant)

pub loop-page-preserved : goal.loop-page-preserved
loop-page-preserved c =
    let h = here (goal.at.loop-page-preserved c).After-own_on-k in
    (omega (arith, c.own_on-k.ensures, c.loop-page.invariant.0, sum_more (λ (j : ℕ). slots_on c.args.remember.now (get_or c.args.list.now j 0)) c.loop-page.page-index), omega (arith, h, c.loop-page.invariant))

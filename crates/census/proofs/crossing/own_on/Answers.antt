-- The entries of the page are those between the two places.
use Rattle.std.proofs.Common.{◌+◌, ◌≡◌, arith}
use Rattle.census.specs.OnPages.{slots_on, page-found}
use Rattle.census.proofs.crossing.own_on.Goals as goal
use Rattle.census.proofs.crossing.own_on.Goals.{After-find_entry}

found : (c : goal.After-find_entry) → slots_on c.args.remember.now c.args.page + c.find_entry-low.result ≡ c.find_entry.result
found c = page-found c.requires.table c.args.page c.find_entry-low.ensures c.find_entry.ensures (omega arith) (omega arith)

pub overflow_sub-result : goal.overflow_sub-result
overflow_sub-result c = omega (arith, found (goal.at.overflow_sub-result c).After-find_entry)

pub returns : goal.returns
returns c = omega (arith, found (goal.at.returns c).After-find_entry)

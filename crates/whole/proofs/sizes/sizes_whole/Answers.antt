-- Sizes are read where the two slices have them.
use Rattle.std.proofs.Common.{arith}
use Rattle.lists.specs.Says.{says-no}
use Rattle.promises.specs.Reading.{sizes-there, entries-there}
use Rattle.whole.proofs.sizes.sizes_whole.Goals as goal
use Rattle.whole.proofs.sizes.sizes_whole.Goals.{then-tables-lt5-via-then-tables-lt5, then-tables-lt5-via-else-tables-lt5+then-remember-lt2}

pub returns-then-tables-lt5 : goal.returns-then-tables-lt5
returns-then-tables-lt5 c =
    says-no (λ h. elim c.then-tables-lt5.branch [
      | then-tables-lt5-via-then-tables-lt5 w ↦ omega (arith, sizes-there h)
      | then-tables-lt5-via-else-tables-lt5+then-remember-lt2 w ↦ omega (arith, entries-there h)
    ])

use Rattle.std.proofs.Common.{arith}
use Rattle.std.proofs.lemmas.Bool.Decides.{nat_tests}
use Rattle.chains.proofs.Walking.{whole_long}
use Rattle.chains.proofs.chains_whole.Goals as goal

pub returns-else-last-entries : goal.returns-else-last-entries
returns-else-last-entries c = (
  λ q. absurd (let h = c.if-last-entries.false in grind (arith, nat_tests)),
  λ w. absurd (omega (arith, whole_long c.requires.room w, c.last_region-last.ensures, c.if-last-entries.false)),
)

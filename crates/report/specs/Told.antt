-- What a report says that is not refused: the counters, the total, and the rows left.
use Rattle.std.specs.Prelude.{◌≡◌, ℕ, List, take}
use Rattle.rules.specs.Rules.{Leaves}
use Rattle.report.specs.declared.Row.{Row}
use Rattle.report.specs.declared.Reported.{Reported}
use Rattle.report.specs.Report.{total_of}

-- a report that is not refused says that n objects were made and f freed; its total is that of the rows that it wrote, and made less freed
pub record Reports (n f : ℕ) (r : Reported) (left : List Row) : Type 0 where
  pub made : r.made ≡ n
  pub freed : r.freed ≡ f
  pub total : r.total ≡ total_of (take r.rows left)
  pub leaves : Leaves (record { made = r.made; freed = r.freed }) r.total

-- The rows passed are written, and the region at hand is the next open region.
use Rattle.std.proofs.Common.{◌≡◌}
use Rattle.layout.specs.Places.{sizes_at}
use Rattle.layout.specs.Words.{depths_at}
use Rattle.report.specs.Opened.{Turn}
use Rattle.report.specs.Tables.{rows_in}
use Rattle.report.specs.Lent.{written}
use Rattle.report.proofs.lent.fill.Given as goal

abbrev pub invariant-loop-row : goal.invariant-loop-row
invariant-loop-row l = record {
  rows_so_far : l.row-items ≡ written (rows_in (sizes_at l.tables) l.tables) l.row-index l.initial.row-items;
  turn : Turn (sizes_at l.tables) (depths_at (sizes_at l.tables) l.tables) l.row-index l.region;
}

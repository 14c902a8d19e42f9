-- The row of open region k.
use Rattle.std.proofs.Common.{◌∙◌}
use Rattle.report.specs.Opened.{turn-high, turn-row}
use Rattle.report.proofs.row_at.Goals as goal

pub row_of-requires : goal.row_of-requires
row_of-requires c =
    let a = c.args in
    let turn = c.open_region.ensures in record {
      whole_tables = c.requires.whole_tables;
      le_region = (turn.low, turn-high a.p a.tables.now a.k c.open_region.result turn c.requires.k_in_bounds);
    }

pub returns : goal.returns
returns c =
    let a = c.args in
    c.row_of.ensures ∙ turn-row a.p a.tables.now a.k c.open_region.result c.open_region.ensures c.requires.k_in_bounds

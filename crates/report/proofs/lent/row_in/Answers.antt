-- The sizes are those that the tables name.
use Rattle.std.proofs.Common.{◌≤◌, sym, ap, ◌∙◌, subst}
use Rattle.rules.specs.declared.Sizes.{Sizes}
use Rattle.promises.specs.Reading.{sizes-there}
use Rattle.report.specs.Tables.{WholeTables, row_in}
use Rattle.rules.specs.Regions.{regions}
use Rattle.report.proofs.lent.row_in.Goals as goal

pub read_sizes-requires : goal.read_sizes-requires
read_sizes-requires c = sizes-there c.requires.0.whole.sized

pub row_of-requires : goal.row_of-requires
row_of-requires c =
    let a = c.args in
    let both = subst (λ (p : Sizes). WholeTables p a.tables.now × ((1 ≤ a.region) × (a.region ≤ regions p))) (sym c.read_sizes.ensures) (c.requires.0, (c.requires.1, c.requires.2)) in
    record { whole_tables = both.0; le_region = both.1 }

pub returns : goal.returns
returns c =
    let a = c.args in c.row_of.ensures ∙ ap (λ (p : Sizes). row_in p a.tables.now a.region) c.read_sizes.ensures

-- The sizes are those that the tables name.
use Rattle.std.proofs.Common.{◌≤◌, sym, subst}
use Rattle.rules.specs.declared.Sizes.{Sizes}
use Rattle.promises.specs.Reading.{sizes-there}
use Rattle.layout.specs.Words.{depths_at}
use Rattle.report.specs.Opened.{Next}
use Rattle.report.specs.Tables.{WholeTables}
use Rattle.rules.specs.Regions.{regions}
use Rattle.report.proofs.lent.open_after.Goals as goal

pub read_sizes-requires : goal.read_sizes-requires
read_sizes-requires c = sizes-there c.requires.0.whole.sized

pub next_open-requires : goal.next_open-requires
next_open-requires c =
    let a = c.args in
    let both = subst (λ (p : Sizes). WholeTables p a.tables.now × ((1 ≤ a.region) × (a.region ≤ regions p))) (sym c.read_sizes.ensures) (c.requires.0, (c.requires.1, c.requires.2)) in
    record { whole_tables = both.0; le_region = both.1 }

pub returns : goal.returns
returns c =
    let a = c.args in
    subst (λ (p : Sizes). Next p (depths_at p a.tables.now) a.region c.next_open.result) c.read_sizes.ensures c.next_open.ensures

-- The first question that says no decides; else the figures are those of the sizes that the tables name.
use Rattle.std.proofs.Common.{arith}
use Rattle.lists.specs.Says.{said-no}
use Rattle.promises.specs.Slices.{slices}
use Rattle.promises.specs.Reading.{sizes-there, entries-there}
use Rattle.promises.proofs.WholeChains.{read-chainable, found-whole}
use Rattle.report.specs.Tables.{whole-tables}
use Rattle.report.proofs.Stands.{rows_few}
use Rattle.report.proofs.LentRows.{asking-not-whole, asking-other, asking-short, asking-all}
use Rattle.report.proofs.lent.ask.Goals as goal

pub returns-then-not-whole : goal.returns-then-not-whole
returns-then-not-whole c =
    let a = c.args in
    let l = slices a.cells.now a.remember.now a.tables.now a.chains.now in
    asking-not-whole l a.room (said-no _ c.whole.ensures c.if-not-whole.true)

pub read_sizes-p-requires : goal.read_sizes-p-requires
read_sizes-p-requires c = sizes-there (c.whole.ensures.0 c.if-not-whole.false).sized

pub chains_whole-requires : goal.chains_whole-requires
chains_whole-requires c = read-chainable (c.whole.ensures.0 c.if-not-whole.false) c.read_sizes-p.ensures

pub returns-then-not-chains_whole : goal.returns-then-not-chains_whole
returns-then-not-chains_whole c =
    let a = c.args in
    let l = slices a.cells.now a.remember.now a.tables.now a.chains.now in
    asking-other l a.room (c.whole.ensures.0 c.if-not-whole.false) c.read_sizes-p.ensures (said-no _ c.chains_whole.ensures c.if-not-chains_whole.true)

pub row_count-rows-requires : goal.row_count-rows-requires
row_count-rows-requires c = whole-tables (c.whole.ensures.0 c.if-not-whole.false) c.read_sizes-p.ensures

pub returns-then-room-rows : goal.returns-then-room-rows
returns-then-room-rows c =
    let a = c.args in
    let l = slices a.cells.now a.remember.now a.tables.now a.chains.now in
    let k = found-whole (c.whole.ensures.0 c.if-not-whole.false) c.read_sizes-p.ensures (c.chains_whole.ensures.0 c.if-not-chains_whole.false) in
    asking-short l a.room k c.read_sizes-p.result c.read_sizes-p.ensures c.row_count-rows.result c.row_count-rows.ensures c.if-room-rows.true

pub overflow_cast-result : goal.overflow_cast-result
overflow_cast-result c =
    let a = c.args in
    let k = whole-tables (c.whole.ensures.0 c.if-not-whole.false) c.read_sizes-p.ensures in
    omega (arith, c.row_count-rows.ensures, rows_few c.read_sizes-p.result a.tables.now k)

pub free_pages-requires : goal.free_pages-requires
free_pages-requires c = whole-tables (c.whole.ensures.0 c.if-not-whole.false) c.read_sizes-p.ensures

pub crossing_slots-requires : goal.crossing_slots-requires
crossing_slots-requires c = entries-there (c.whole.ensures.0 c.if-not-whole.false).sized

pub made-requires : goal.made-requires
made-requires c = whole-tables (c.whole.ensures.0 c.if-not-whole.false) c.read_sizes-p.ensures

pub freed-requires : goal.freed-requires
freed-requires c = whole-tables (c.whole.ensures.0 c.if-not-whole.false) c.read_sizes-p.ensures

pub total-requires : goal.total-requires
total-requires c = whole-tables (c.whole.ensures.0 c.if-not-whole.false) c.read_sizes-p.ensures

pub returns : goal.returns
returns c =
    let a = c.args in
    let l = slices a.cells.now a.remember.now a.tables.now a.chains.now in
    let k = found-whole (c.whole.ensures.0 c.if-not-whole.false) c.read_sizes-p.ensures (c.chains_whole.ensures.0 c.if-not-chains_whole.false) in
    asking-all l a.room k c.read_sizes-p.result c.read_sizes-p.ensures c.row_count-rows.result c.row_count-rows.ensures
    c.free_pages.result c.crossing_slots.result c.made.result c.freed.result c.total.result c.if-room-rows.false c.free_pages.ensures c.crossing_slots.ensures c.made.ensures c.freed.ensures c.total.ensures

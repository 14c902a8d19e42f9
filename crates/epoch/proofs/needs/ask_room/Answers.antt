-- The first question that says no.
use Rattle.std.proofs.Common.{◌∙◌, arith}
use Rattle.ending.specs.RoomAsked.{more-arriving, asked-pages, asked-entries, asked-none}
use Rattle.epoch.proofs.needs.ask_room.Goals as goal

pub returns-then-free-needed : goal.returns-then-free-needed
returns-then-free-needed c =
    let a = c.args in
    asked-pages a.p a.cells.now a.remember.now a.tables.now a.epoch.thread a.epoch.level a.epoch.region
    (c.needed_pages-needed.ensures ∙ more-arriving a.p a.cells.now a.tables.now a.come.now a.epoch.thread a.epoch.level c.requires.census.arrivals) c.free_pages-free.ensures c.if-free-needed.true

pub count_crossing-crossing-requires : goal.count_crossing-crossing-requires
count_crossing-crossing-requires c =
    let census = c.requires.census in record {
      shaped = c.requires.shaped;
      holding = c.requires.holding;
      others_stay = c.requires.others_stay;
      chains_whole = c.requires.chains_whole;
      lists = c.requires.lists;
      le_r = c.requires.le_region;
      k_value = (census.crossing, census.few);
    }

pub returns-then-p-crossing : goal.returns-then-p-crossing
returns-then-p-crossing c =
    let a = c.args in
    asked-entries a.p a.cells.now a.remember.now a.tables.now a.epoch.thread a.epoch.level a.epoch.region
    (c.needed_pages-needed.ensures ∙ more-arriving a.p a.cells.now a.tables.now a.come.now a.epoch.thread a.epoch.level c.requires.census.arrivals) c.free_pages-free.ensures c.count_crossing-crossing.ensures (omega (arith, c.if-free-needed.false)) c.if-p-crossing.true

pub returns : goal.returns
returns c =
    let a = c.args in
    asked-none a.p a.cells.now a.remember.now a.tables.now a.epoch.thread a.epoch.level a.epoch.region
    (c.needed_pages-needed.ensures ∙ more-arriving a.p a.cells.now a.tables.now a.come.now a.epoch.thread a.epoch.level c.requires.census.arrivals) c.free_pages-free.ensures c.count_crossing-crossing.ensures (omega (arith, c.if-free-needed.false)) (omega (arith, c.if-p-crossing.false))

-- The sizes are there, and give the chains their place, once the tables are whole.
use Rattle.promises.specs.Reading.{sizes-there}
use Rattle.promises.proofs.WholeChains.{read-chainable}
use Rattle.heap.proofs.ask.Goals as goal

pub read_sizes-requires : goal.read_sizes-requires
read_sizes-requires c = sizes-there (c.whole.ensures.0 c.if-not-whole.false).sized

pub chains_whole-requires : goal.chains_whole-requires
chains_whole-requires c = read-chainable (c.whole.ensures.0 c.if-not-whole.false) c.read_sizes.ensures

-- Sizes first; they give the places of the rest.
use Rattle.std.proofs.Common.{length, arith}
use Rattle.layout.specs.Places.{sizes_at, room}
use Rattle.promises.specs.Reading.{sizes-there}
use Rattle.whole.proofs.whole.Goals as goal

pub read_sizes-p-requires : goal.read_sizes-p-requires
read_sizes-p-requires c = sizes-there (c.sizes_whole.ensures.0 c.if-not-sizes_whole.false)

pub placed_whole-requires-clause-room : goal.placed_whole-requires-clause-room
placed_whole-requires-clause-room c =
    let args = c.args in
    let w = c.sizes_whole.ensures.0 c.if-not-sizes_whole.false in
    rw c.read_sizes-p.ensures (room (sizes_at args.tables.now) (length args.tables.now) w.range w.tables (omega arith))

-- The table was cut, or the chains are written anew.
use Rattle.std.proofs.Common.{arith, refl}
use Rattle.chains.proofs.Walking.{whole_long}
use Rattle.chains.proofs.Cutting.{cut-chains}
use Rattle.settle.proofs.renew.renew_chains.Goals as goal

pub set_first-requires : goal.set_first-requires
set_first-requires c = (c.requires.1.low, omega (arith, c.requires.1.high, whole_long c.requires.1.room c.requires.1.whole))

pub clear-requires : goal.clear-requires
clear-requires c =
    let r = c.requires.1 in
    (omega (arith, r.few), omega (arith, c.last_region-last.ensures, r.counted, r.room, whole_long r.room r.whole, c.set_first.auto.chains))

pub returns-then-used-from : goal.returns-then-used-from
returns-then-used-from c =
    let r = c.requires.1 in
    cut-chains r.room r.whole (r.cut (omega (arith, c.if-own-used.true)) (omega (arith, c.used.ensures, c.if-used-from.true))) r.low r.high
    c.args.region c.set_first.ensures c.clear.ensures refl (omega arith) (omega (arith, c.last_region-last.ensures)) (omega (arith, c.last_region-last.ensures, r.counted))

pub rebuild-requires-clause-p_in_bounds : goal.rebuild-requires-clause-p_in_bounds
rebuild-requires-clause-p_in_bounds c = whole_long c.requires.1.room c.requires.1.whole

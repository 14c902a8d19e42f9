-- The entry is taken out of the chain of its region, and its place is closed.
use Rattle.std.proofs.Common.{arith}
use Rattle.linking.specs.Joining.{unlinked-long}
use Rattle.linking.specs.EntryChains.{room, words-forward, region-pos, region-high, went}
use Rattle.linking.proofs.entries.goes.Goals as goal

pub unlink-requires : goal.unlink-requires
unlink-requires c =
    let t = c.requires.chainable in
    let w = c.requires.chains_whole in
    let l = c.requires.place_bound in
    let e = c.last_region-last.ensures in
    let g = c.region-region.ensures in record {
      le_region = (region-pos t w e l g, region-high t w e l g, omega (arith, room t w e, t.room, l));
      by_index = words-forward t w e (omega (arith, l));
    }

pub close_place-requires : goal.close_place-requires
close_place-requires c =
    let t = c.requires.chainable in
    let w = c.requires.chains_whole in
    let l = c.requires.place_bound in
    let e = c.last_region-last.ensures in
    let x = c.used-used.ensures in
    (omega (arith, x, l), omega (arith, room t w e, t.room, x, l, unlinked-long c.unlink.ensures))

pub returns : goal.returns
returns c =
    let l = c.requires.place_bound in
    went c.requires.chainable c.requires.chains_whole c.last_region-last.ensures l (c.region-region.ensures) c.unlink.ensures
    (c.used-used.ensures) c.close_place.ensures

-- The entry is taken out of the chain of its region, and into that of the other.
use Rattle.std.proofs.Common.{arith}
use Rattle.linking.specs.Joining.{unlinked-long}
use Rattle.linking.specs.EntryChains.{room, words-forward, region-pos, region-high, off-forward, changed}
use Rattle.linking.proofs.entries.changes.Goals as goal

pub unlink-requires : goal.unlink-requires
unlink-requires c =
    let t = c.requires.chainable in
    let w = c.requires.chains_whole in
    let l = c.requires.place_bound.0 in
    let e = c.last_region-last.ensures in
    let g = c.region-from.ensures in record {
      le_region = (region-pos t w e l g, region-high t w e l g, omega (arith, room t w e, t.room, l));
      by_index = words-forward t w e (omega (arith, l));
    }

pub link-requires : goal.link-requires
link-requires c =
    let t = c.requires.chainable in
    let w = c.requires.chains_whole in
    let a = c.requires.place_bound in
    let e = c.last_region-last.ensures in
    let u = c.unlink.ensures in record {
      le_region = (a.1, omega (arith, e, a.2), omega (arith, room t w e, t.room, a.0, unlinked-long u), omega (arith, t.entries, t.room, a.0));
      by_index = off-forward t w e a.0 (c.region-from.ensures) u;
    }

pub returns : goal.returns
returns c =
    let a = c.requires.place_bound in
    let e = c.last_region-last.ensures in
    λ s. changed c.requires.chainable c.requires.chains_whole e a.0 (c.region-from.ensures) c.unlink.ensures s a.1 (omega (arith, e, a.2)) c.link.ensures

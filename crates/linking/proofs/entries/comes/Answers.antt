-- A place is made, and the entry there is taken into the chain of its region.
use Rattle.std.proofs.Common.{arith}
use Rattle.linking.specs.EntryChains.{room, words_small, open-forward, came}
use Rattle.linking.proofs.entries.comes.Goals as goal

pub open_place-requires : goal.open_place-requires
open_place-requires c =
    let t = c.requires.chainable in
    let w = c.requires.chains_whole in
    let a = c.requires.place_bound in
    let e = c.last_region-last.ensures in
    let x = c.used-used.ensures in record {
      place_le_used = (omega (arith, x, a.0), omega (arith, room t w e, x, a.1));
      by_index = words_small t w e x;
    }

pub link-requires : goal.link-requires
link-requires c =
    let t = c.requires.chainable in
    let w = c.requires.chains_whole in
    let a = c.requires.place_bound in
    let e = c.last_region-last.ensures in
    let x = c.used-used.ensures in
    let o = c.open_place.ensures in record {
      le_region = (a.2, omega (arith, e, a.3), omega (arith, room t w e, o.long, a.0, a.1), omega (arith, t.entries, a.0, a.1));
      by_index = open-forward t w e x a.0 a.1 a.2 (omega (arith, e, a.3)) o;
    }

pub returns : goal.returns
returns c =
    let t = c.requires.chainable in
    let w = c.requires.chains_whole in
    let a = c.requires.place_bound in
    let e = c.last_region-last.ensures in
    let x = c.used-used.ensures in
    λ s. came t w e x a.0 a.1 a.2 (omega (arith, e, a.3)) c.open_place.ensures s c.link.ensures

-- Nothing, one entry more, one less, or another region; or there is no room. The chains follow.
use Rattle.std.proofs.Common.{◌<◌, arith, refl}
use Rattle.layout.specs.Places.{entries_used}
use Rattle.remember.specs.Remembering.{place-low, place-used, entry-comes, entry-changes, entry-goes}
use Rattle.linking.specs.EntryChains.{table-came, table-went, table-changed}
use Rattle.linking.proofs.entries.remember_slot.Goals as goal
use Rattle.linking.proofs.entries.remember_slot.Goals.{Else-entries-used}

-- there is room for one more
room : (c : goal.Else-entries-used) → (let a = c.args in entries_used a.remember.now < a.p.entries)
room c = omega (arith, c.if-entries-used.false, c.used.ensures)

pub comes-requires : goal.comes-requires
comes-requires c =
    record {
      chainable = c.requires.chainable;
      chains_whole = c.requires.chained;
      place_bound = (
        place-low c.requires.table c.args.at c.find_entry-place.ensures,
        room (goal.at.comes-requires c).Else-entries-used,
        omega (arith, c.if-was-will.false, c.if-was-eq0.true),
        omega (arith, c.requires.at_bound.1),
      );
    }

pub insert_entry-requires : goal.insert_entry-requires
insert_entry-requires c = record {
  table = c.requires.table;
  entries_bound = (omega (arith, c.requires.chainable.entries), place-low c.requires.table c.args.at c.find_entry-place.ensures, room (goal.at.insert_entry-requires c).Else-entries-used);
}

pub returns-then-was-eq0 : goal.returns-then-was-eq0
returns-then-was-eq0 c =
    let at = c.args.at in
    let find = c.find_entry-place.ensures in
    let absent = c.if-was-eq0.true in
    let more = room (goal.at.returns-then-was-eq0 c).Else-entries-used in record {
      remembered = entry-comes c.requires.table at find (omega (arith, c.if-was-will.false, absent)) more (c.requires.new absent) c.insert_entry.ensures;
      chains_after = table-came c.args.p _ _ c.requires.table _ _ _ refl (place-low c.requires.table at find) more c.insert_entry.ensures c.comes.ensures;
    }

pub goes-requires : goal.goes-requires
goes-requires c =
    let n = c.requires.named (omega (arith, c.if-was-eq0.false)) in record {
      chainable = c.requires.chainable;
      chains_whole = c.requires.chained;
      place_bound = place-used c.requires.table c.args.at c.find_entry-place-2.ensures n.0 n.1 n.2;
    }

pub remove_entry-requires : goal.remove_entry-requires
remove_entry-requires c =
    let n = c.requires.named (omega (arith, c.if-was-eq0.false)) in record {
      table = c.requires.table;
      entries_bound = (omega (arith, c.requires.chainable.entries), place-used c.requires.table c.args.at c.find_entry-place-2.ensures n.0 n.1 n.2);
    }

pub returns-then-will-eq0 : goal.returns-then-will-eq0
returns-then-will-eq0 c =
    let at = c.args.at in
    let find = c.find_entry-place-2.ensures in
    let n = c.requires.named (omega (arith, c.if-was-eq0.false)) in record {
      remembered = entry-goes c.requires.table at find n.0 n.1 n.2 c.if-will-eq0.true c.remove_entry.ensures;
      chains_after = table-went c.args.p _ _ c.requires.table _ (place-used c.requires.table at find n.0 n.1 n.2) c.remove_entry.ensures c.goes.ensures;
    }

pub changes-requires : goal.changes-requires
changes-requires c =
    let n = c.requires.named (omega (arith, c.if-was-eq0.false)) in record {
      chainable = c.requires.chainable;
      chains_whole = c.requires.chained;
      place_bound = (place-used c.requires.table c.args.at c.find_entry-place-2.ensures n.0 n.1 n.2, omega (arith, c.if-will-eq0.false), omega (arith, c.requires.at_bound.1));
    }

pub set_region-requires : goal.set_region-requires
set_region-requires c =
    let n = c.requires.named (omega (arith, c.if-was-eq0.false)) in record {
      entries_in_bounds = c.requires.table.long;
      i_lt_entries = omega (arith, place-used c.requires.table c.args.at c.find_entry-place-2.ensures n.0 n.1 n.2, c.requires.table.room);
    }

pub returns : goal.returns
returns c =
    let at = c.args.at in
    let find = c.find_entry-place-2.ensures in
    let n = c.requires.named (omega (arith, c.if-was-eq0.false)) in record {
      remembered = entry-changes c.requires.table at find n.0 n.1 n.2 (omega (arith, c.if-will-eq0.false)) c.set_region.ensures;
      chains_after = table-changed c.args.p _ _ c.requires.table _ _ refl (place-used c.requires.table at find n.0 n.1 n.2) c.set_region.ensures c.changes.ensures;
    }

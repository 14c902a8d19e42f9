-- Both columns are raised, and the entry stored in the gap.
use Rattle.remember.specs.EntryEdits.{inserts}
use Rattle.remember.proofs.entries.insert_entry.Goals as goal

pub returns : goal.returns
returns c =
    let a = c.args in
    inserts c.requires.table a.at a.region a.place c.used-used.result c.used-used.ensures c.requires.entries_bound.1 c.requires.entries_bound.2
    c.raise.ensures c.raise-2.ensures c.put_entry.ensures c.set_used.ensures

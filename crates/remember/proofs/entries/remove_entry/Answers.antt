-- Both columns are lowered, and the last entry cleared.
use Rattle.remember.specs.EntryEdits.{removes}
use Rattle.remember.proofs.entries.remove_entry.Goals as goal

pub returns : goal.returns
returns c =
    removes c.requires.table c.args.place c.used-used.result c.used-used.ensures c.requires.entries_bound.1
    c.lower.ensures c.lower-2.ensures c.put_entry.ensures c.set_used.ensures

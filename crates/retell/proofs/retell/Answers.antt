-- The entries of all crossing slots come first, then zeros up to where entries were used; from there on they were zero.
use Rattle.retell.specs.Retelling.{told-exact}
use Rattle.retell.proofs.retell.Goals as goal

pub returns-clause-exact : goal.returns-clause-exact
returns-clause-exact c = (told-exact c.tell_pages-all.ensures c.close_entries.ensures c.used-used.ensures c.requires.remember_bound.0 c.requires.remember_bound.1 c.requires.entries_in_bounds).0

-- The words are those of the chains of the entries from place i on.
use Rattle.remember.specs.Table.{entries_in}
use Rattle.chains.proofs.Linking.{Linked}
use Rattle.chains.proofs.relink.Given as goal

abbrev pub invariant-loop-i : goal.invariant-loop-i
invariant-loop-i l =
    Linked l.last l.entries (entries_in l.entries l.remember) l.i l.initial.chains l.chains

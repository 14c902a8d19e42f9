-- `first` has the first words of the entries from place i on, whose next words are right.
use Rattle.std.proofs.Common.{ℕ, ◌+◌, ◌≤◌, ◌<◌, ◌≡◌, length, get_or}
use Rattle.remember.specs.Table.{entries_in}
use Rattle.chains.specs.Firsts.{next_of}
use Rattle.chains.specs.Linking.{Firsts}
use Rattle.chains.proofs.first_words.Given as goal

abbrev pub invariant-loop-i : goal.invariant-loop-i
invariant-loop-i l =
    (length l.first ≡ 129) × Firsts l.last (entries_in l.entries l.remember) l.i l.first
    × ((j : ℕ) → l.i ≤ j → j < length (entries_in l.entries l.remember) → get_or l.chains (l.last + j) 0 ≡ next_of (entries_in l.entries l.remember) j)

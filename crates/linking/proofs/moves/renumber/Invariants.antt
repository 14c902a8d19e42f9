-- The words passed have their numbers; the others are as they were.
use Rattle.std.proofs.Common.{ℕ, ◌≤◌, ◌<◌, ◌≡◌, get_or}
use Rattle.linking.proofs.moves.renumber.Given as goal

abbrev pub invariant-loop-word : goal.invariant-loop-word
invariant-loop-word g l = record {
  passed : (j : ℕ) → j < l.word-index → goal.F-post g l.number (get_or l.initial.word-items j 0) (get_or l.word-items j 0);
  others : (j : ℕ) → l.word-index ≤ j → get_or l.word-items j 0 ≡ get_or l.initial.word-items j 0;
}

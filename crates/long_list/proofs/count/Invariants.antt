-- n counts the answers passed that have the number and the value.
use Rattle.std.proofs.Common.{◌≤◌, ◌≡◌}
use Rattle.lists.specs.Counting.{bit, sum}
use Rattle.long_list.specs.Repeated.{is_answer}
use Rattle.long_list.proofs.count.Given as goal

abbrev pub invariant-loop-i : goal.invariant-loop-i
invariant-loop-i l = (l.n ≡ sum (λ k. bit (is_answer l.answers l.number l.value k)) l.i) × (l.n ≤ l.i)

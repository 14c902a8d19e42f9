-- `script::blocks::put_answers` meets its contract. The loop's invariant: the lines of the first `i` answers are put, and each took 22 bytes at most.
use Rattle.std.proofs.Common.{◌+◌, ◌*◌, ◌≤◌}
use Rattle.script.specs.Writing.{Put}
use Rattle.script.specs.Blocks.{stacked, answer_line}
use Rattle.script.proofs.blocks.put_answers.Given as goal

abbrev pub invariant-loop-i : goal.invariant-loop-i
invariant-loop-i l = (l.end ≤ l.at + 22 * l.i) × Put l.initial.out l.at (stacked (answer_line l.answers) l.i) l.out l.end

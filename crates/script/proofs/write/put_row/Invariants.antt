-- `script::write::put_row` meets its contract. The loop's invariant: the numbers so far are put, each with a space behind it, and took eleven bytes at most.
use Rattle.std.proofs.Common.{◌+◌, ◌*◌, ◌≤◌, take}
use Rattle.script.specs.Writing.{Put}
use Rattle.script.proofs.WritingLaws.{spaced_row}
use Rattle.script.proofs.write.put_row.Given as goal

abbrev pub invariant-loop-x : goal.invariant-loop-x
invariant-loop-x l = record {
  low : l.end ≤ l.at + 11 * l.x-index;
  put : Put l.initial.out l.at (spaced_row (take l.x-index l.numbers)) l.out l.end;
}

-- `script::read::read_line` meets its contract. The loop's invariant: what is left from `at` on, for the reader as it is, brings what the whole would.
use Rattle.std.proofs.Common.{◌≡◌, drop}
use Rattle.script.specs.Reading.{scanned}
use Rattle.script.proofs.read.read_line.Given as goal

abbrev pub invariant-loop-at : goal.invariant-loop-at
invariant-loop-at l = scanned l.reader (drop l.at l.text) l.at ≡ scanned l.initial.reader (drop l.from l.text) l.from

-- The loop's invariant: the first `k` rows are put, and each took 44 bytes at most.
use Rattle.std.proofs.Common.{◌+◌, ◌*◌, ◌≤◌, take}
use Rattle.report.specs.Tables.{rows_in}
use Rattle.script.specs.Writing.{Put}
use Rattle.printed.specs.Printed.{rows_text}
use Rattle.lines.proofs.put_rows.Given as goal

abbrev pub invariant-loop-k : goal.invariant-loop-k
invariant-loop-k l = (l.end ≤ l.at + 44 * l.k) × Put l.initial.out l.at (rows_text (take l.k (rows_in l.p l.tables))) l.out l.end

-- The loop's invariant: the program is where the machine is that was fed all pieces so far, as many bytes as these have were read, as many as
-- it printed for them were handed to the write, a turn reads and prints no more than the buffers hold, and every turn has read a byte at least.
use Rattle.std.proofs.Common.{◌+◌, ◌*◌, ◌≤◌}
use Rattle.lines.specs.Held.{held}
use Rattle.stages.specs.Stages.{line_of}
use Rattle.stream.specs.Turns.{Buffers}
use Rattle.stream.specs.Going.{FedSoFar}
use Rattle.stream.proofs.go_on.Given as goal

abbrev pub invariant-loop : goal.invariant-loop
invariant-loop g l = record {
  buffers : Buffers l.text l.out;
  fed : FedSoFar l.stage (held l.memory) l.read l.printed;
  line : line_of l.stage ≤ 16384 * l.counter + 1;
  read : l.read ≤ 16384 * l.counter;
  printed : l.printed ≤ 36084 * l.counter;
  turned : l.counter ≤ l.read;
}

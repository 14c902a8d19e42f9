-- The block was run so many times, and n counts the answers of these runs.
use Rattle.std.proofs.Common.{◌≤◌, ◌*◌}
use Rattle.promises.specs.Slices.{slices}
use Rattle.long_list.specs.Repeated.{Repeated}
use Rattle.long_list.proofs.run_all.Given as goal

abbrev pub invariant-loop : goal.invariant-loop
invariant-loop l = record {
  repeated : Repeated l.block l.number l.value (slices l.initial.cells l.initial.remember l.initial.tables l.initial.chains) l.initial.answers l.counter (slices l.cells l.remember l.tables l.chains) l.answers l.n;
  few : l.n ≤ 3000 * l.counter;
}

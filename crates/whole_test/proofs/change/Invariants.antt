-- The changes that came were made, and the others are left.
use Rattle.std.proofs.Common.{◌≡◌, ◌*◌, ◌≤◌, length, drop}
use Rattle.std.specs.Slice.Iter.{chunks_exact_rest, chunks_exact_size}
use Rattle.whole_test.specs.Changed.{changed}
use Rattle.whole_test.proofs.change.Given as goal

abbrev pub invariant-loop-pair : goal.invariant-loop-pair
invariant-loop-pair l = record {
  size : chunks_exact_size l.pair-iterator ≡ 2;
  within : 2 * length l.yielded ≤ length l.changes;
  rest : chunks_exact_rest l.pair-iterator ≡ drop (2 * length l.yielded) l.changes;
  done : l.words ≡ changed l.initial.words l.changes (length l.yielded);
}

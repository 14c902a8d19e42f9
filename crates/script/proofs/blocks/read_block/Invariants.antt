-- `script::blocks::read_block` meets its contract. The loop's invariant: what is left from `at` on brings, to the block as it is, what the whole would, and there is room for a command.
use Rattle.std.proofs.Common.{◌+◌, ◌≤◌, ◌≡◌, length, drop}
use Rattle.script.specs.Blocks.{filled}
use Rattle.script.proofs.blocks.read_block.Given as goal

abbrev pub invariant-loop-at : goal.invariant-loop-at
invariant-loop-at l = (filled l.reader (drop l.at l.text) l.at l.block l.n ≡ filled l.initial.reader (drop l.from l.text) l.from l.initial.block l.used) × (l.n + 5 ≤ length l.block)

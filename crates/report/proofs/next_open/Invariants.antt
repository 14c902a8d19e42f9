-- No region passed is open.
use Rattle.layout.specs.Words.{depths_at}
use Rattle.report.specs.Opened.{NoneOpen}
use Rattle.report.proofs.next_open.Given as goal

abbrev pub invariant-loop-next : goal.invariant-loop-next
invariant-loop-next l = NoneOpen l.p (depths_at l.p l.tables) l.region l.next

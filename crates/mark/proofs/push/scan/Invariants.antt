-- What the first f slots name is pushed. The slots are read where other cells' links were written, and pushes keep them.
use Rattle.std.proofs.Common.{◌≡◌, length}
use Rattle.layout.specs.Cells.{field_of}
use Rattle.mark.specs.Pushes.{Pushing}
use Rattle.mark.proofs.push.scan.Given as goal

abbrev pub invariant-loop-f : goal.invariant-loop-f
invariant-loop-f l =
    (length l.cells ≡ length l.initial.cells) × (length l.tables ≡ length l.initial.tables)
    × Pushing l.p l.r (field_of l.initial.cells l.c) l.initial.cells l.initial.tables l.top l.cells l.tables l.t l.f

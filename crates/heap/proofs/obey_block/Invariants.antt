-- The first i commands were obeyed, each with its answer written.
use Rattle.std.proofs.Common.{◌≡◌, length}
use Rattle.promises.specs.Slices.{slices}
use Rattle.pages.specs.Noted.{note_words, Noted}
use Rattle.heap.specs.Running.{Turning}
use Rattle.heap.proofs.obey_block.Given as goal

abbrev pub invariant-loop-i : goal.invariant-loop-i
invariant-loop-i l =
    Turning l.p (slices l.initial.cells l.initial.remember l.initial.tables l.initial.chains) l.block l.initial.answers l.cells l.remember l.tables l.chains l.answers l.i × (length l.notes ≡ note_words) × Noted l.p l.tables l.notes

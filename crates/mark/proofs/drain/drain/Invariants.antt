-- Popped cells are done: marked, with g in word 1, and what they name is marked. No cell is popped twice, so the turns are few.
use Rattle.std.proofs.Common.{◌≡◌, List, ℕ, ◌+◌, ◌-◌, length}
use Rattle.layout.specs.Words.{cell_count}
use Rattle.mark.specs.Draining.{Pending, Draining}
use Rattle.mark.proofs.drain.drain.Given as goal

abbrev pub invariant-loop-t : goal.invariant-loop-t
invariant-loop-t l =
    (length l.cells ≡ length l.initial.cells) × (length l.tables ≡ length l.initial.tables)
    × ((W T S : List ℕ) → Pending l.p l.r l.g W T S l.initial.cells l.initial.tables l.top → (S' : List ℕ) × Draining l.p l.r l.g W T S S' l.cells l.tables l.t l.count)

abbrev pub decreases-loop-t : goal.decreases-loop-t
decreases-loop-t l =
    cell_count l.p + 1 - l.count

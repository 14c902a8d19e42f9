-- What the first i variables hold for g is pushed.
use Rattle.std.proofs.Common.{◌≡◌, length}
use Rattle.mark.specs.Pushes.{Pushing}
use Rattle.mark.specs.Holders.{var_held}
use Rattle.mark.proofs.holders.push_variables.Given as goal

abbrev pub invariant-loop-i : goal.invariant-loop-i
invariant-loop-i l =
    (length l.cells ≡ length l.initial.cells) × (length l.tables ≡ length l.initial.tables)
    × Pushing l.p l.r (var_held l.p l.initial.tables l.thread l.outer l.g) l.initial.cells l.initial.tables l.top l.cells l.tables l.t l.i

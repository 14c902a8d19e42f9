-- What the slots of the entries before a place hold for g is pushed, and x leads to the first entry of r from there on.
use Rattle.std.proofs.Common.{◌≡◌, length}
use Rattle.chains.proofs.Walking.{ahead}
use Rattle.mark.specs.Along.{Along}
use Rattle.mark.proofs.holders.push_slots.Given as goal

abbrev pub invariant-loop-x : goal.invariant-loop-x
invariant-loop-x l =
    (length l.cells ≡ length l.initial.cells) × (length l.tables ≡ length l.initial.tables) × Along l.p l.r l.g l.remember l.initial.cells l.initial.tables l.top l.cells l.tables l.t l.x

abbrev pub decreases-loop-x : goal.decreases-loop-x
decreases-loop-x l = ahead l.remember l.x

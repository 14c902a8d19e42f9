-- Along the chain: x leads to the first entry of the region from a place on, and the slots of its entries before that place are rewritten.
use Rattle.chains.proofs.Walking.{ahead}
use Rattle.settle.specs.RewriteSlots.{Along}
use Rattle.settle.proofs.rewrite.rewrite_slots.Given as goal

abbrev pub invariant-loop-x : goal.invariant-loop-x
invariant-loop-x l =
    Along l.region l.entries l.remember l.x l.initial.cells l.cells

abbrev pub decreases-loop-x : goal.decreases-loop-x
decreases-loop-x l =
    ahead l.remember l.x

-- x is where the walk along the chain of r has come to, n how many of the entries before it go.
use Rattle.chains.proofs.Walking.{ahead}
use Rattle.census.specs.Going.{Walked}
use Rattle.census.proofs.crossing.gone_entries.Given as goal

abbrev pub invariant-loop-x : goal.invariant-loop-x
invariant-loop-x l = Walked l.p l.cells l.remember l.tables l.r l.x l.n

abbrev pub decreases-loop-x : goal.decreases-loop-x
decreases-loop-x l = ahead l.remember l.x

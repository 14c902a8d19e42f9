-- By whether the word names an entry from the place on.
use Rattle.std.proofs.Common.{sym}
use Rattle.linking.specs.Shifting.{raised-more, raised-same}
use Rattle.linking.proofs.moves.number_up.Goals as goal

pub returns-then-place-x : goal.returns-then-place-x
returns-then-place-x c = sym (raised-more _ _ c.if-place-x.true)

pub returns-else-place-x : goal.returns-else-place-x
returns-else-place-x c = sym (raised-same _ _ c.if-place-x.false)

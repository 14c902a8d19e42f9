-- By whether the word names an entry after the place.
use Rattle.std.proofs.Common.{sym}
use Rattle.linking.specs.Shifting.{lowered-less, lowered-same}
use Rattle.linking.proofs.moves.number_down.Goals as goal

pub returns-then-place-x : goal.returns-then-place-x
returns-then-place-x c = sym (lowered-less _ _ c.if-place-x.true)

pub returns-else-place-x : goal.returns-else-place-x
returns-else-place-x c = sym (lowered-same _ _ c.if-place-x.false)

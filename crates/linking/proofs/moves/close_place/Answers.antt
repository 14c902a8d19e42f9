-- The words before the place are renumbered, then those after it move.
use Rattle.std.proofs.Common.{arith, rules, refl}
use Rattle.linking.specs.Moving.{renumbered-part, closes}
use Rattle.linking.proofs.moves.close_place.Goals as goal

pub returns : goal.returns
returns c =
    closes c.requires.0 c.requires.1
    (renumbered-part _ _ _ _ (omega arith) (search rules) (λ j l. let p = c.renumber.ensures j l in search rules))
    c.move_down.ensures refl

-- The words from the place on move, then those before it are renumbered.
use Rattle.std.proofs.Common.{arith, rules, refl, length-set}
use Rattle.linking.specs.Moving.{renumbered-part, opens}
use Rattle.linking.proofs.moves.open_place.Goals as goal

pub returns : goal.returns
returns c =
    opens c.requires.place_le_used.0 c.requires.place_le_used.1 c.move_up.ensures refl
    (renumbered-part _ _ _ _ (simp length-set (omega (arith, c.move_up.ensures.long))) (search rules) (λ j l. let p = c.renumber.ensures j l in search rules))

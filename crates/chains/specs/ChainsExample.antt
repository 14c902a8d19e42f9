-- The chains of a table of three entries, with room for four.
use Rattle.std.specs.Prelude.{List, [], ◌∷◌, ◌≡◌, refl}
use Rattle.lists.specs.Listed.{listed}
use Rattle.remember.specs.Table.{Entry, entry}
use Rattle.chains.specs.Chains.{first_of, nexts_of, chains_of, places_of, followed}

abbrev three : List Entry
three = entry 20 3 ∷ entry 50 2 ∷ entry 60 3 ∷ []

-- the first entry of region 3 is at place 0, the next at place 2; the control space has none
chained : chains_of 3 4 three ≡ 0 ∷ 2 ∷ 1 ∷ 3 ∷ 0 ∷ 0 ∷ 0 ∷ []
unfolding chains_of first_of nexts_of listed
chained = refl

led-to : followed 3 (chains_of 3 4 three) 3 1 ≡ 0 ∷ 2 ∷ []
unfolding chains_of first_of nexts_of listed
led-to = refl

places : places_of 3 0 three ≡ 0 ∷ 2 ∷ []
unfolding places_of
places = refl

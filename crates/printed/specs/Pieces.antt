-- The machine that is fed an input piece by piece prints what `printed` says of the whole input, however it is cut.
use Rattle.std.specs.Prelude.{ℕ, Bool, true, false, cond, ◌≡◌}
use mathlib.Core.List.{List, [], ◌∷◌, ◌++◌, append_assoc, flatten}
use Rattle.std.proofs.Math.Path.{refl, sym, ap}
use Rattle.std.proofs.Common.{ap₂, ◌∙◌}
use Rattle.script.specs.Text.{Line}
use Rattle.script.specs.declared.Reader.{Reader}
use Rattle.std.specs.Prelude.{None, Some}
use Rattle.script.specs.Reading.{started, end_of, step_of, fresh, last_of}
use Rattle.script.specs.TextLaws.{lastly, found, left, piecewise, reads-pieces}
use Rattle.printed.specs.Printed.{Session, opening, takes, prints, takes_all, prints_all, ends_with, printed, stopped}

-- ---- some lines, and then others

module _ (ks : List Line) where
  pub takes-append : (ls : List Line) (x : Session) → takes_all x (ls ++ ks) ≡ takes_all (takes_all x ls) ks
  unfolding takes_all
  takes-append [] x = refl
  takes-append (l ∷ ls) x = takes-append ls (takes x l)

  pub prints-append : (ls : List Line) (x : Session) → prints_all x (ls ++ ks) ≡ prints_all x ls ++ prints_all (takes_all x ls) ks
  unfolding takes_all prints_all
  prints-append [] x = refl
  prints-append (l ∷ ls) x =
      ap (λ (t : List ℕ). prints x l ++ t) (prints-append ls (takes x l)) ∙ sym (append_assoc (prints x l) (prints_all (takes x l) ls) (prints_all (takes_all (takes x l) ls) ks))

-- a session that is stopped stays so
pub stopped-takes : (ls : List Line) → takes_all stopped ls ≡ stopped
unfolding takes_all takes
stopped-takes [] = refl
stopped-takes (l ∷ ls) = stopped-takes ls

pub stopped-prints : (ls : List Line) → prints_all stopped ls ≡ []
unfolding prints_all prints takes
stopped-prints [] = refl
stopped-prints (l ∷ ls) = stopped-prints ls

-- ---- the machine

-- a session and the reader of the line that has begun
pub record Machine : Type 0 where
  pub reader : Reader
  pub session : Session

-- a piece of the input takes the machine on, and it prints
unfoldable pub feed : Machine → List ℕ → Machine
feed m bytes = record { reader = left m.reader bytes; session = takes_all m.session (found m.reader bytes) }

unfoldable pub feed_prints : Machine → List ℕ → List ℕ
feed_prints m bytes = prints_all m.session (found m.reader bytes)

-- at the end of the input a line that has begun ends, as with a line feed
abbrev pub missing : Machine → List ℕ
missing m = cond (fresh m.reader) [] (10 ∷ [])

unfoldable pub close_prints : Machine → List ℕ
close_prints m = feed_prints m (missing m) ++ ends_with (feed m (missing m)).session

-- all that it prints, from some state on, for the pieces that follow
unfoldable pub prints_pieces : Machine → List (List ℕ) → List ℕ
prints_pieces m [] = close_prints m
prints_pieces m (x ∷ xs) = feed_prints m x ++ prints_pieces (feed m x) xs

abbrev pub machine : Reader → Session → Machine
machine r x = record { reader = r; session = x }

-- where it starts
abbrev pub first : Machine
first = machine started opening

-- ---- however the input is cut

-- what the lines ls print, from x on, to the end
abbrev whole : Session → List Line → List ℕ
whole x ls = prints_all x ls ++ ends_with (takes_all x ls)

whole_append : (x : Session) (ls ks : List Line) → whole x (ls ++ ks) ≡ prints_all x ls ++ whole (takes_all x ls) ks
whole_append x ls ks =
    ap₂ (λ (t : List ℕ) (y : Session). t ++ ends_with y) (prints-append ks ls x) (takes-append ks ls x)
    ∙ append_assoc (prints_all x ls) (prints_all (takes_all x ls) ks) (ends_with (takes_all (takes_all x ls) ks))

close-whole : (m : Machine) → close_prints m ≡ whole m.session (lastly (last_of m.reader))
unfolding close_prints feed_prints feed last_of found left step_of
close-whole m = go (fresh m.reader)
  where
    go : (t : Bool) → (prints_all m.session (found m.reader (cond t [] (10 ∷ []))) ++ ends_with (takes_all m.session (found m.reader (cond t [] (10 ∷ [])))))
        ≡ whole m.session (lastly (cond t None (Some (end_of m.reader))))
    go true = refl
    go false = refl

pieces_whole : (pieces : List (List ℕ)) (m : Machine) → prints_pieces m pieces ≡ whole m.session (piecewise m.reader pieces)
unfolding prints_pieces feed_prints feed piecewise
pieces_whole [] m = close-whole m
pieces_whole (x ∷ xs) m =
    ap (λ (t : List ℕ). feed_prints m x ++ t) (pieces_whole xs (feed m x))
    ∙ sym (whole_append m.session (found m.reader x) (piecewise (left m.reader x) xs))

-- For every cut of an input into pieces the machine prints what `printed` says of the input.
pub prints-all : (pieces : List (List ℕ)) → prints_pieces first pieces ≡ printed (flatten pieces)
unfolding printed
prints-all pieces = pieces_whole pieces first ∙ ap (whole opening) (reads-pieces pieces)

-- What becomes of the slices over several lines.
use Rattle.std.specs.Prelude.{refl, List, [], ◌∷◌, ◌++◌}
use Rattle.std.proofs.Common.{subst}
use Rattle.promises.specs.Slices.{Slices}
use Rattle.script.specs.Text.{Line}
use Rattle.printed.specs.Printed.{Session, stopped, takes, takes_all}
use Rattle.lines.specs.Lines.{LineChanges, LinesChange}

-- the slices after some lines, and then after others
pub changes-append : (ls ks : List Line) (x : Session) (l v l' : Slices) → LinesChange x ls l v → LinesChange (takes_all x ls) ks v l' → LinesChange x (ls ++ ks) l l'
unfolding LinesChange takes_all
changes-append [] ks x l v l' e c = subst (λ (u : Slices). LinesChange x ks u l') e c
changes-append (line ∷ ls) ks x l v l' e c = (e.0, e.1, changes-append ls ks (takes x line) e.0 v l' e.2 c)

-- a stopped program changes none
pub changes-stopped : (ls : List Line) (l : Slices) → LinesChange stopped ls l l
unfolding LinesChange LineChanges takes
changes-stopped [] l = refl
changes-stopped (line ∷ ls) l = (l, refl, changes-stopped ls l)

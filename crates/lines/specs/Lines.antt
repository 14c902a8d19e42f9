-- What a line does to the lent slices, and what each step of the code promises of it.
use Rattle.std.specs.Prelude.{ℕ, ◌≡◌, List, [], ◌∷◌, Bool, true, false, length}
use Rattle.rules.specs.declared.Sizes.{Sizes}
use Rattle.rules.specs.Rules as ru
use Rattle.rules.specs.Rules.{Regioned}
use Rattle.chains.specs.Chains.{ChainsWhole, with_chains}
use Rattle.promises.specs.Slices.{Slices}
use Rattle.promises.specs.StandsFor.{StandsFor}
use Rattle.promises.specs.Promises.{Did, Unused}
use Rattle.script.specs.Text.{Line}
use Rattle.std.specs.Prelude.{Ok, Err}
use Rattle.printed.specs.Printed.{sizes_of, command_of, accepted, Session, opening, running, stopped, takes}

-- ---- the lent slices

-- the four slices are as long as 32 pages and 1,024 remember entries want them, and no longer
pub record Lent (l : Slices) : Type 0 where
  pub cells : length l.words.cells ≡ 8192
  pub remember : length l.words.remember ≡ 2050
  pub tables : length l.words.tables ≡ 760
  pub chains : length l.chains ≡ 1153

-- the words stand for a heap, and the chains are those of their remember table
pub record Here (l : Slices) : Type 0 where
  pub sizes : Sizes
  pub heap : Regioned
  pub cell : ℕ → ℕ
  pub stands : StandsFor sizes l.words heap cell
  pub chains : ChainsWhole sizes l.words.remember l.chains

unfoldable pub Holds : Session → Slices → Type 0
Holds opening l = Unit {0}
Holds (running s h k) l = (cell_of : ℕ → ℕ) × StandsFor s l.words h cell_of × ChainsWhole s l.words.remember l.chains
Holds stopped l = Unit {0}

-- ---- what becomes of the slices

-- the sizes were accepted and the tables prepared, or no word changed
unfoldable pub Prepares : Bool → Sizes → Slices → Slices → Type 0
Prepares true s l l' = Unused s l l'
Prepares false s l l' = l' ≡ l

-- a line changed the slices l to l': sizes that are accepted prepare them, a command does what it promises and the chains become those of the
-- remember table, any other line changes none
unfoldable pub LineChanges : Session → Line → Slices → Slices → Type 0
LineChanges opening (Ok ns) l l' = Prepares (accepted (sizes_of ns)) (sizes_of ns) l l'
LineChanges opening (Err e) l l' = l' ≡ l
LineChanges (running s h k) (Ok ns) l l' =
    Did s l.words (command_of ns) l'.words (ru.step s h (command_of ns)).answer
    × (l'.chains ≡ with_chains s l'.words.remember l.chains)
LineChanges (running s h k) (Err e) l l' = l' ≡ l
LineChanges stopped line l l' = l' ≡ l

unfoldable pub LinesChange : Session → List Line → Slices → Slices → Type 0
LinesChange x [] l l' = l' ≡ l
LinesChange x (line ∷ lines) l l' = (between : Slices) × LineChanges x line l between × LinesChange (takes x line) lines between l'

-- ---- the first line

-- it has sizes that are accepted
abbrev pub begins : Line → Bool
begins (Ok ns) = accepted (sizes_of ns)
begins (Err e) = false

-- the tables were prepared if so
pub record Begun (line : Line) (l : Slices) (r : Bool) (l' : Slices) : Type 0 where
  pub told : r ≡ begins line
  pub lent : Lent l'
  pub holds : Holds (takes opening line) l'
  pub changes : LineChanges opening line l l'

-- A block of commands and its answers: what the code promises of them.
use Rattle.std.specs.Prelude.{ℕ, ◌*◌, ◌/◌, ◌%◌, ◌≤◌, ◌≡◌, List, [], ◌∷◌, ◌++◌, map, length}
use Rattle.rules.specs.declared.Sizes.{Sizes}
use Rattle.rules.specs.declared.Command.{Command}
use Rattle.rules.specs.declared.Answer.{Answer}
use Rattle.rules.specs.Rules as ru
use Rattle.rules.specs.Rules.{Regioned}
use Rattle.chains.specs.Chains.{ChainsWhole}
use Rattle.promises.specs.Slices.{Slices}
use Rattle.promises.specs.StandsFor.{StandsFor}
use Rattle.promises.specs.Promises.{commands_in}
use Rattle.script.specs.Text.{Line, numbers}
use Rattle.script.specs.Writing.{Put}
use Rattle.printed.specs.Printed.{running, answer_text}
use Rattle.lines.specs.Lines.{Lent, LinesChange}

-- so many words are whole commands, and there is room for their answers
pub record Counted (used : ℕ) (block out : List ℕ) : Type 0 where
  pub even : used % 5 ≡ 0
  pub words : used ≤ length block
  pub few : used / 5 ≤ 1639
  pub text-room : 22 * (used / 5) ≤ length out

abbrev pub as_line : Command → Line
as_line m = numbers m.code m.thread m.a m.b m.c

unfoldable pub answers_text : List Answer → List ℕ
answers_text [] = []
answers_text (a ∷ as') = answer_text a ++ answers_text as'

-- the commands of a block were obeyed, from the heap h on, and their answers written
pub record Answered (s : Sizes) (h : Regioned) (block : List ℕ) (l : Slices) (out : List ℕ) (end : ℕ) (after : List ℕ) (l' : Slices) : Type 0 where
  pub text : Put out 0 (answers_text (ru.run s h (commands_in block)).answers) after end
  pub cell : ℕ → ℕ
  pub stands : StandsFor s l'.words (ru.run s h (commands_in block)).last cell
  pub chains : ChainsWhole s l'.words.remember l'.chains
  pub lent : Lent l → Lent l'
  pub changes : (line : ℕ) → LinesChange (running s h line) (map as_line (commands_in block)) l l'

-- The promise of one command on three lent slices, said of the decoded command.
use Rattle.std.specs.Prelude.{ℕ, List}
use Rattle.rules.specs.declared.Answer.{Answer}
use Rattle.rules.specs.declared.Sizes.{Sizes}
use Rattle.layout.specs.Words.{words}
use Rattle.promises.specs.Promises.{DidHere}
use Rattle.commands.specs.declared.Decoded.{Decoded}
use Rattle.commands.specs.Decoding.{command_for}

-- command d on the words c, m and t answered r and left c', m' and t'
abbrev pub Does : Sizes → List ℕ → List ℕ → List ℕ → Decoded → List ℕ → List ℕ → List ℕ → Answer → Type 0
Does p c m t d c' m' t' r = DidHere p (words c m t) (command_for d) (words c' m' t') r

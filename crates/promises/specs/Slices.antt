-- What a caller lends (01, "Sizes and tables"; 02, W6): the words of a heap, and the chains of its remember table, which are a function of it.
use Rattle.std.specs.Prelude.{ℕ, List}
use Rattle.layout.specs.Words.{Words, words, sizes_in}
use Rattle.chains.specs.Chains.{ChainsWhole}
use Rattle.promises.specs.Whole.{WholeWords}

pub record Slices : Type 0 where
  pub words : Words
  pub chains : List ℕ

-- four lent slices, as a contract names them
abbrev pub slices : List ℕ → List ℕ → List ℕ → List ℕ → Slices
slices c m t k = record { words = words c m t; chains = k }

-- the tables are whole, and the chains are theirs
pub record WholeSlices (l : Slices) : Type 0 where
  pub words : WholeWords l.words
  pub chains : ChainsWhole (sizes_in l.words) l.words.remember l.chains

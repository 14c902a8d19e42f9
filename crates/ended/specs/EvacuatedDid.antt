-- A thread's depth is one less, the other threads' are as they were.
use Rattle.std.specs.Prelude.{ℕ, ◌<◌, ◌≡◌}
use Rattle.rules.specs.declared.Sizes.{Sizes}
use Rattle.rules.specs.NeverFreeing as nf
use Rattle.rules.specs.Rules as ru
use Rattle.layout.specs.Words.{Words, depth_in}

-- the depth of thread t falls to k, and no other changes
pub record Lowered (s : Sizes) (w : Words) (t k : ℕ) (w' : Words) : Type 0 where
  pub depth : depth_in w' t ≡ k
  pub depths : (u : ℕ) → u < s.threads → (u ≡ t → ⊥) → depth_in w' u ≡ depth_in w u

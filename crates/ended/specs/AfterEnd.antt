-- The heap of the words after an end, as the rules make it.
use Prim.Native.Nat.{ℕ, suc, ◌-◌, ◌<◌}
use native.Mathlib.Omega.{arith}
use Rattle.std.specs.Prelude.{◌≡◌, set}
use Rattle.std.proofs.Math.Path.{ap}
use Rattle.std.proofs.Common.{◌∙◌}
use Rattle.rules.specs.declared.Sizes.{Sizes}
use Rattle.rules.specs.declared.Command.{Command}
use Rattle.rules.specs.NeverFreeing as nf
use Rattle.rules.specs.NeverFreeing.{depth_of}
use Rattle.rules.specs.Regions.{region_at}
use Rattle.rules.specs.Rules as ru
use Rattle.laws.specs.RulesLaws.{region-pos, over}
use Rattle.layout.specs.Words.{Words, depth_in, heap_of}
use Rattle.promises.proofs.Here.{here-depth}

-- the command: code 2 of thread t
abbrev pub end_of : ℕ → Command
end_of t = record { code = 2; thread = t; a = 0; b = 0; c = 0 }

module _ (s : Sizes) (w : Words) (t k : ℕ) (th : t < s.threads) (deep : depth_in w t ≡ suc k) where
  abbrev r : ℕ
  r = region_at s t (suc k)

  abbrev pos : 0 < r
  pos = region-pos s t (suc k)

  pub after-end : ru.after s (heap_of s w) (end_of t) ≡ over s (heap_of s w) r pos (set (heap_of s w).heap.depths t k)
  unfolding ru.after nf.effect ru.homes_after ru.counters_after ru.occupancy_after
  after-end =
      let d : depth_of (heap_of s w).heap t ≡ suc k = here-depth s w t th ∙ deep in
      let less : suc k - 1 ≡ k = omega arith in
      ap (λ (n : ℕ). over s (heap_of s w) (region_at s t n) (region-pos s t n) (set (heap_of s w).heap.depths t (n - 1))) d
      ∙ ap (λ (n : ℕ). over s (heap_of s w) r pos (set (heap_of s w).heap.depths t n)) less

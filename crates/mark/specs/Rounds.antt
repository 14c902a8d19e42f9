-- One level of the marking of an ending region: the holders that call for its region are pushed, then the stack is drained.
use Rattle.std.specs.Prelude.{◌≡◌, ℕ, ◌+◌}
use Rattle.std.proofs.Common.{sym}
use Rattle.std.proofs.Math.Path.{subst, subst₂}
use mathlib.Core.List.{List, ◌++◌}
use Rattle.lists.specs.Listed.{listed_same}
use Rattle.rules.specs.Regions.{region_at}
use Rattle.rules.specs.declared.Sizes.{Sizes}
use Rattle.layout.specs.Places.{entries_used, var_count}
use Rattle.promises.specs.Whole.{IsRef}
use Rattle.mark.specs.Marks.{Shaped, kept_trans, kept-shaped}
use Rattle.mark.specs.Pushes.{Pushing, pushing-kept, pushing-shaped}
use Rattle.mark.specs.Draining.{Pending, Drained, seeded}
use Rattle.mark.specs.Levels.{Levels, levels-next}
use Rattle.mark.specs.Holders.{var_held, slot_held, held_refs, Holding, slot-held-ref, holding-kept, kept-var-held, kept-slot-held}

-- the references that holders of each level of the thread hold
abbrev pub level_refs : Sizes → List ℕ → List ℕ → List ℕ → ℕ → ℕ → ℕ → ℕ → List ℕ
level_refs p W m T r thread outer l = held_refs p W m T r thread outer (region_at p thread l)

-- levels below n are marked; g is the region of level n, as the code has it
module _ {p : Sizes} {r n : ℕ} {W₀ m T₀ W T : List ℕ} (s₀ : Shaped p W₀ T₀) (h₀ : Holding p W₀ m T₀) (thread outer : ℕ)
    (L : Levels p r n (region_at p thread) (level_refs p W₀ m T₀ r thread outer) W₀ T₀ W T) where
  pub round-shaped : Shaped p W T
  round-shaped = kept-shaped L.kept s₀

  pub round-holding : Holding p W m T
  round-holding = holding-kept L.kept s₀.room h₀

  -- also after the variables are pushed
  pub round-slots : {ref : ℕ → ℕ} {W₁ T₁ : List ℕ} {top top' i : ℕ} → Pushing p r ref W T top W₁ T₁ top' i → Shaped p W₁ T₁ × Holding p W₁ m T₁
  round-slots a = (pushing-shaped round-shaped a, holding-kept (pushing-kept round-shaped a) round-shaped.room round-holding)

  module _ (g : ℕ) (e : g ≡ region_at p thread n) where
    -- the holders that call for g are pushed on an empty stack
    pub round-pending : {W₁ T₁ W₂ T₂ : List ℕ} {top top' : ℕ}
        → Pushing p r (var_held p T thread outer g) W T 0 W₁ T₁ top (var_count p)
        → Pushing p r (slot_held p W₁ m T₁ r g) W₁ T₁ top W₂ T₂ top' (entries_used m)
        → Pending p r g W T (held_refs p W₀ m T₀ r thread outer g) W₂ T₂ top'
    unfolding held_refs
    round-pending {W₂ = W₂} {T₂ = T₂} {top' = top'} a b =
        let k = pushing-kept round-shaped a in
        let same = kept-slot-held (kept_trans L.kept k) s₀.room h₀ r g in
        subst₂ (λ (x y : List ℕ). Pending p r g W T (x ++ y) W₂ T₂ top') (listed_same _ _ (var_count p) (kept-var-held L.kept s₀.room h₀ thread outer g)) (listed_same _ _ (entries_used m) same)
        (seeded g _ _ (var_count p) (entries_used m) round-shaped
        (λ i l. subst (IsRef p W T) (sym (kept-slot-held k round-shaped.room round-holding r g i l)) (slot-held-ref round-shaped round-holding r g i l)) a b)

    pub round-levels : {W' T' : List ℕ} {k : ℕ} → Drained p r g W T (held_refs p W₀ m T₀ r thread outer g) W' T' k
        → Levels p r (n + 1) (region_at p thread) (level_refs p W₀ m T₀ r thread outer) W₀ T₀ W' T'
    round-levels {W'} {T'} {k} d =
        levels-next s₀ L
        (subst (λ (z : ℕ). Drained p r z W T (held_refs p W₀ m T₀ r thread outer z) W' T' k) e d)

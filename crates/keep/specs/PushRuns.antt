-- Runs of pushes one after the other, and what is not pushed because it is null.
use Rattle.std.specs.Prelude.{◌≡◌, List, ℕ, zero, suc, ◌+◌, ◌-◌, ◌≤◌, ◌<◌}
use Rattle.std.proofs.Common.{subst, arith}
use Rattle.rules.specs.declared.Sizes.{Sizes}
use Rattle.promises.specs.Whole.{IsRef}
use Rattle.mark.specs.Marks.{Shaped, Pushed, in-use-kept, push-null}
use Rattle.mark.specs.Pushes.{Pushing, Pushing.none, Pushing.more, pushing-kept}

module _ {p : Sizes} {r : ℕ} {ref : ℕ → ℕ} {W T : List ℕ} {top : ℕ} {W' T' : List ℕ} {top' : ℕ} where
  -- the next n references are null
  pub pushing-past : (a n : ℕ) → ((k : ℕ) → a ≤ k → k < a + n → ref k ≡ 0) → Pushing p r ref W T top W' T' top' a → Pushing p r ref W T top W' T' top' (a + n)
  pushing-past a zero z h = subst (Pushing p r ref W T top W' T' top') (let e : a ≡ a + 0 = omega arith in e) h
  pushing-past a (suc n) z h =
      let e : ref (a + n) ≡ 0 = z (a + n) (omega arith) (omega arith) in
      subst (Pushing p r ref W T top W' T' top') (let i : a + n + 1 ≡ a + suc n = omega arith in i)
      (more (pushing-past a n (λ k l m. z k l (omega arith)) h) (λ l. absurd (let y : ⊥ = omega arith in y)) (push-null e))

  -- the next n references are those of another run
  pub pushing-join : {ref' : ℕ → ℕ} {W'' T'' : List ℕ} {top'' n : ℕ} (a : ℕ) → Shaped p W T → Pushing p r ref W T top W' T' top' a
      → ((k : ℕ) → k < n → ref' k ≡ ref (a + k)) → Pushing p r ref' W' T' top' W'' T'' top'' n → Pushing p r ref W T top W'' T'' top'' (a + n)
  pushing-join a s h e none = subst (Pushing p r ref W T top W' T' top') (let i : a ≡ a + 0 = omega arith in i) h
  pushing-join {ref'} {W''} {T''} {top''} a s h e (more {W' = X} {T' = Y} {top' = y} {f = f} i u q) =
      let same : ref' f ≡ ref (a + f) = e f (omega arith) in
      let v : IsRef p W T (ref' f) = λ l. in-use-kept (pushing-kept s h) s.room (ref' f - 1) (u l) in
      subst (Pushing p r ref W T top W'' T'' top'') (let j : a + f + 1 ≡ a + (f + 1) = omega arith in j)
      (more (pushing-join a s h (λ k l. e k (omega arith)) i) (subst (IsRef p W T) same v) (subst (λ (x : ℕ). Pushed p r X Y y x W'' T'' top'') same q))

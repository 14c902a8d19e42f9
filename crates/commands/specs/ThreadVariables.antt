-- Where a thread's variables are.
use Rattle.std.specs.Prelude.{◌≡◌, ℕ, ◌<◌, List, slice_set}
use Rattle.std.proofs.Common.{arith, ap, ◌∙◌}
use Rattle.rules.specs.declared.Sizes.{Sizes}
use Rattle.layout.specs.Places.{var_number, var_at, var_of, owners_from, owners-is, var-low}

-- variable a of thread k
abbrev pub variable_at : Sizes → ℕ → ℕ → ℕ
variable_at p k a = var_at p (var_number p k a)

abbrev pub variable : Sizes → List ℕ → ℕ → ℕ → ℕ
variable p t k a = var_of p t (var_number p k a)

-- it stands before the owners of the pages
pub variable-low : (p : Sizes) (k a : ℕ) → k < p.threads → a < p.variables → variable_at p k a < owners_from p
variable-low p k a h l = omega (arith, owners-is p, var-low p k a h l)

-- as the code reads and writes it
module _ (p : Sizes) (k a i : ℕ) (d : i ≡ var_number p k a) where
  pub read-place : (t : List ℕ) {x : ℕ} → x ≡ var_of p t i → x ≡ variable p t k a
  read-place t h = h ∙ ap (λ (n : ℕ). var_of p t n) d

  pub write-place : (t : List ℕ) (x : ℕ) {t' : List ℕ} → t' ≡ slice_set t (var_at p i) x → t' ≡ slice_set t (variable_at p k a) x
  write-place t x h = h ∙ ap (λ (n : ℕ). slice_set t (var_at p n) x) d

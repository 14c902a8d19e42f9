-- Those of 1, 2, .., n that pass a test, in order.
use Rattle.std.specs.Prelude.{◌≡◌, ℕ, zero, suc, ◌<◌, Bool, true, false, cond, List, [], ◌∷◌, ◌++◌, map, length, slice_index, slice_index_or}
use Rattle.std.proofs.Common.{arith, ◌∙◌}
use Rattle.std.proofs.Math.Decide.{ℕ_discrete}
use Rattle.std.proofs.Math.Path.{refl, sym, ap}
use mathlib.Core.List.{map-append}
use Rattle.std.proofs.Math.ListN.{length-append, get_or-append}
use Rattle.std.proofs.lemmas.List.{get_or_at}
use Rattle.lists.specs.Members.{keep}
use Rattle.lists.specs.Listed.{listed}
use Rattle.lists.specs.Counting.{bit, count, sum_mono}

cond-append : {A : Type 0} (c : Bool) (y : A) (k e : List A) → cond c (y ∷ k ++ e) (k ++ e) ≡ cond c (y ∷ k) k ++ e
cond-append true y k e = refl
cond-append false y k e = refl

keep_snoc : {A : Type 0} (p : A → Bool) (xs : List A) (x : A) → keep p (xs ++ x ∷ []) ≡ keep p xs ++ cond (p x) (x ∷ []) []
unfolding keep
keep_snoc p [] x = refl
keep_snoc p (y ∷ ys) x =
    ap (λ (l : List _). cond (p y) (y ∷ l) l) (keep_snoc p ys x) ∙ cond-append (p y) y (keep p ys) (cond (p x) (x ∷ []) [])

pub get_d_map : {A B : Type 0} (f : A → B) (l : List A) (k : ℕ) (d : A) (e : B) → k < length l → slice_index_or (map f l) k e ≡ f (slice_index_or l k d)
get_d_map f [] k d e l = absurd (omega arith)
get_d_map f (x ∷ xs) zero d e l = refl
get_d_map f (x ∷ xs) (suc k) d e l = get_d_map f xs k d e (omega arith)

module _ (b : ℕ → Bool) where
  abbrev pub passing : ℕ → List ℕ
  passing n = keep b (listed suc n)

  -- how many of 1, 2, .., n pass
  abbrev pub passed : ℕ → ℕ
  passed n = count (λ i. b (suc i)) n

  pub passing-next : (n : ℕ) → passing (suc n) ≡ passing n ++ cond (b (suc n)) (suc n ∷ []) []
  unfolding listed
  passing-next n = keep_snoc b (listed suc n) (suc n)

  length-one : (c : Bool) (x : ℕ) → length (cond c (x ∷ []) []) ≡ bit c
  length-one true x = refl
  length-one false x = refl

  pub length-passing : (n : ℕ) → length (passing n) ≡ passed n
  unfolding listed keep
  length-passing zero = refl
  length-passing (suc n) =
      ap length (passing-next n) ∙ omega (arith, length-append (passing n) (cond (b (suc n)) (suc n ∷ []) []), length-passing n, length-one (b (suc n)) (suc n))

  -- one that passes stands after as many as pass before it
  pub passing-at : (n g : ℕ) → g < n → b (suc g) ≡ true → slice_index (passing n) (passed g) ≡ suc g
  passing-at zero g l t = absurd (omega arith)
  passing-at (suc n) g l t = ap (λ (k : List ℕ). slice_index k (passed g)) (passing-next n) ∙ go (ℕ_discrete g n) (passing-at n g)
    where
      last : List ℕ
      last = cond (b (suc n)) (suc n ∷ []) []

      go : Dec (g ≡ n) → (g < n → b (suc g) ≡ true → slice_index (passing n) (passed g) ≡ suc g) → slice_index (passing n ++ last) (passed g) ≡ suc g
      go (yes e) rest =
          ap (λ (c : Bool). slice_index (passing n ++ cond c (suc n ∷ []) []) (passed g)) (ap (λ (x : ℕ). b (suc x)) (sym e) ∙ t)
          ∙ get_or_at (passing n) (suc n) [] 0 (passed g) (length-passing n ∙ ap passed (sym e)) ∙ ap suc (sym e)
      go (no e) rest =
          let m : g < n = omega arith in
          get_or-append (passing n) last 0 (passed g) (omega (arith, length-passing n, sum_mono (λ i. bit (b (suc i))) (suc g) n m, ap bit t)) ∙ rest m t

  -- what agrees on 1, 2, .., n agrees on those that pass
  pub map-passing : {B : Type 0} (f g : ℕ → B) (n : ℕ) → ((i : ℕ) → i < n → f (suc i) ≡ g (suc i)) → map f (passing n) ≡ map g (passing n)
  unfolding listed keep
  map-passing f g zero e = refl
  map-passing f g (suc n) e =
      ap (map f) (passing-next n) ∙ map-append f (passing n) _ ∙ ap (λ l. l ++ map f (cond (b (suc n)) (suc n ∷ []) [])) (map-passing f g n (λ i l. e i (omega arith)))
      ∙ ap (λ l. map g (passing n) ++ l) (one (b (suc n))) ∙ sym (ap (map g) (passing-next n) ∙ map-append g (passing n) _)
    where
      one : (c : Bool) → map f (cond c (suc n ∷ []) []) ≡ map g (cond c (suc n ∷ []) [])
      one true = ap (λ x. x ∷ []) (e n (omega arith))
      one false = refl

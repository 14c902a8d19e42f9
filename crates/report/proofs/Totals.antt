-- The rows' objects are all that there are: a region that is not open has none. So the total is what the counters leave.
use Rattle.std.specs.Prelude.{◌≡◌, ℕ, zero, suc, ◌+◌, ◌%◌, ◌^◌, ◌<◌, ◌≤◌, Bool, true, false, cond, List, [], ◌∷◌, ◌++◌, map, ◌==◌}
use native.Mathlib.Omega.{arith}
use Rattle.std.proofs.Math.Decide.{ℕ_discrete}
use Rattle.std.proofs.Math.Path.{refl, sym, ap}
use Rattle.std.proofs.Common.{subst, ◌∙◌}
use Rattle.std.proofs.lemmas.List.{map-append}
use Rattle.lists.specs.Counting.{sum, sum_same, sum-none}
use Rattle.lists.specs.Says.{true-not-false}
use Rattle.lists.specs.Members.{keep}
use Rattle.lists.specs.Listed.{listed}
use Rattle.rules.specs.declared.Sizes.{Sizes}
use Rattle.rules.specs.Regions.{thread_of, level_of, regions}
use Rattle.rules.specs.Rules.{Leaves}
use Rattle.layout.specs.Places.{Room, owner_of, count_of, made_of, freed_of}
use Rattle.layout.specs.Words.{depths_at, counters_in, tables_only}
use Rattle.promises.specs.Whole.{Open, objects_on, live_of}
use Rattle.promises.specs.Regular.{objects-no}
use Rattle.whole.specs.Counters.{live-low, whole-left}
use Rattle.whole.specs.Parts.{regions-of}
use Rattle.report.specs.declared.Row.{Row}
use Rattle.report.specs.Report.{is_open, open_regions, row_of, total_of}
use Rattle.report.specs.Passing.{passing, passing-next}
use Rattle.report.specs.Opened.{open-yes}
use Rattle.report.specs.Tables.{WholeTables, row_in, rows_in}

total-append : (xs ys : List Row) → total_of (xs ++ ys) ≡ total_of xs + total_of ys
unfolding total_of
total-append [] ys = omega arith
total-append (x ∷ xs) ys = omega (arith, total-append xs ys)

-- of the rows of those of 1, 2, .., n that pass a test, where the others have no objects
module _ (b : ℕ → Bool) (f : ℕ → Row) where
  total-one : (x : ℕ) (c : Bool) → (c ≡ false → (f x).objects ≡ 0) → total_of (map f (cond c (x ∷ []) [])) ≡ (f x).objects
  unfolding total_of
  total-one x true e = omega arith
  total-one x false e = sym (e refl)

  total-passing : (n : ℕ) → ((i : ℕ) → i < n → b (suc i) ≡ false → (f (suc i)).objects ≡ 0) → total_of (map f (passing b n)) ≡ sum (λ i. (f (suc i)).objects) n
  unfolding total_of listed keep
  total-passing zero e = refl
  total-passing (suc n) e =
      ap (λ (l : List ℕ). total_of (map f l)) (passing-next b n) ∙ ap total_of (map-append f (passing b n) (cond (b (suc n)) (suc n ∷ []) []))
      ∙ omega (
        arith,
        total-append (map f (passing b n)) (map f (cond (b (suc n)) (suc n ∷ []) [])),
        total-passing n (λ i l. e i (omega arith)),
        total-one (suc n) (b (suc n)) (e n (omega arith)),
      )

module _ (p : Sizes) (t : List ℕ) (k : WholeTables p t) where
  row-objects : (q : ℕ) → (row_in p t q).objects ≡ count_of p t q
  unfolding row_in
  row-objects q = go (q == 1)
    where
      go : (c : Bool) → (cond c (row_of 0 0 (count_of p t q)) (row_of (thread_of p q) (level_of p q) (count_of p t q))).objects ≡ count_of p t q
      go true = refl
      go false = refl

  -- no page is of a region that is not open
  closed-empty : (q : ℕ) → 1 ≤ q → q ≤ regions p → is_open p (depths_at p t) q ≡ false → count_of p t q ≡ 0
  unfolding is_open
  closed-empty q l m e =
      k.whole.counts q l m ∙ sum-none (objects_on p t q) p.pages (λ page i. objects-no p t q page (λ o. none page i o (ℕ_discrete q 1)))
    where
      none : (page : ℕ) → page < p.pages → owner_of p t page ≡ q → Dec (q ≡ 1) → ⊥
      none page i o (yes z) = true-not-false (sym (subst (λ (x : ℕ). is_open p (depths_at p t) x ≡ false) z e))
      none page i o (no z) = true-not-false (sym e ∙ open-yes p t q (subst (λ (x : ℕ). Open p t x) o ((k.whole.pages page i).region (omega arith))))

  pub total-live : total_of (rows_in p t) ≡ live_of p t
  unfolding rows_in open_regions
  total-live =
      total-passing (is_open p (depths_at p t)) (row_in p t) (regions p) (λ i l e. row-objects (suc i) ∙ closed-empty (suc i) (omega arith) (omega arith) e)
      ∙ sum_same (λ i. (row_in p t (suc i)).objects) (λ i. count_of p t (suc i)) (regions p) (λ i l. row-objects (suc i))

  -- made less freed
  pub total_left : Leaves (counters_in p (tables_only t)) (total_of (rows_in p t))
  total_left = subst (λ (n : ℕ). Leaves (counters_in p (tables_only t)) n) (sym total-live) k.whole.counters

  -- d is made less freed, as the code has it
  pub total-less : (n d made freed : ℕ) → Room p n → d < 2 ^ 32 → (d + freed) % 2 ^ 32 ≡ made → made ≡ made_of p t → freed ≡ freed_of p t → d ≡ total_of (rows_in p t)
  total-less n d made freed r low e f g = whole-left p t d made freed low e f g (live-low p t n r (regions-of k.whole)) k.whole.counters ∙ sym total-live

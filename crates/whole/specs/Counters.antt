-- The sum of the object counts, a turn of its loop, and that it is what the two counters leave.
use Rattle.std.specs.Prelude.{◌≡◌, ℕ, suc, ◌+◌, ◌-◌, ◌*◌, ◌%◌, ◌^◌, ◌<◌, ◌≤◌, List}
use Rattle.std.proofs.Common.{sym, ap, ◌∙◌, arith, mul-le-mul}
use Rattle.std.proofs.Math.Path.{subst}
use Rattle.lists.specs.Counting.{sum, sum-high}
use Rattle.rules.specs.declared.Sizes.{Sizes}
use Rattle.rules.specs.Regions.{regions}
use Rattle.rules.specs.Rules.{counted, Leaves}
use Rattle.laws.specs.Counters.{leaves-one}
use Rattle.layout.specs.Places.{Room, most_regions, regions-few, count_of}
use Rattle.layout.specs.Cells.{page_cells}
use Rattle.layout.specs.Words.{tables_only, counters_in}
use Rattle.promises.specs.Whole.{objects_on, live_to, live_of, CountersWhole}
use Rattle.whole.specs.Regions.{RegionsWhole, on-low}

-- k is the count of region g as the code read it
pub live_more : (s : Sizes) (t : List ℕ) (g k : ℕ) → 1 ≤ g → k ≡ count_of s t g → live_to s t (g + 1 - 1) ≡ live_to s t (g - 1) + k
live_more s t g k l e =
    let q : g + 1 - 1 ≡ suc (g - 1) = omega arith in
    let r : g ≡ suc (g - 1) = omega arith in
    ap (live_to s t) q ∙ ap (λ (x : ℕ). live_to s t (g - 1) + x) (sym (e ∙ ap (count_of s t) r))

-- there are at most 129 regions, and no more objects in one than cells
pub live-low : (s : Sizes) (t : List ℕ) (n : ℕ) → Room s n → RegionsWhole s t → live_of s t < 2 ^ 32
live-low s t n m r =
    omega (
      arith,
      sum-high (λ i. count_of s t (suc i)) (page_cells * s.pages) (regions s)
          (λ i l. let e : count_of s t (suc i) ≡ sum (objects_on s t (suc i)) s.pages = r.counts (suc i) (omega arith) (omega arith) in
          omega (arith, e, sum-high (objects_on s t (suc i)) page_cells s.pages (λ k b. on-low s t (suc i) k (r.pages k b).whole.filled.cells))),
      mul-le-mul (pages-low m.few) (few (regions-few m)),
    )
  where
    pages-low : {k : ℕ} → k ≤ 1024 → page_cells * k ≤ 16384
    pages-low l = omega arith

    few : {k : ℕ} → k < most_regions → k ≤ 129
    few l = omega arith

-- d is made less freed, as the code has it
module _ (s : Sizes) (t : List ℕ) (d made freed : ℕ) (low : d < 2 ^ 32) (e : (d + freed) % 2 ^ 32 ≡ made) (f : made ≡ (counters_in s (tables_only t)).made) (g : freed ≡ (counters_in s (tables_only t)).freed) where
  left : Leaves (counters_in s (tables_only t)) d
  unfolding counted
  left = subst (λ (x : ℕ). (d + x) % 2 ^ 32 ≡ (counters_in s (tables_only t)).made) g (e ∙ f)

  pub left-whole : d ≡ live_of s t → CountersWhole s (tables_only t)
  left-whole q = subst (λ (x : ℕ). Leaves (counters_in s (tables_only t)) x) q left

  pub whole-left : live_of s t < 2 ^ 32 → CountersWhole s (tables_only t) → d ≡ live_of s t
  whole-left h k = leaves-one (counters_in s (tables_only t)) d (live_of s t) low h left k

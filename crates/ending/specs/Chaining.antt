-- What the stages of an end ask of the chains and of the listed pages, once the survivors are copied.
use Rattle.std.specs.Prelude.{◌≡◌, ◌⊎◌, List, ℕ, ◌≤◌, ◌<◌}
use Rattle.std.proofs.Common.{sym, ap, ◌∙◌, inl, inr, arith}
use Rattle.std.proofs.Math.Decide.{ℕ_discrete}
use Rattle.lists.specs.Part.{Lists, lists-like}
use Rattle.rules.specs.declared.Sizes.{Sizes}
use Rattle.rules.specs.Regions.{regions, region_at}
use Rattle.laws.specs.RegionLaws.{region-bounds}
use Rattle.layout.specs.Places.{owner_of}
use Rattle.layout.specs.Cells.{page_of, cell_on, page-on}
use Rattle.layout.specs.Objects.{begins-page, begins-there}
use Rattle.layout.specs.Words.{Words, owner_in}
use Rattle.promises.specs.Ends.{part_of, Outside, Survivor, lives-how}
use Rattle.promises.proofs.OwnedPages.{owner-low}
use Rattle.promises.proofs.WholeChains.{whole-chainable}
use Rattle.chains.specs.Chains.{ChainsWhole}
use Rattle.copy.specs.Copying.{Plan, Copy}
use Rattle.settle.specs.Touched.{Chained}
use Rattle.ending.specs.Placing.{outside-home}
use Rattle.ending.specs.Copied.{placed, placing, page-kept, placed-only}
use Rattle.ending.specs.Region.{page-was}
use Rattle.ending.specs.Ending.{Ending, level-low}
use Rattle.ending.specs.PagesEnough.{survivor-level}
use Rattle.ending.specs.Stages.{pos, bounds, moved}

module _ {s : Sizes} {t l r : ℕ} {w w₁ : Words} (b : Ending s t l r w w₁) (p : Plan s l (region_at s t) w₁.cells w₁.tables) {W T : List ℕ}
    (c : Copy s l (region_at s t) l w₁.cells w₁.tables W T) where
  -- the pages of r are those that it had
  pub own-pages : {n : ℕ} {k : List ℕ} → Lists (part_of s w r).ends s.pages n k → Lists (λ page. owner_of s T page ≡ r) s.pages n k
  own-pages h = lists-like h (λ page m z. page-kept (moved b p c) page m z ∙ z) (page-was (pos b) (moved b p c))

  -- and all pages are free or of regions that there are
  owners-low : (page : ℕ) → page < s.pages → owner_of s T page ≤ regions s
  owners-low page m = go (ℕ_discrete (owner_of s T page) 0) (ℕ_discrete (owner_in s w page) r)
    where
      here : page_of (cell_on page 0) ≡ page
      here = page-on page 0 (omega arith)

      home : (x : ℕ) → owner_of s T (page_of (placed W x)) ≡ owner_of s T page → Outside s w (part_of s w r) x ⊎ Survivor s w (part_of s w r) x → owner_of s T page ≤ regions s
      home x e (inl o) = omega (arith, e, outside-home (placing (moved b p c)) x o, owner-low s w b.whole (page_of x) (begins-page _ _ _ _ o.used))
      home x e (inr v) =
          let j = survivor-level b x v in
          omega (arith, e, (placing (moved b p c)).placement.went x v, j.2, region-bounds s t j.0 b.thread (omega (arith, j.1, level-low b)))

      go : Dec (owner_of s T page ≡ 0) → Dec (owner_in s w page ≡ r) → owner_of s T page ≤ regions s
      go (yes z) d = omega arith
      go (no z) (yes y) = omega (arith, page-kept (moved b p c) page m y, owner-low s w b.whole page m)
      go (no z) (no n) =
          let u = begins-there s W T page 0 m (omega arith) (((moved b p c).ready.regular.pages page m).taken (omega arith)) in
          let o = placed-only (moved b p c) (cell_on page 0) u (λ y. n (ap (owner_in s w) (sym here) ∙ y)) in
          home o.0 (ap (λ (d : ℕ). owner_of s T (page_of d)) o.2 ∙ ap (owner_of s T) here) (lives-how o.1)

  pub chained-ask : {K : List ℕ} → ChainsWhole s w.remember K → Chained s r w.remember T K
  chained-ask k = record { chainable = whole-chainable b.whole; whole = k; low = (bounds b).0; high = (bounds b).1; owners = owners-low }

-- The pages of all regions and the free ones are all pages.
use Rattle.std.specs.Prelude.{ℕ, suc, ◌+◌, ◌-◌, ◌≤◌, ◌<◌, ◌≡◌, List}
use Rattle.std.proofs.Common.{sym, ap, ◌∙◌, arith}
use Rattle.lists.specs.Counting.{sum, sum_more, sum_mono, count-owners}
use Rattle.rules.specs.Regions.{regions}
use Rattle.rules.specs.Graph.{pages_of}
use Rattle.rules.specs.declared.Sizes.{Sizes}
use Rattle.layout.specs.Places.{owner_of, count_of}
use Rattle.promises.specs.OwnedPages.{owned_one, owned_in}

-- every region owns the pages that its objects fill, and every page is free or a region's
pub record Paged (p : Sizes) (t : List ℕ) : Type 0 where
  pub pages : (g : ℕ) → 1 ≤ g → g ≤ regions p → owned_in p t g p.pages ≡ pages_of (count_of p t g)
  pub owners : (page : ℕ) → page < p.pages → owner_of p t page ≤ regions p

-- the pages of the first k regions
abbrev pub owned_below : Sizes → List ℕ → ℕ → ℕ
owned_below p t k = sum (λ i. owned_in p t (suc i) p.pages) k

-- with the free ones all pages
pub all-owned : (p : Sizes) (t : List ℕ) → Paged p t → owned_below p t (regions p) + owned_in p t 0 p.pages ≡ p.pages
unfolding owned_one
all-owned p t h = count-owners (owner_of p t) (regions p) p.pages h.owners

-- a turn of the count; n is the pages of region g as the code has them
pub owned-turn : (p : Sizes) (t : List ℕ) (g n : ℕ) → Paged p t → 1 ≤ g → g ≤ regions p → n ≡ pages_of (count_of p t g)
    → (owned_below p t g ≡ owned_below p t (g - 1) + n) × (owned_below p t (g - 1) + n ≤ p.pages)
owned-turn p t g n h pos l e =
    let k : g - 1 + 1 ≡ g = omega arith in
    let r : suc (g - 1) ≡ g = omega arith in
    let o : n ≡ owned_in p t (suc (g - 1)) p.pages = e ∙ sym (h.pages g pos l) ∙ sym (ap (λ (x : ℕ). owned_in p t x p.pages) r) in
    let m = ap (owned_below p t) (sym k) ∙ sum_more (λ i. owned_in p t (suc i) p.pages) (g - 1) in
    (omega (arith, o, m), omega (arith, o, m, sum_mono (λ i. owned_in p t (suc i) p.pages) g (regions p) l, all-owned p t h))

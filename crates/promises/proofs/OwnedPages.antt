-- A region of n objects owns n / 16 pages, rounded up, and the pages that no region owns are the rules' free pages.
use Prim.Native.Nat.{ℕ, zero, suc, ◌+◌, ◌-◌, ◌*◌, ◌^◌, ◌≤◌, ◌<◌}
use native.Mathlib.Omega.{arith}
use Rattle.std.proofs.Common.{div-lt_iff_lt-mul, ap₂, ◌∙◌, lt-ltb, eq-eqb, ne_eqb, ltb-true}
use Rattle.std.proofs.Math.Decide.{dec_lt, ℕ_discrete}
use Rattle.std.proofs.Math.Logic.{by_cases}
use Rattle.std.specs.Prelude.{◌≡◌, List, Bool, ltb, eqb}
use Rattle.std.proofs.Math.Path.{refl, sym, ap}
use Rattle.std.proofs.Math.Bool.{true, false, cond}
use Rattle.lists.specs.Counting.{bit, bit-le-one, sum, count, positive, sum_same, sum-none, sum-high, sum-part, sum-pos, sum-blocks, sum_first, count-owners}
use Rattle.lists.specs.Pigeonhole.{no-two}
use Rattle.lists.specs.Tests.{cond-zero}
use Rattle.rules.specs.declared.Sizes.{Sizes}
use Rattle.rules.specs.Regions.{regions}
use Rattle.rules.specs.Graph.{pages_of, objects_in, free_pages}
use Rattle.rules.specs.Rules.{Regioned, graph}
use Rattle.laws.specs.Counters.{living, living-regions}
use Rattle.layout.specs.Places.{owner_of, used_of, count_of}
use Rattle.layout.specs.Cells.{page_cells, page_of, place_of, cell_on, page-on}
use Rattle.layout.specs.Words.{Words, owner_in, used_in, home_in, graph_of, home_at, cell_count}
use Rattle.layout.specs.Objects.{begins_at, begins-on}
use Rattle.promises.specs.Whole.{WholeFor, Open, Partial, objects_on, objects_of, live_of}
use Rattle.promises.specs.Regular.{Regular, whole-regular, objects-yes, objects-no, SamePage}
use Rattle.promises.specs.StandsFor.{StandsFor}
use Rattle.promises.specs.Agreed.{free-agree}
use Rattle.promises.specs.OwnedPages.{owned-yes, owned_in, owned_one, pages_owned}

-- the cells of region g's page that are not in use
abbrev free_on : Sizes → List ℕ → ℕ → ℕ → ℕ
free_on p t g page = cond (eqb (owner_of p t page) g) (page_cells - used_of p t page) 0

both-parts : (b : Bool) (u : ℕ) → u ≤ page_cells → cond b u 0 + cond b (page_cells - u) 0 ≡ page_cells * bit b
both-parts true u l = omega arith
both-parts false u l = omega arith

-- ---- the pages of a region, filled but for one

module _ {s : Sizes} {t : List ℕ} (r : Regular s t) (q : ℕ) where
  pub objects-few : objects_of s t q ≤ cell_count s
  objects-few =
      sum-high (objects_on s t q) page_cells s.pages
      (λ page l. by_cases (ℕ_discrete (owner_of s t page) q) (λ e. rw (eq-eqb (owner_of s t page) q e) (r.pages page l).cells) (λ n. rw (ne_eqb (owner_of s t page) q n) (omega arith)))

  module _ (pos : 0 < q) where
    -- objects and free cells of the region's pages fill these
    filled : (n : ℕ) → n ≤ s.pages → sum (objects_on s t q) n + sum (free_on s t q) n ≡ page_cells * owned_in s t q n
    unfolding owned_one
    filled zero l = refl
    filled (suc n) l = omega (arith, filled n (omega arith), both-parts (eqb (owner_of s t n) q) (used_of s t n) (r.pages n (omega arith)).cells)

    free-low : (page : ℕ) → page < s.pages → free_on s t q page < page_cells
    free-low page l =
        by_cases (ℕ_discrete (owner_of s t page) q) (λ e. rw (eq-eqb (owner_of s t page) q e) (omega (arith, (r.pages page l).taken (omega arith)))) (λ n. rw (ne_eqb (owner_of s t page) q n) (omega arith))

    free-count : (n : ℕ) → n ≤ s.pages → sum (free_on s t q) n ≤ (page_cells - 1) * count (positive (free_on s t q)) n
    free-count zero l = omega arith
    free-count (suc n) l =
        by_cases (dec_lt 0 (free_on s t q n)) (λ p. omega (arith, free-count n (omega arith), free-low n (omega arith), ap bit (lt-ltb 0 (free_on s t q n) p))) (λ p. omega (arith, free-count n (omega arith)))

    free-partial : (page : ℕ) → 0 < free_on s t q page → Partial s t q page
    free-partial page =
        by_cases (ℕ_discrete (owner_of s t page) q) (λ e. rw (eq-eqb (owner_of s t page) q e) (λ l. record { owner = e; part = omega arith }))
        (λ n. rw (ne_eqb (owner_of s t page) q n) (λ l. absurd (let z : ⊥ = omega arith in z)))

    -- at most one of them has free cells
    one-part : count (positive (free_on s t q)) s.pages ≤ 1
    one-part =
        no-two (positive (free_on s t q)) s.pages
        (λ x y l m a b. r.partial q pos x y l m (free-partial x (ltb-true 0 (free_on s t q x) a)) (free-partial y (ltb-true 0 (free_on s t q y) b)))

    pub owned : pages_of (objects_of s t q) ≡ owned_in s t q s.pages
    owned = omega (arith, filled s.pages (omega arith), free-count s.pages (omega arith), one-part)

    -- objects that fill their pages leave none partly filled
    pub partly-filled : (page : ℕ) → page < s.pages → Partial s t q page → place_of (objects_of s t q) ≡ 0 → ⊥
    partly-filled page l p z =
        omega (
          arith,
          filled s.pages (omega arith),
          sum-part (free_on s t q) page s.pages l,
          ap (λ (b : Bool). cond b (page_cells - used_of s t page) 0) (eq-eqb (owner_of s t page) q p.owner),
          p.part,
          free-count s.pages (omega arith),
          one-part,
        )

    -- else one is
    pub some-partly : (place_of (objects_of s t q) ≡ 0 → ⊥) → (page : ℕ) × (page < s.pages) × Partial s t q page
    some-partly n =
        let x = sum-pos (free_on s t q) s.pages (omega (arith, filled s.pages (omega arith))) in
        (x.0, x.1, free-partial x.0 x.2)

    -- the pages as the count of objects has them
    module _ (low : q ≤ regions s) where
      pub counts-owned : owned_in s t q s.pages ≡ pages_of (count_of s t q)
      counts-owned = sym (ap pages_of (r.counts q pos low) ∙ owned)

      pub none_owned : count_of s t q ≡ 0 → (page : ℕ) → page < s.pages → owner_of s t page ≡ q → ⊥
      none_owned z page l e = omega (arith, counts-owned, sum-part (owned_one s t q) page s.pages l, owned-yes s t q page e)

      pub count_fits : s.pages ≤ 1024 → count_of s t q + 1 < 2 ^ 32
      count_fits few = omega (arith, r.counts q pos low, objects-few)

-- ---- the owner of a page is one of the regions

-- an open region is one of the regions
pub open-high : (s : Sizes) (t : List ℕ) (g : ℕ) → 1 ≤ s.depth → Open s t g → g ≤ regions s
open-high s t g d o = omega (arith, o.real, (div-lt_iff_lt-mul {x = g - 2} d).0 o.thread)

-- ---- the objects of a page

module _ (s : Sizes) (w : Words) (r : Regular s w.tables) where
  module _ (q : ℕ) (pos : 0 < q) where
    on-page : (page : ℕ) → page < s.pages → sum (λ j. cond (eqb (home_in s w (cell_on page j)) q) 1 0) page_cells ≡ objects_on s w.tables q page
    unfolding home_at
    on-page page l =
        by_cases (ℕ_discrete (owner_in s w page) q)
        (λ e. sum_first _ (used_in s w page) page_cells (λ j m. each j m ∙ ap (λ (t : Bool). cond t (bit (ltb j (used_in s w page))) 0) (eq-eqb (owner_in s w page) q e))
        ∙ omega (arith, (r.pages page l).cells, objects-yes s w.tables q page e))
        (λ n. sum-none _ page_cells (λ j m. each j m ∙ ap (λ (t : Bool). cond t (bit (ltb j (used_in s w page))) 0) (ne_eqb (owner_in s w page) q n)) ∙ sym (objects-no s w.tables q page n))
      where
        pick : (b : Bool) → cond (eqb (cond b (owner_in s w page) 0) q) 1 0 ≡ cond (eqb (owner_in s w page) q) (bit b) 0
        pick true = refl
        pick false = ap (λ (t : Bool). cond t 1 0) (ne_eqb 0 q (λ (z : 0 ≡ q). omega arith)) ∙ sym (cond-zero (eqb (owner_in s w page) q) 0 0 refl refl)

        each : (j : ℕ) → j < page_cells → cond (eqb (home_in s w (cell_on page j)) q) 1 0 ≡ cond (eqb (owner_in s w page) q) (bit (ltb j (used_in s w page))) 0
        each j m =
            ap₂ (λ (b : Bool) (p : ℕ). cond (eqb (cond b (owner_in s w p) 0) q) 1 0) (begins-on s w.cells w.tables page j l m) (page-on page j m) ∙ pick (ltb j (used_in s w page))

    pub objects-on : objects_in (graph_of s w) q ≡ objects_of s w.tables q
    unfolding objects_in
    objects-on =
        sum-blocks page_cells (λ c. cond (eqb (home_in s w c) q) 1 0) (objects_on s w.tables q) s.pages on-page

  -- the counts add up to the objects that are there, where every page's owner is one of the regions
  pub live-there : ((page : ℕ) → page < s.pages → owner_in s w page ≤ regions s) → live_of s w.tables ≡ living (graph_of s w)
  unfolding home_at
  live-there low =
      sum_same _ _ (regions s) (λ i l. r.counts (suc i) (omega arith) (omega arith) ∙ sym (objects-on (suc i) (omega arith)))
      ∙ living-regions s (graph_of s w) (λ c l. go (begins_at s w.cells w.tables c) (low (page_of c) (omega arith)))
    where
      go : {o : ℕ} (b : Bool) → o ≤ regions s → cond b o 0 ≤ regions s
      go true l = l
      go false l = omega arith

module _ (s : Sizes) (w : Words) (k : WholeFor s w) where
  -- no page is owned by a region that is not there
  pub owner-low : (page : ℕ) → page < s.pages → owner_in s w page ≤ regions s
  owner-low page l =
      by_cases (dec_lt 1 (owner_in s w page))
      (λ h. open-high s w.tables (owner_in s w page) k.sized.range.depth_low ((k.pages page l).region h)) (λ h. omega arith)

  module _ (q : ℕ) (pos : 0 < q) where
    -- 01: a region of n objects uses n / 16 pages, rounded up
    pub region-pages : pages_owned s w q ≡ pages_of (objects_in (graph_of s w) q)
    region-pages = sym (ap pages_of (objects-on s w (whole-regular k) q pos) ∙ owned (whole-regular k) q pos)

    pub counted-objects : q ≤ regions s → count_of s w.tables q ≡ objects_in (graph_of s w) q
    counted-objects l = k.counts q pos l ∙ sym (objects-on s w (whole-regular k) q pos)

  pub live-objects : live_of s w.tables ≡ living (graph_of s w)
  live-objects = live-there s w (whole-regular k) owner-low

  -- and the pages of no region are the free ones
  pub free-pages : pages_owned s w 0 ≡ free_pages s (graph_of s w)
  unfolding free_pages owned_one
  free-pages =
      sym (ap (λ (n : ℕ). s.pages - n) (sum_same _ _ (regions s) (λ i l. sym (region-pages (suc i) (omega arith))))
      ∙ omega (arith, count-owners (owner_in s w) (regions s) s.pages owner-low))

-- ---- of whatever heap the words stand for

module _ (s : Sizes) (w : Words) (h : Regioned) (cell_of : ℕ → ℕ) (st : StandsFor s w h cell_of) where
  pub heap-free : pages_owned s w 0 ≡ free_pages s (graph h)
  heap-free = free-pages s w st.whole ∙ sym (free-agree s w h cell_of st)

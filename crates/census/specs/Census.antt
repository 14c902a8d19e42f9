-- What the pass over the survivors counts, page by page: how many go to each region, and how many of their slots cross.
use Rattle.std.specs.Prelude.{◌≡◌, List, ℕ, ◌+◌, ◌*◌, ◌≤◌, ◌<◌, get_or}
use Rattle.std.proofs.Common.{ap, ◌∙◌, arith}
use Rattle.lists.specs.Counting.{sum_more, sum-none, sum-high}
use Rattle.rules.specs.declared.Sizes.{Sizes}
use Rattle.layout.specs.Places.{mark_of, page_words}
use Rattle.layout.specs.Cells.{cell_on, first_on, page_cells}
use Rattle.promises.specs.Arriving.{goes_to, goes-le}
use Rattle.census.specs.Counted.{on_page, over_marked, bits_none, page-high}
use Rattle.census.specs.After.{cell_crosses}

-- come says of each region how many of the survivors on the pages below n go to it
abbrev pub Arrivals : Sizes → List ℕ → List ℕ → ℕ → List ℕ → Type 0
Arrivals p W T n come = (g : ℕ) → get_or come g 0 ≡ over_marked p T (goes_to W g) n

-- and k is how many of their slots cross; no more than their pages have words
pub record Census (p : Sizes) (W T : List ℕ) (n : ℕ) (come : List ℕ) (k : ℕ) : Type 0 where
  pub arrivals : Arrivals p W T n come
  pub crossing : k ≡ over_marked p T (cell_crosses p W T) n
  pub few : k ≤ page_words * n

-- on a page at most as many survivors go to one region as it has cells
pub over-high : (p : Sizes) (W T : List ℕ) (g n : ℕ) → over_marked p T (goes_to W g) n ≤ first_on n
over-high p W T g n =
    sum-high (λ page. on_page (goes_to W g) page (mark_of p T page)) page_cells n (λ page l. page-high (goes_to W g) 1 (goes-le W g) page (mark_of p T page))

pub over-more : (p : Sizes) (T : List ℕ) (f : ℕ → ℕ) (page w : ℕ) → w ≡ mark_of p T page → over_marked p T f (page + 1) ≡ over_marked p T f page + on_page f page w
over-more p T f page w e =
    sum_more (λ page. on_page f page (mark_of p T page)) page ∙ ap (λ (x : ℕ). over_marked p T f page + on_page f page x) (let s : mark_of p T page ≡ w = omega arith in s)

-- no page has a mark
pub over_none : (p : Sizes) (T : List ℕ) (f : ℕ → ℕ) (n : ℕ) → ((page : ℕ) → page < n → mark_of p T page ≡ 0) → over_marked p T f n ≡ 0
over_none p T f n z =
    sum-none (λ page. on_page f page (mark_of p T page)) n (λ page l. ap (on_page f page) (z page l) ∙ bits_none (λ i. f (cell_on page i)))

module _ {p : Sizes} {W T : List ℕ} where
  pub census-start : (come : List ℕ) → ((g : ℕ) → get_or come g 0 ≡ 0) → Census p W T 0 come 0
  census-start come z = record { arrivals = z; crossing = omega arith; few = omega arith }

  -- w, x and what is in come now are as the code has them
  pub census-turn : {page k : ℕ} {come : List ℕ} (come' : List ℕ) (w x : ℕ) → w ≡ mark_of p T page → ((g : ℕ) → get_or come' g 0 ≡ get_or come g 0 + on_page (goes_to W g) page w)
      → x ≡ on_page (cell_crosses p W T) page w → x ≤ page_words → Census p W T page come k → Census p W T (page + 1) come' (k + x)
  census-turn {page} come' w x e h ex l c =
      record {
        arrivals = λ g. omega (arith, h g, c.arrivals g, over-more p T (goes_to W g) page w e);
        crossing = omega (arith, c.crossing, over-more p T (cell_crosses p W T) page w e);
        few = omega (arith, c.few);
      }

  -- a page without marks
  pub census-skip : (page k : ℕ) (come : List ℕ) → mark_of p T page ≡ 0 → Census p W T page come k → Census p W T (page + 1) come k
  census-skip page k come z c =
      record {
        arrivals = λ g. omega (arith, c.arrivals g, over-more p T (goes_to W g) page 0 (omega arith), bits_none (λ i. goes_to W g (cell_on page i)));
        crossing = omega (arith, c.crossing, over-more p T (cell_crosses p W T) page 0 (omega arith), bits_none (λ i. cell_crosses p W T (cell_on page i)));
        few = omega (arith, c.few);
      }

-- What comes to a region at an end: the survivors that go to it, and the new pages that it takes for them. W and T are the cells and the
-- tables; word 1 of a marked cell is the region that it goes to.
use Rattle.std.specs.Prelude.{ℕ, ◌+◌, ◌-◌, ◌*◌, ◌≤◌, ◌≡◌, ◌≢◌, List, eqb}
use Rattle.std.proofs.Common.{ap, ap₂, arith, eq-eqb, ne_eqb}
use Rattle.lists.specs.Counting.{bit, bit-le-one, sum}
use Rattle.rules.specs.declared.Sizes.{Sizes}
use Rattle.rules.specs.Graph.{pages_of}
use Rattle.layout.specs.Places.{count_of}
use Rattle.layout.specs.Cells.{work_of}
use Rattle.layout.specs.Marks.{marked}
use Rattle.layout.specs.Words.{cell_count}

-- ---- 1 for a cell that has g in word 1, and the marked cells that have

unfoldable pub goes_to : List ℕ → ℕ → ℕ → ℕ
goes_to W g c = bit (eqb (work_of W c) g)

pub goes_same : (W W' : List ℕ) (g c : ℕ) → work_of W' c ≡ work_of W c → goes_to W' g c ≡ goes_to W g c
unfolding goes_to
goes_same W W' g c e = ap (λ (x : ℕ). bit (eqb x g)) e

pub goes-yes : (W : List ℕ) (g c : ℕ) → work_of W c ≡ g → goes_to W g c ≡ 1
unfolding goes_to
goes-yes W g c e = ap bit (eq-eqb (work_of W c) g e)

pub goes-no : (W : List ℕ) (g c : ℕ) → work_of W c ≢ g → goes_to W g c ≡ 0
unfolding goes_to
goes-no W g c ne = ap bit (ne_eqb (work_of W c) g ne)

pub goes-le : (W : List ℕ) (g c : ℕ) → goes_to W g c ≤ 1
unfolding goes_to
goes-le W g c = bit-le-one (eqb (work_of W c) g)

abbrev pub arriving : Sizes → List ℕ → List ℕ → ℕ → ℕ
arriving p W T g = sum (λ c. marked p T c * goes_to W g c) (cell_count p)

-- ---- the new pages of a region of so many objects where n more come to it

abbrev pub more_pages : ℕ → ℕ → ℕ
more_pages objects n = pages_of (objects + n) - pages_of objects

-- of region g where come g objects come to it, and of the regions gs l for l below n
unfoldable pub region_more : Sizes → List ℕ → (ℕ → ℕ) → ℕ → ℕ
region_more p T come g = more_pages (count_of p T g) (come g)

abbrev pub more_below : Sizes → List ℕ → (ℕ → ℕ) → (ℕ → ℕ) → ℕ → ℕ
more_below p T come gs n = sum (λ l. region_more p T come (gs l)) n

-- objects and n are what the code has
pub more-is : (p : Sizes) (T : List ℕ) (come : ℕ → ℕ) (g objects n : ℕ) → objects ≡ count_of p T g → n ≡ come g → more_pages objects n ≡ region_more p T come g
unfolding region_more
more-is p T come g objects n e f = ap₂ (λ (a b : ℕ). more_pages a b) e f

pub more-none : (p : Sizes) (T : List ℕ) (come : ℕ → ℕ) (g : ℕ) → come g ≡ 0 → region_more p T come g ≡ 0
unfolding region_more
more-none p T come g z = omega (arith, z)

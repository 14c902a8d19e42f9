-- How many survivors there are: the bits that are set in the working words. The other objects of the region are freed.
use Rattle.std.specs.Prelude.{◌≡◌, cond, List, ℕ, ◌+◌, ◌*◌, ◌^◌, ◌≤◌, ◌<◌, eqb}
use Rattle.std.proofs.Common.{sym, ap, ◌∙◌, arith, eq-eqb, ne_eqb}
use Rattle.std.proofs.Math.Decide.{ℕ_discrete}
use Rattle.std.specs.Int.Count.{ones}
use Rattle.lists.specs.Counting.{bit, sum_same, sum-plus, sum-high}
use Rattle.lists.specs.Bits.{ones-sum}
use Rattle.rules.specs.declared.Sizes.{Sizes}
use Rattle.rules.specs.Graph.{target, freed_by, objects_in}
use Rattle.layout.specs.Places.{mark_of}
use Rattle.layout.specs.Cells.{first_on, page_cells}
use Rattle.layout.specs.Marks.{marked, not-marked}
use Rattle.layout.specs.Words.{Words, home_in, graph_of, cell_count}
use Rattle.promises.specs.Whole.{WholeFor}
use Rattle.promises.specs.Ends.{part_of}
use Rattle.mark.specs.Reached.{home-cell, cell-home}
use Rattle.mark.specs.Survivors.{Marked, unmarked-freed}
use Rattle.census.specs.Counted.{on_page, over_bits, over_marked, over-cells, page-high, bits_none}
use Rattle.census.specs.Census.{over-more}

-- those on the pages below n
abbrev pub survivors_in : Sizes → List ℕ → ℕ → ℕ
survivors_in p T n = over_marked p T (λ c. 1) n

module _ (p : Sizes) (T : List ℕ) where
  pub survivors-few : (n : ℕ) → survivors_in p T n ≤ first_on n
  survivors-few n =
      sum-high (λ page. on_page (λ c. 1) page (mark_of p T page)) page_cells n (λ page l. page-high (λ c. 1) 1 (λ c. omega arith) page (mark_of p T page))

  -- a page more: w, x and k are as the code has them
  pub survivors-more : (page w x k : ℕ) → w ≡ mark_of p T page → w < 2 ^ page_cells → x ≡ ones w → k ≡ survivors_in p T page → k + x ≡ survivors_in p T (page + 1)
  unfolding over_bits
  survivors-more page w x k e l ex ek = omega (arith, over-more p T (λ c. 1) page w e, ones-sum page_cells w l)

  -- a page without marks
  pub survivors-skip : (page k : ℕ) → mark_of p T page ≡ 0 → k ≡ survivors_in p T page → k ≡ survivors_in p T (page + 1)
  survivors-skip page k z e = omega (arith, over-more p T (λ c. 1) page 0 (sym z), bits_none (λ i. 1))

-- the objects of r are those that its end frees, and the survivors
pub survivors-rest : (s : Sizes) (w : Words) (k : WholeFor s w) (r : ℕ) (w' : Words) → Marked s w (part_of s w r) w' → 0 < r
    → freed_by s (graph_of s w) r + survivors_in s w'.tables s.pages ≡ objects_in (graph_of s w) r
unfolding freed_by target objects_in
survivors-rest s w k r w' m pos =
    ap (λ (n : ℕ). freed_by s (graph_of s w) r + n) (over-cells s w'.tables (λ c. 1))
    ∙ sym (sum-plus (λ c. cond (eqb (home_in s w c) r) (bit (eqb (target s (graph_of s w) r c) 0)) 0) (λ c. marked s w'.tables c * 1) (cell_count s))
    ∙ sum_same _ _ (cell_count s) (λ c l. one c l (ℕ_discrete (home_in s w c) r) (ℕ_discrete (marked s w'.tables c) 1))
  where
    one : (c : ℕ) → c < cell_count s → Dec (home_in s w c ≡ r) → Dec (marked s w'.tables c ≡ 1)
        → cond (eqb (home_in s w c) r) (bit (eqb (target s (graph_of s w) r c) 0)) 0 + marked s w'.tables c * 1 ≡ cond (eqb (home_in s w c) r) 1 0
    one c l (yes h) (yes on) =
        let u = home-cell s w k c r h pos in
        rw (eq-eqb (home_in s w c) r h) (omega (arith, ap bit (ne_eqb (target s (graph_of s w) r c) 0 (λ z. omega (arith, m.freed c u.0 u.1 z)))))
    one c l (yes h) (no off) =
        let u = home-cell s w k c r h pos in
        rw (eq-eqb (home_in s w c) r h) (omega (arith, not-marked s w'.tables c off, ap bit (eq-eqb (target s (graph_of s w) r c) 0 (unmarked-freed m c u.0 u.1 off))))
    one c l (no h) (yes on) = let u = m.only c (omega arith) on in absurd (h (cell-home s w k c r u.0 u.1))
    one c l (no h) (no off) = rw (ne_eqb (home_in s w c) r h) (omega (arith, not-marked s w'.tables c off))

-- The survivors of a collection are in the places that the rules give them, and its pages are those that the rules leave (02, W5).
use Rattle.std.specs.Prelude.{◌≡◌, ◌≢◌, ◌⊎◌, Bool, true, not, List, ℕ, zero, suc, ◌+◌, ◌-◌, ◌*◌, ◌/◌, ◌%◌, ◌≤◌, ◌<◌, min, length, get_or, eqb}
use Rattle.std.proofs.Math.Path.{refl, ap}
use Rattle.std.proofs.Common.{sym, ap₂, subst, ◌∙◌, inl, inr, ⊎_elim, add-one, arith, ext_get_or, eq-eqb, ne_eqb}
use Rattle.std.proofs.Math.Bool.{cond}
use Rattle.std.proofs.Math.Decide.{ℕ_discrete, dec_lt}
use Rattle.lists.specs.Counting.{bit, sum, sum_same}
use Rattle.lists.specs.Part.{Through, cut-here, through-start, through-turn}
use Rattle.rules.specs.declared.Sizes.{Sizes}
use Rattle.rules.specs.Regions.{control}
use Rattle.rules.specs.Graph.{target}
use Rattle.rules.specs.Pages.{Page, Pages, free_page, nth_page, new_cell, owned_from, place_in, filled, filled_by}
use Rattle.laws.specs.SlideLaws.{slides-count, slid-still, slid-place, own_below, own-more, own_same, owned_at, filled-long, filled_at}
use Rattle.layout.specs.Places.{var_count}
use Rattle.layout.specs.Cells.{page_of, page_cells}
use Rattle.layout.specs.Marks.{marked, mark?}
use Rattle.layout.specs.Objects.{begins-low}
use Rattle.layout.specs.Words.{Words, words, cell_count, owner_in, home_in, graph_of, page_in, pages_in, pages-count, page-there}
use Rattle.promises.specs.Reading.{used-home, alive-used}
use Rattle.promises.specs.Ends.{Outside, Survivor, lives-how}
use Rattle.mark.specs.Survivors.{unmarked-freed}
use Rattle.settle.specs.RewriteSlots.{Variables}
use Rattle.slide.specs.Ranks.{rank}
use Rattle.slide.specs.Trimmed.{Trimmed}
use Rattle.ended.specs.Evacuated.{goal_in, slides_in, Packed}
use Rattle.ending.specs.Copied.{placed}
use Rattle.collect.specs.Numbering.{space, Numbering, which, kept-survivor, outside-still, place_for, survivor-placed, number, page-listed}
use Rattle.collect.specs.TablesAfter.{SpaceCounted, other-same, own-used, own-owner, own-free}

module _ {s : Sizes} {w w₁ : Words} {n : ℕ} {l W₂ : List ℕ} {K : ℕ} (a : Numbering s w w₁ n l W₂ K) where
  abbrev ps : Pages
  ps = pages_in s w

  owner-there : (page : ℕ) → page < s.pages → (nth_page ps page).owner ≡ owner_in s w page
  owner-there page b = ap (λ (p : Page). p.owner) (page-there s w.tables page b)

  -- ---- the listed pages are the control space's by the rules

  own-none : own_below control ps 0 ≡ 0
  unfolding own_below
  own-none = refl

  next : (q : ℕ) → own_below control ps (q + 1) ≡ own_below control ps (suc q)
  next q = ap (own_below control ps) (add-one q)

  skip : (i q : ℕ) → q < s.pages → ((j : ℕ) → j < n → get_or l j 0 ≢ q) → own_below control ps q ≡ i → own_below control ps (q + 1) ≡ i
  skip i q b off r = ⊎_elim (λ x. absurd (off x.0 x.1 x.2)) (λ z. next q ∙ own_same control ps q (λ y. z (sym (owner-there q b) ∙ y)) ∙ r) (which a q b)

  -- below page b there are i of them
  own-through : (i : ℕ) → i ≤ n → Through s.pages n l i (λ b. own_below control ps b ≡ i)
  own-through zero h = through-start s.pages n l (λ b. own_below control ps b ≡ 0) (skip 0) own-none
  own-through (suc i) h =
      let e : i + 1 ≡ suc i = omega arith in
      subst (λ (x : ℕ). Through s.pages n l x (λ b. own_below control ps b ≡ suc i)) e
      (through-turn s.pages n l (λ b. own_below control ps b ≡ i) (λ b. own_below control ps b ≡ suc i) i (get_or l i 0) a.list.rises (omega arith) refl (own-through i (omega arith))
      (λ r. omega (arith, next (get_or l i 0), own-more control ps (get_or l i 0) (owner-there (get_or l i 0) (a.list.rises.low i (omega arith)) ∙ a.list.each i (omega arith)))) (skip (suc i)))

  own-rank : (j : ℕ) → j < n → own_below control ps (get_or l j 0) ≡ j
  own-rank j h = own-through j (omega arith) (get_or l j 0) (cut-here j (get_or l j 0) a.list.rises h refl)

  own_at : (j : ℕ) → j < n → get_or (owned_from control 0 ps) j 0 ≡ get_or l j 0
  own_at j h =
      let b = a.list.rises.low j h in
      ap (λ (k : ℕ). get_or (owned_from control 0 ps) k 0) (sym (own-rank j h))
      ∙ owned_at control ps 0 (get_or l j 0) (omega (arith, pages-count s w.tables)) (owner-there (get_or l j 0) b ∙ a.list.each j h) ∙ omega arith

  -- ---- the marked cells are those that live on by the rules

  abbrev lives : ℕ → Bool
  lives c = not (eqb (goal_in s w control c) 0)

  goal-own : (c : ℕ) → home_in s w c ≡ control → goal_in s w control c ≡ target s (graph_of s w) control c
  unfolding goal_in
  goal-own c e = ap (λ (b : Bool). cond b (target s (graph_of s w) control c) 0) (eq-eqb (home_in s w c) control e)

  goal-else : (c : ℕ) → home_in s w c ≢ control → goal_in s w control c ≡ 0
  unfolding goal_in
  goal-else c ne = ap (λ (b : Bool). cond b (target s (graph_of s w) control c) 0) (ne_eqb (home_in s w c) control ne)

  survivor-lives : (c : ℕ) → Survivor s w (space s w) c → lives c ≡ true
  survivor-lives c v =
      ap not (ne_eqb (goal_in s w control c) 0 (λ z. omega (arith, goal-own c (used-home s w c v.used ∙ v.within), v.goes)))

  lives-marked : (c : ℕ) → page_of c < s.pages → bit (lives c) ≡ marked s w₁.tables c
  lives-marked c b = go (mark? s w₁.tables c) (ℕ_discrete (home_in s w c) control)
    where
      none : goal_in s w control c ≡ 0 → bit (lives c) ≡ 0
      none z = ap (λ (x : Bool). bit (not x)) (eq-eqb (goal_in s w control c) 0 z)

      go : (marked s w₁.tables c ≡ 0) ⊎ (marked s w₁.tables c ≡ 1) → Dec (home_in s w c ≡ control) → bit (lives c) ≡ marked s w₁.tables c
      go (inr on) d = ap bit (survivor-lives c (kept-survivor a c (b, on))) ∙ sym on
      go (inl off) (no ne) = none (goal-else c ne) ∙ sym off
      go (inl off) (yes e) =
          let u = alive-used s w c (λ (z : home_in s w c ≡ 0). omega arith) in
          none (goal-own c e ∙ unmarked-freed a.keeping.marks c u (sym (used-home s w c u) ∙ e) (λ (on : marked s w₁.tables c ≡ 1). omega arith)) ∙ sym off

  rank-lives : (c : ℕ) → c ≤ cell_count s → sum (λ d. bit (lives d)) c ≡ rank s w₁.tables c
  unfolding rank
  rank-lives c h = sum_same (λ d. bit (lives d)) (marked s w₁.tables) c (λ d b. lives-marked d (omega arith))

  slides-all : length (slides_in s w) ≡ K
  slides-all =
      slides-count lives (owned_from control 0 ps) (cell_count s) ∙ rank-lives (cell_count s) (omega arith) ∙ sym a.numbered.count

  -- ---- the cells

  outside-slides : (c : ℕ) → Outside s w (space s w) c → new_cell (slides_in s w) c ≡ c
  outside-slides c o =
      slid-still lives (owned_from control 0 ps) (cell_count s) c
      (λ e b. omega (arith, ap bit e, ap (λ (x : Bool). bit (not x)) (eq-eqb (goal_in s w control c) 0 (goal-else c (λ z. o.out (sym (used-home s w c o.used) ∙ z))))))

  survivor-slides : (c : ℕ) → Survivor s w (space s w) c → new_cell (slides_in s w) c ≡ place_for a c
  survivor-slides c v =
      let b : c < cell_count s = begins-low s w.cells w.tables c v.used in
      slid-place lives (owned_from control 0 ps) (cell_count s) c (survivor-lives c v) b
      ∙ ap (place_in (owned_from control 0 ps)) (rank-lives c (omega arith))
      ∙ ap (λ (page : ℕ). 16 * page + number a c v % page_cells) (own_at (number a c v / page_cells) (page-listed a c v))

  -- ---- the pages

  module _ {T₂ : List ℕ} (Y : Variables s (var_count s) W₂ w₁.tables T₂) {W₄ W₅ T₃ : List ℕ} (Z : Trimmed s l n K W₄ T₂ W₅ T₃) {f : ℕ} {T₄ : List ℕ} (C : SpaceCounted s K f T₃ T₄) where
    page-filled : (j : ℕ) → j < n → page_in s T₄ (get_or l j 0) ≡ filled control (K - 16 * j)
    page-filled j h = go (dec_lt 0 (K - 16 * j))
      where
        go : Dec (0 < K - 16 * j) → page_in s T₄ (get_or l j 0) ≡ filled control (K - 16 * j)
        go (yes p) =
            ap₂ (λ (o u : ℕ). record { owner = o; used = u }) (own-owner a Y Z C j h (omega arith)) (own-used a Y Z C j h)
            ∙ sym (ap (λ (b : Bool). cond b free_page (record { owner = control; used = min (K - 16 * j) 16 })) (ne_eqb (K - 16 * j) 0 (λ z. omega arith)))
        go (no p) =
            ap₂ (λ (o u : ℕ). record { owner = o; used = u }) (own-free a Y Z C j h (omega arith)) (own-used a Y Z C j h ∙ omega arith)
            ∙ sym (ap (λ (b : Bool). cond b free_page (record { owner = control; used = min (K - 16 * j) 16 })) (eq-eqb (K - 16 * j) 0 (omega arith)))

    page-then : (i : ℕ) → i < s.pages → page_in s T₄ i ≡ cond (eqb (nth_page ps i).owner control) (filled control (K - 16 * own_below control ps i)) (nth_page ps i)
    page-then i b = ⊎_elim own other (which a i b)
      where
        own : (j : ℕ) × (j < n) × (get_or l j 0 ≡ i) → page_in s T₄ i ≡ cond (eqb (nth_page ps i).owner control) (filled control (K - 16 * own_below control ps i)) (nth_page ps i)
        own q =
            ap (page_in s T₄) (sym q.2) ∙ page-filled q.0 q.1
            ∙ sym (ap₂ (λ (x : Bool) (k : ℕ). cond x (filled control (K - 16 * k)) (nth_page ps i)) (eq-eqb (nth_page ps i).owner control (owner-there i b ∙ ap (owner_in s w) (sym q.2) ∙ a.list.each q.0 q.1))
            (ap (own_below control ps) (sym q.2) ∙ own-rank q.0 q.1))

        other : owner_in s w i ≢ control → page_in s T₄ i ≡ cond (eqb (nth_page ps i).owner control) (filled control (K - 16 * own_below control ps i)) (nth_page ps i)
        other z =
            let e = other-same a Y Z C i b z in
            ap₂ (λ (o u : ℕ). record { owner = o; used = u }) e.owner e.used ∙ sym (page-there s w.tables i b)
            ∙ sym (ap (λ (x : Bool). cond x (filled control (K - 16 * own_below control ps i)) (nth_page ps i)) (ne_eqb (nth_page ps i).owner control (λ y. z (sym (owner-there i b) ∙ y))))

    pub packed : (M : List ℕ) → Packed s w (words W₅ M T₄) (placed W₂)
    packed M =
        record {
          cells = λ c q.
              ⊎_elim (λ o. outside-still a c o ∙ sym (outside-slides c o)) (λ v. survivor-placed a c v ∙ sym (survivor-slides c v)) (lives-how q);
          pages =
              ext_get_or free_page (pages_in s (words W₅ M T₄)) (filled_by control K ps) (pages-count s T₄ ∙ sym (filled-long control K ps ∙ pages-count s w.tables))
              (λ i b.
              let low : i < s.pages = omega (arith, pages-count s T₄) in
              page-there s T₄ i low ∙ page-then i low ∙ sym (filled_at control K ps i (omega (arith, pages-count s w.tables))))
              ∙ sym (ap (λ (k : ℕ). filled_by control k ps) slides-all);
        }

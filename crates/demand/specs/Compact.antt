-- Words whose control space has nothing to free and nowhere to slide: a collection leaves the heap that they make as it is (02, W5).
use Prim.Native.Nat.{ℕ, zero, suc, ◌+◌, ◌-◌, ◌*◌, ◌/◌, ◌≤◌, ◌<◌, min}
use native.Mathlib.Omega.{arith}
use Rattle.std.proofs.Common.{mul-suc, subst, ◌∙◌, ext_get_or}
use Rattle.std.proofs.Math.Decide.{ℕ_discrete, dec_lt}
use Rattle.std.specs.Prelude.{◌≡◌, Bool, cond, length, get_or, ltb}
use Rattle.std.proofs.Math.Path.{refl, sym, ap, ap₂}
use mathlib.Core.List.{List, [], ◌∷◌, map}
use Rattle.std.proofs.Math.Bool.{true, false, not}
use Rattle.std.proofs.Math.Dec.{eqb}
use borrow.Author.Tests.{eq-eqb, ne_eqb, eqb-true}
use Rattle.lists.specs.Counting.{bit, sum, count, sum-none, sum-add, sum_mono, sum_first, count-to}
use Rattle.lists.specs.Listed.{get_d-listed}
use Rattle.rules.specs.declared.Sizes.{Sizes}
use Rattle.rules.specs.Regions.{control, only}
use Rattle.rules.specs.Graph.{Graph, target, ended, freed_by}
use Rattle.rules.specs.Pages.{Page, Pages, free_page, nth_page, Move, new_cell, owned_from, slide_below, filled, filled_by}
use Rattle.rules.specs.Rules as ru
use Rattle.rules.specs.Rules.{Regioned, counted, graph, object_at, goal_of, goals, slides, slid, more_freed}
use Rattle.laws.specs.EndLaws.{home-stayed, home-went}
use Rattle.laws.specs.Counters.{living, living-ended}
use Rattle.laws.specs.SlideLaws.{slides-same, slides-count, slid-still, slid-place, own_below, owned_at, filled-long, filled_at, own-more, own_same}
use Rattle.laws.specs.RulesLaws.{Sound, sound-after, control-pos, collected, graph-collected}
use Rattle.layout.specs.Cells.{page_cells, page_of, place_of, cell_on, page-on}
use Rattle.layout.specs.Objects.{InUse, begins-used, begins-on}
use Rattle.layout.specs.Words.{Words, cell_count, owner_in, used_in, freed_in, home_in, home_at, pages_in, pages-count, page-there, graph_of, heap_of}
use Rattle.promises.specs.Whole.{WholeFor}
use Rattle.promises.specs.StandsFor.{StandsFor}
use Rattle.promises.specs.Reading.{alive-used, used-home}
use Rattle.promises.specs.Agreed.{home-at, heap-stands, targets-agree}
use Rattle.ended.specs.Evacuated.{goal_in}
use Rattle.ended.proofs.Repacking.{goal-of}
use Rattle.ended.specs.CollectedDid.{collect_of}
use Rattle.ended.proofs.CollectedDid.{after-collect}

-- every object of the control space has a holder, its pages but the highest are full, and freed is counted modulo 4,294,967,296
pub record Compact (s : Sizes) (w : Words) : Type 0 where
  pub whole : WholeFor s w
  pub held : (x : ℕ) → home_in s w x ≡ control → target s (graph_of s w) control x ≡ control
  pub full : (i j : ℕ) → i < j → j < s.pages → owner_in s w i ≡ control → owner_in s w j ≡ control → used_in s w i ≡ page_cells
  pub counts : counted (freed_in s w) ≡ freed_in s w

-- ---- a collection keeps the homes

map-still : (f : ℕ → ℕ) → ((c : ℕ) → f c ≡ c) → (l : List ℕ) → map f l ≡ l
map-still f e [] = refl
map-still f e (c ∷ l) = ap₂ (λ (x : ℕ) (xs : List ℕ). x ∷ xs) (e c) (map-still f e l)

module _ (s : Sizes) (w : Words) (k : Compact s w) where
  abbrev H : Regioned
  H = heap_of s w

  abbrev E : List ℕ
  E = ru.ended s H control

  base : StandsFor s w H (λ x. x)
  base = heap-stands s w k.whole

  home-again : (x : ℕ) → (ended s (graph H) control).home x ≡ (graph H).home x
  home-again x = go (ℕ_discrete ((graph H).home x) control)
    where
      go : Dec ((graph H).home x ≡ control) → (ended s (graph H) control).home x ≡ (graph H).home x
      go (no n) = home-stayed s (graph H) control x n
      go (yes e) =
          home-went s (graph H) control x e ∙ sym (targets-agree s w H (λ c. c) base control control-pos x (λ (z : (graph H).home x ≡ 0). omega arith))
          ∙ k.held x (sym (home-at s w k.whole x) ∙ e) ∙ sym e

  graph-again : ended s (graph H) control ≡ graph H
  unfolding ended
  graph-again = λ i. record { count = (graph H).count; home = λ x. home-again x i; refs = (graph H).refs; vars = (graph H).vars }

  homes-again : E ≡ H.homes
  homes-again =
      ext_get_or 0 E H.homes
      ((subst Sound (after-collect s w 0) (sound-after s H base.sound (collect_of 0))).aligned ∙ sym base.sound.aligned)
      (λ x l. ap (λ (g : Graph). g.home x) (graph-collected s H) ∙ home-again x)

  -- and frees nothing
  freed-none : freed_by s (graph H) control ≡ 0
  freed-none = omega (arith, living-ended s (graph H) control control-pos, ap living graph-again)

  counters-again : more_freed (freed_by s (graph H) control) H.counters ≡ H.counters
  unfolding heap_of
  counters-again =
      ap (λ (n : ℕ). record { made = H.counters.made; freed = counted n }) (let e : freed_in s w + freed_by s (graph H) control ≡ freed_in s w = omega (arith, freed-none) in e)
      ∙ ap (λ (n : ℕ). record { made = H.counters.made; freed = n }) k.counts

  -- ---- the objects of the control space below a cell

  abbrev ps : Pages
  ps = pages_in s w

  -- an object of the control space begins at cell c
  abbrev lies : ℕ → Bool
  lies c = eqb (home_in s w c) control

  abbrev own : List ℕ
  own = owned_from control 0 ps

  owner-there : (q : ℕ) → q < s.pages → (nth_page ps q).owner ≡ owner_in s w q
  owner-there q l = ap (λ (p : Page). p.owner) (page-there s w.tables q l)

  -- on its own pages, and on others
  place-own : (q j : ℕ) → q < s.pages → j < page_cells → owner_in s w q ≡ control → lies (cell_on q j) ≡ ltb j (used_in s w q)
  unfolding home_at
  place-own q j l m e =
      ap₂ (λ (b : Bool) (p : ℕ). eqb (cond b (owner_in s w p) 0) control) (begins-on s w.cells w.tables q j l m) (page-on q j m)
      ∙ ap (λ (o : ℕ). eqb (cond (ltb j (used_in s w q)) o 0) control) e ∙ pick (ltb j (used_in s w q))
    where
      pick : (b : Bool) → eqb (cond b control 0) control ≡ b
      pick true = refl
      pick false = refl

  place_other : (q j : ℕ) → q < s.pages → j < page_cells → (owner_in s w q ≡ control → ⊥) → lies (cell_on q j) ≡ false
  unfolding home_at
  place_other q j l m n =
      ap₂ (λ (b : Bool) (p : ℕ). eqb (cond b (owner_in s w p) 0) control) (begins-on s w.cells w.tables q j l m) (page-on q j m)
      ∙ pick (ltb j (used_in s w q))
    where
      pick : (b : Bool) → eqb (cond b (owner_in s w q) 0) control ≡ false
      pick true = ne_eqb (owner_in s w q) control n
      pick false = refl

  -- below page i, where a page of the control space is not lower than i
  below-page : (y : ℕ) → y < s.pages → owner_in s w y ≡ control → (i : ℕ) → i ≤ y → count lies (16 * i) ≡ 16 * own_below control ps i
  unfolding own_below
  below-page y l e zero m = refl
  below-page y l e (suc i) m =
      ap (count lies) (mul-suc 16 i) ∙ sum-add (λ c. bit (lies c)) (16 * i) 16
      ∙ go (ℕ_discrete (owner_in s w i) control) (below-page y l e i (omega arith))
    where
      low : i < s.pages
      low = omega arith

      go : Dec (owner_in s w i ≡ control) → count lies (16 * i) ≡ 16 * own_below control ps i
          → count lies (16 * i) + sum (λ j. bit (lies (16 * i + j))) 16 ≡ 16 * own_below control ps (suc i)
      go (yes z) rest =
          omega (
            arith,
            rest,
            own-more control ps i (owner-there i low ∙ z),
            sum_first (λ j. bit (lies (16 * i + j))) (used_in s w i) 16 (λ j h. ap bit (place-own i j low h z)),
            k.full i y (omega arith) l z e,
          )
      go (no n) rest =
          omega (
            arith,
            rest,
            own_same control ps i (λ z. n (sym (owner-there i low) ∙ z)),
            sum-none (λ j. bit (lies (16 * i + j))) 16 (λ j h. ap bit (place_other i j low h n)),
          )

  -- and below a cell in use of such a page
  below-cell : (y p : ℕ) → y < s.pages → owner_in s w y ≡ control → p ≤ used_in s w y → count lies (cell_on y p) ≡ 16 * own_below control ps y + p
  below-cell y p l e m =
      sum-add (λ c. bit (lies c)) (16 * y) p
      ∙ omega (
        arith,
        below-page y l e y (omega arith),
        sum_first (λ j. bit (lies (16 * y + j))) (used_in s w y) p (λ j h. ap bit (place-own y j l (omega (arith, (k.whole.pages y l).filled.cells)) e)),
      )

  -- ---- the cells

  lives-lies : (c : ℕ) → not (eqb (goal_in s w control c) 0) ≡ lies c
  unfolding goal_in
  lives-lies c = go (ℕ_discrete (home_in s w c) control)
    where
      go : Dec (home_in s w c ≡ control) → not (eqb (goal_in s w control c) 0) ≡ lies c
      go (yes e) =
          ap₂ (λ (b : Bool) (n : ℕ). not (eqb (cond b n 0) 0)) (eq-eqb (home_in s w c) control e) (k.held c e) ∙ sym (eq-eqb (home_in s w c) control e)
      go (no n) =
          ap (λ (b : Bool). not (eqb (cond b (target s (graph_of s w) control c) 0) 0)) (ne_eqb (home_in s w c) control n) ∙ sym (ne_eqb (home_in s w c) control n)

  -- all objects of the control space live on
  slides-all : slides s H control E ≡ slide_below lies own (cell_count s)
  unfolding slides goals heap_of
  slides-all =
      slides-same (λ c. not (eqb (get_or (goals s H (only control) E) c 0) 0)) lies own (cell_count s)
      (λ c l.
      ap (λ (n : ℕ). not (eqb n 0)) (get_d-listed (λ d. goal_of H (only control) E (object_at H d)) (cell_count s) c 0 l ∙ goal-of s w k.whole control control-pos c)
      ∙ lives-lies c)

  lies-used : (c : ℕ) → home_in s w c ≡ control → InUse s w.tables c × (owner_in s w (page_of c) ≡ control)
  lies-used c e =
      let b = alive-used s w c (λ (z : home_in s w c ≡ 0). omega arith) in
      (begins-used s w.cells w.tables c b, sym (used-home s w c b) ∙ e)

  -- each goes to the cell where it lies
  stays-own : (c : ℕ) → home_in s w c ≡ control → c < cell_count s → new_cell (slide_below lies own (cell_count s)) c ≡ c
  stays-own c e l =
      let u = lies-used c e in
      let q = page_of c in
      let rank : count lies c ≡ 16 * own_below control ps q + place_of c =
      ap (count lies) (let z : c ≡ cell_on q (place_of c) = omega arith in z) ∙ below-cell q (place_of c) u.0.page u.1 (omega (arith, u.0.place)) in
      let page : count lies c / 16 ≡ own_below control ps q = omega (arith, rank) in
      let at : get_or own (own_below control ps q) 0 ≡ q =
      owned_at control ps 0 q (omega (arith, pages-count s w.tables, u.0.page)) (owner-there q u.0.page ∙ u.1) ∙ omega arith in
      slid-place lies own (cell_count s) c (eq-eqb (home_in s w c) control e) l
      ∙ omega (arith, ap (λ (n : ℕ). get_or own n 0) page ∙ at, rank)

  stays : (c : ℕ) → new_cell (slide_below lies own (cell_count s)) c ≡ c
  stays c = go (ℕ_discrete (home_in s w c) control) (dec_lt c (cell_count s))
    where
      go : Dec (home_in s w c ≡ control) → Dec (c < cell_count s) → new_cell (slide_below lies own (cell_count s)) c ≡ c
      go (yes e) (yes l) = stays-own c e l
      go (yes e) (no n) = slid-still lies own (cell_count s) c (λ b l. n l)
      go (no n) d = slid-still lies own (cell_count s) c (λ b l. n (eqb-true (home_in s w c) control b))

  -- ---- the pages

  abbrev K : ℕ
  K = count lies (cell_count s)

  -- none past the last one of a page that is not full
  none-past : (y : ℕ) → y < s.pages → owner_in s w y ≡ control → used_in s w y < page_cells → (c : ℕ) → cell_on y (used_in s w y) ≤ c → home_in s w c ≡ control → ⊥
  none-past y l e part c h z = go (dec_lt y (page_of c)) (lies-used c z)
    where
      go : Dec (y < page_of c) → InUse s w.tables c × (owner_in s w (page_of c) ≡ control) → ⊥
      go (yes m) u = omega (arith, k.full y (page_of c) m u.0.page e u.1)
      go (no m) u = let same : page_of c ≡ y = omega arith in omega (arith, u.0.place, ap (used_in s w) same)

  -- a page of the control space has as many as the pages below it leave
  used-left : (y : ℕ) → y < s.pages → owner_in s w y ≡ control → min (K - 16 * own_below control ps y) 16 ≡ used_in s w y
  used-left y l e = go (dec_lt (used_in s w y) page_cells)
    where
      here : count lies (cell_on y (used_in s w y)) ≡ 16 * own_below control ps y + used_in s w y
      here = below-cell y (used_in s w y) l e (omega arith)

      high : used_in s w y ≤ page_cells
      high = (k.whole.pages y l).filled.cells

      most : cell_on y (used_in s w y) ≤ cell_count s
      most = omega (arith, high)

      go : Dec (used_in s w y < page_cells) → min (K - 16 * own_below control ps y) 16 ≡ used_in s w y
      go (yes p) =
          omega (
            arith,
            here,
            high,
            count-to lies (cell_on y (used_in s w y)) (cell_count s) most (λ c h m. ne_eqb (home_in s w c) control (none-past y l e p c h)),
          )
      go (no p) = omega (arith, here, high, sum_mono (λ c. bit (lies c)) (cell_on y (used_in s w y)) (cell_count s) most)

  page-again : (y : ℕ) → y < s.pages → nth_page (filled_by control K ps) y ≡ nth_page ps y
  page-again y l =
      filled_at control K ps y (omega (arith, pages-count s w.tables)) ∙ go (ℕ_discrete (owner_in s w y) control)
    where
      go : Dec (owner_in s w y ≡ control) → cond (eqb (nth_page ps y).owner control) (filled control (K - 16 * own_below control ps y)) (nth_page ps y) ≡ nth_page ps y
      go (no n) =
          ap (λ (b : Bool). cond b (filled control (K - 16 * own_below control ps y)) (nth_page ps y)) (ne_eqb (nth_page ps y).owner control (λ z. n (sym (owner-there y l) ∙ z)))
      go (yes e) =
          let u = used-left y l e in
          let some : K - 16 * own_below control ps y ≡ 0 → ⊥ = λ z. omega (arith, u, (k.whole.pages y l).filled.taken (omega arith)) in
          ap₂ (λ (b c : Bool). cond b (cond c free_page (record { owner = control; used = min (K - 16 * own_below control ps y) 16 })) (nth_page ps y))
          (eq-eqb (nth_page ps y).owner control (owner-there y l ∙ e)) (ne_eqb (K - 16 * own_below control ps y) 0 some)
          ∙ ap₂ (λ (o n : ℕ). record { owner = o; used = n }) (sym e) u ∙ sym (page-there s w.tables y l)

  pages-again : filled_by control K ps ≡ ps
  pages-again =
      ext_get_or free_page (filled_by control K ps) ps (filled-long control K ps)
      (λ y l. page-again y (omega (arith, filled-long control K ps, pages-count s w.tables)))

  occupancy-again : slid s H control E ≡ H.occupancy
  unfolding slid heap_of
  occupancy-again =
      ap (λ (ms : List Move). record { cells = map (new_cell ms) H.occupancy.cells; pages = filled_by control (length ms) ps }) slides-all
      ∙ ap₂ (λ (cs : List ℕ) (qs : Pages). record { cells = cs; pages = qs })
      (map-still (new_cell (slide_below lies own (cell_count s))) stays H.occupancy.cells)
      (ap (λ (n : ℕ). filled_by control n ps) (slides-count lies own (cell_count s)) ∙ pages-again)

  -- A COLLECTION LEAVES THE HEAP AS IT IS
  pub collected-again : collected s H ≡ H
  collected-again = λ i. record { heap = H.heap; homes = homes-again i; counters = counters-again i; occupancy = occupancy-again i }

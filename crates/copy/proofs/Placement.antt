-- The survivors are copied as the rules place them (02, W3): by target region number, then by old cell number, each to the cell that a new object
-- there would take. `goal` is the region that the object in a cell goes to, 0 if none goes from there.
use Rattle.std.specs.Prelude.{◌≡◌, ◌≢◌, List, Bool, eqb}
use Rattle.std.proofs.Math.Path.{refl, sym, ap, ap₂}
use Rattle.std.proofs.Common.{◌∙◌, ⊎_elim, eq-eqb, ne_eqb}
use Rattle.std.proofs.Math.Logic.{by_cases}
use Rattle.std.proofs.Math.Bool.{cond}
use Prim.Native.Nat.{ℕ, zero, suc, ◌+◌, ◌-◌, ◌*◌, ◌/◌, ◌%◌, ◌≤◌, ◌<◌}
use Rattle.std.proofs.Math.Decide.{ℕ_discrete, dec_lt}
use native.Mathlib.Omega.{arith}
use Rattle.rules.specs.declared.Sizes.{Sizes}
use Rattle.rules.specs.Regions.{regions}
use Rattle.rules.specs.Pages.{Pages, take, Placing, none_moved, place, place_below, place_all, new_cell}
use Rattle.layout.specs.Cells.{work_of, ref_to, page_of, most_cells, count-page}
use Rattle.layout.specs.Marks.{marked, mark?}
use Rattle.layout.specs.Objects.{Begins, begins-page, cell_count}
use Rattle.layout.specs.Words.{pages_at}
use Rattle.promises.specs.Regular.{pages-alike}
use Rattle.promises.proofs.TakenPage.{took-takes}
use Rattle.copy.specs.Moves.{Step, mid-pages, step-on, step-link, step_keeps}
use Rattle.copy.specs.Passing.{Ready, Moves, Moves.none, Moves.more, order, moves-back}
use Rattle.copy.specs.Copying.{Plan, Copy, copy-clean}

-- ---- the places of the rules in one row: those of region 1, then those of region 2, and so on

module _ (goal : ℕ → ℕ) (p : Placing) where
  -- the region and the cell of place i
  abbrev region_next : ℕ → ℕ
  region_next i = i / most_cells + 1

  abbrev cell_next : ℕ → ℕ
  cell_next i = i % most_cells

  unfoldable walk : ℕ → Placing
  walk zero = p
  walk (suc i) = let q = walk i in cond (eqb (goal (cell_next i)) (region_next i)) (place (region_next i) (cell_next i) q) q

  walk-yes : (i : ℕ) → goal (cell_next i) ≡ region_next i → walk (suc i) ≡ place (region_next i) (cell_next i) (walk i)
  unfolding walk
  walk-yes i e = ap (λ (b : Bool). cond b (place (region_next i) (cell_next i) (walk i)) (walk i)) (eq-eqb (goal (cell_next i)) (region_next i) e)

  walk_no : (i : ℕ) → goal (cell_next i) ≢ region_next i → walk (suc i) ≡ walk i
  unfolding walk
  walk_no i n = ap (λ (b : Bool). cond b (place (region_next i) (cell_next i) (walk i)) (walk i)) (ne_eqb (goal (cell_next i)) (region_next i) n)

  -- places from i on to which nobody goes
  walk-gap : (i d : ℕ) → ((j : ℕ) → i ≤ j → j < i + d → goal (cell_next j) ≢ region_next j) → walk (i + d) ≡ walk i
  walk-gap i zero h = ap walk (let e : i + 0 ≡ i = omega arith in e)
  walk-gap i (suc d) h =
      ap walk (let e : i + suc d ≡ suc (i + d) = omega arith in e) ∙ walk_no (i + d) (h (i + d) (omega arith) (omega arith)) ∙ walk-gap i d (λ j l m. h j l (omega arith))

  walk-to : (i k : ℕ) → i ≤ k → ((j : ℕ) → i ≤ j → j < k → goal (cell_next j) ≢ region_next j) → walk k ≡ walk i
  walk-to i k l h = ap walk (let e : k ≡ i + (k - i) = omega arith in e) ∙ walk-gap i (k - i) (λ j a b. h j a (omega arith))

  -- a cell from which nobody goes
  walk-still : (c : ℕ) → goal c ≡ 0 → new_cell p.moves c ≡ c → (i : ℕ) → new_cell (walk i).moves c ≡ c
  unfolding walk new_cell
  walk-still c z s zero = s
  walk-still c z s (suc i) = go (ℕ_discrete (goal (cell_next i)) (region_next i)) (walk-still c z s i)
    where
      go : Dec (goal (cell_next i) ≡ region_next i) → new_cell (walk i).moves c ≡ c → new_cell (walk (suc i)).moves c ≡ c
      go (no n) h = ap (λ (q : Placing). new_cell q.moves c) (walk_no i n) ∙ h
      go (yes e) h =
          ap (λ (q : Placing). new_cell q.moves c) (walk-yes i e)
          ∙ ap (λ (b : Bool). cond b (take (walk i).pages (region_next i)).cell (new_cell (walk i).moves c)) (ne_eqb (cell_next i) c (λ (d : cell_next i ≡ c). omega (arith, ap goal d)))
          ∙ h

  -- ---- they are the rules'

  row : (k : ℕ) → walk (most_cells * k) ≡ place_all goal most_cells k p → (c : ℕ) → c ≤ most_cells → walk (most_cells * k + c) ≡ place_below goal (suc k) c (place_all goal most_cells k p)
  unfolding place_below walk
  row k s zero l = ap walk (let e : most_cells * k + 0 ≡ most_cells * k = omega arith in e) ∙ s
  row k s (suc c) l =
      let i = most_cells * k + c in
      let x : cell_next i ≡ c = omega arith in
      let y : region_next i ≡ suc k = omega arith in
      ap walk (let e : most_cells * k + suc c ≡ suc i = omega arith in e)
      ∙ ap₂ (λ (a q : ℕ). cond (eqb (goal a) q) (place q a (walk i)) (walk i)) x y
      ∙ ap (λ (z : Placing). cond (eqb (goal c) (suc k)) (place (suc k) c z) z) (row k s c (omega arith))

  rows : (k : ℕ) → walk (most_cells * k) ≡ place_all goal most_cells k p
  unfolding place_all walk
  rows zero = refl
  rows (suc k) = ap walk (let e : most_cells * suc k ≡ most_cells * k + most_cells = omega arith in e) ∙ row k (rows k) most_cells (omega arith)

-- cells past n from which nobody goes
module _ (goal : ℕ → ℕ) (n : ℕ) (none : (c : ℕ) → n ≤ c → goal c ≡ 0) where
  below-past : (q d : ℕ) (p : Placing) → 0 < q → place_below goal q (n + d) p ≡ place_below goal q n p
  unfolding place_below
  below-past q zero p l = ap (λ (m : ℕ). place_below goal q m p) (let e : n + 0 ≡ n = omega arith in e)
  below-past q (suc d) p l =
      ap (λ (m : ℕ). place_below goal q m p) (let e : n + suc d ≡ suc (n + d) = omega arith in e)
      ∙ ap (λ (b : Bool). cond b (place q (n + d) (place_below goal q (n + d) p)) (place_below goal q (n + d) p)) (ne_eqb (goal (n + d)) q (λ (e : goal (n + d) ≡ q). omega (arith, none (n + d) (omega arith))))
      ∙ below-past q d p l

  all_past : (d k : ℕ) (p : Placing) → place_all goal (n + d) k p ≡ place_all goal n k p
  unfolding place_all
  all_past d zero p = refl
  all_past d (suc k) p = below-past (suc k) d (place_all goal (n + d) k p) (omega arith) ∙ ap (place_below goal (suc k) n) (all_past d k p)

-- ---- the moves

moves_from : {p : Sizes} {G : ℕ → Type 0} {n : ℕ} {W T : List ℕ} {m : ℕ} {W' T' : List ℕ} → Moves p G n W T m W' T' → n ≤ m
moves_from (none l) = l
moves_from (more b h u v s) = let l = moves_from b in omega arith

-- goal says where each survivor goes, and that nobody else goes anywhere
pub record GoalsMarked (p : Sizes) (goal : ℕ → ℕ) (W T : List ℕ) : Type 0 where
  pub goes : (c : ℕ) → page_of c < p.pages → marked p T c ≡ 1 → goal c ≡ work_of W c
  pub stays : (c : ℕ) → marked p T c ≡ 0 → goal c ≡ 0
  pub past : (c : ℕ) → cell_count p ≤ c → goal c ≡ 0

module _ {p : Sizes} {goal : ℕ → ℕ} {W T : List ℕ} (few : p.pages ≤ 1024) (a : Ready p W T) (gs : GoalsMarked p goal W T) (real : (c : ℕ) → page_of c < p.pages → marked p T c ≡ 1 → 1 ≤ goal c) where
  abbrev walked : ℕ → Placing
  walked = walk goal (none_moved (pages_at p T))

  -- who goes somewhere is a survivor, in a cell of the heap
  goes-low : (c : ℕ) → 1 ≤ goal c → c < cell_count p
  goes-low c l = by_cases (dec_lt c (cell_count p)) (λ m. m) (λ m. absurd (let z : ⊥ = omega (arith, gs.past c (omega arith)) in z))

  goes-marked : (c : ℕ) → 1 ≤ goal c → marked p T c ≡ 1
  goes-marked c l = ⊎_elim (λ off. absurd (let z : ⊥ = omega (arith, gs.stays c off) in z)) (λ on. on) (mark? p T c)

  -- the survivors with places below m, and no others, have moved, to the cells that the rules say
  record PlacedTo (m : ℕ) (W' T' : List ℕ) : Type 0 where
    only : (c : ℕ) → page_of c < p.pages → marked p T c ≡ 1 → marked p T' c ≡ 0 → order (goal c) c < m
    pages : pages_at p T' ≡ (walked (m - most_cells)).pages
    cells : (c : ℕ) → page_of c < p.pages → marked p T c ≡ 1 → marked p T' c ≡ 0 → work_of W' c ≡ ref_to (new_cell (walked (m - most_cells)).moves c)
    begins : (c : ℕ) → page_of c < p.pages → marked p T c ≡ 1 → Begins p W' T' c

  -- every survivor with a place below m has moved
  abbrev Done : ℕ → List ℕ → Type 0
  Done m T' = (c : ℕ) → page_of c < p.pages → marked p T c ≡ 1 → order (goal c) c < m → marked p T' c ≡ 0

  -- nobody goes to places from m on below k where all of these have moved, and only those below m
  gap : (m k : ℕ) → ((c : ℕ) → page_of c < p.pages → marked p T c ≡ 1 → order (goal c) c < k → order (goal c) c < m)
      → most_cells ≤ m → m ≤ k → walked (k - most_cells) ≡ walked (m - most_cells)
  gap m k h low l =
      walk-to goal (none_moved (pages_at p T)) (m - most_cells) (k - most_cells) (omega arith)
      (λ j u v e.
      let c = j % most_cells in
      let g : 1 ≤ goal c = omega arith in
      let b : c < cell_count p = goes-low c g in
      let z = h c (count-page c b) (goes-marked c g) (omega arith) in
      omega arith)

  -- one survivor more, from cell c
  module _ {G : ℕ → Type 0} {m k : ℕ} {W' T' W'' T'' : List ℕ} {g q c : ℕ} (b : Moves p G most_cells W T m W' T') (u : m ≤ order g c) (v : order g c < k) (s : Step p g q c W' T' W'' T'')
      (d : Done k T'') where
    low : page_of c < p.pages
    low = begins-page p W' T' c s.can.used

    was : (marked p T c ≡ 1) × (work_of W' c ≡ work_of W c)
    was = moves-back a b c low s.can.on

    goal-c : goal c ≡ g
    goal-c = gs.goes c low was.0 ∙ sym was.1 ∙ s.can.target

    c-low : c < most_cells
    c-low = omega (arith, low)

    start : most_cells ≤ m
    start = moves_from b

    -- another survivor has moved after the step exactly if it had before it
    before : (x : ℕ) → page_of x < p.pages → x ≢ c → marked p T'' x ≡ 0 → marked p T' x ≡ 0
    before x l n off = sym (step-on s x l n) ∙ off

    step-done : Done m T'
    step-done x l on h = before x l (λ (e : x ≡ c). omega (arith, goal-c, ap goal e)) (d x l on (omega arith))

    module _ (i : PlacedTo m W' T') where
      -- up to this survivor's place nobody else goes
      to-here : walked (order g c - most_cells) ≡ walked (m - most_cells)
      to-here =
          gap m (order g c) (λ x l on h. i.only x l on (before x l (λ (e : x ≡ c). omega (arith, goal-c, ap goal e)) (d x l on (omega arith)))) start u

      at_here : walked (order g c + 1 - most_cells) ≡ place g c (walked (m - most_cells))
      at_here =
          let j = order g c - most_cells in
          let x : j % most_cells ≡ c = omega (arith, s.can.real, c-low) in
          let y : j / most_cells + 1 ≡ g = omega (arith, s.can.real, c-low) in
          ap walked (let e : order g c + 1 - most_cells ≡ suc j = omega (arith, s.can.real) in e)
          ∙ walk-yes goal (none_moved (pages_at p T)) j (ap goal x ∙ goal-c ∙ sym y)
          ∙ ap₂ (λ (r e : ℕ). place r e (walked j)) y x ∙ ap (place g c) to-here

      -- and from there on to k
      past-here : walked (k - most_cells) ≡ place g c (walked (m - most_cells))
      past-here =
          gap (order g c + 1) k
          (λ x l on h. by_cases (ℕ_discrete x c) (λ e. omega (arith, goal-c, ap goal e)) (λ n. let y = i.only x l on (before x l n (d x l on h)) in omega arith))
          (omega (arith, start)) (omega arith) ∙ at_here

      takes : (s.new ≡ (take (pages_at p T') g).cell) × (pages_at p s.mid ≡ (take (pages_at p T') g).pages)
      takes = took-takes s.can.regular s.can.real s.took

      step-placed : PlacedTo k W'' T''
      unfolding new_cell
      step-placed =
          record {
            only = λ x l on off. by_cases (ℕ_discrete x c) (λ e. omega (arith, goal-c, ap goal e)) (λ n. let y = i.only x l on (before x l n off) in omega arith);
            pages =
                pages-alike p s.mid T'' (mid-pages s) ∙ takes.1 ∙ ap (λ (ps : Pages). (take ps g).pages) i.pages
                ∙ sym (ap (λ (z : Placing). z.pages) past-here);
            cells = λ x l on off. here x l on off (ℕ_discrete x c) ∙ sym (ap (λ (z : Placing). ref_to (new_cell z.moves x)) past-here);
            begins = λ x l on. step_keeps s x (i.begins x l on);
          }
        where
          X : Placing
          X = walked (m - most_cells)

          here : (x : ℕ) → page_of x < p.pages → marked p T x ≡ 1 → marked p T'' x ≡ 0 → Dec (x ≡ c) → work_of W'' x ≡ ref_to (new_cell (place g c X).moves x)
          here x l on off (yes e) =
              ap (work_of W'') e ∙ s.copied.forward ∙ ap ref_to (takes.0 ∙ ap (λ (ps : Pages). (take ps g).cell) i.pages)
              ∙ sym (ap (λ (t : Bool). ref_to (cond t (take X.pages g).cell (new_cell X.moves x))) (eq-eqb c x (sym e)))
          here x l on off (no n) =
              step-link s x (i.begins x l on) n ∙ i.cells x l on (before x l n off)
              ∙ sym (ap (λ (t : Bool). ref_to (cond t (take X.pages g).cell (new_cell X.moves x))) (ne_eqb c x (λ e. n (sym e))))

  placed_moves : {G : ℕ → Type 0} {m : ℕ} {W' T' : List ℕ} → Moves p G most_cells W T m W' T' → Done m T' → PlacedTo m W' T'
  unfolding walk
  placed_moves (none {m = m} l) d =
      record {
        only = λ c q on off. absurd (let z : ⊥ = omega arith in z);
        pages = ap (λ (x : Placing). x.pages) (sym (gap most_cells m none_below (omega arith) l ∙ ap walked (let e : most_cells - most_cells ≡ 0 = omega arith in e)));
        cells = λ c q on off. absurd (let z : ⊥ = omega arith in z);
        begins = a.used;
      }
    where
      none_below : (c : ℕ) → page_of c < p.pages → marked p T c ≡ 1 → order (goal c) c < m → order (goal c) c < most_cells
      none_below c q on l = absurd (let z : ⊥ = omega (arith, d c q on l) in z)
  placed_moves (more b h u v s) d = step-placed b u v s d (placed_moves b (step-done b u v s d))

-- moves to regions from place 0 on have places of region 1 at least
moves-raise : {p : Sizes} {G : ℕ → Type 0} {W T : List ℕ} {m : ℕ} {W' T' : List ℕ} → Moves p G 0 W T m W' T' → (k : ℕ) → m ≤ k → most_cells ≤ k → Moves p G most_cells W T k W' T'
moves-raise (none l) k e f = none {m = k} f
moves-raise (more {g = g} {c = c} b h u v s) k e f =
    more {m = order g c} {k = k} {g = g} {c = c} (moves-raise b (order g c) u (omega (arith, s.can.real))) h (omega arith) (omega arith) s

module _ {p : Sizes} {n : ℕ} {gs : ℕ → ℕ} {W T W' T' : List ℕ} (a : Plan p n gs W T) (b : Copy p n gs n W T W' T') (goal : ℕ → ℕ) (goals : GoalsMarked p goal W T) where
  abbrev base : Placing
  base = none_moved (pages_at p T)

  abbrev placing : Placing
  placing = place_all goal (cell_count p) (regions p) base

  -- after the last place of the last region
  abbrev all : ℕ
  all = most_cells * regions p + most_cells

  goal-level : (c : ℕ) → page_of c < p.pages → marked p T c ≡ 1 → (1 ≤ goal c) × (goal c ≤ regions p)
  goal-level c l on =
      let j = a.all c l on in
      let e = goals.goes c l on ∙ j.2 in
      (omega (arith, e, a.real j.0 j.1), omega (arith, e, a.low j.0 j.1))

  placed : PlacedTo a.ready.room.few a.ready goals (λ c l on. (goal-level c l on).0) (b.last + all) W' T'
  placed =
      placed_moves a.ready.room.few a.ready goals (λ c l on. (goal-level c l on).0) (moves-raise b.moves (b.last + all) (omega arith) (omega arith))
      (λ c l on m. copy-clean a b c l)

  walked_all : walk goal base (b.last + all - most_cells) ≡ placing
  walked_all =
      gap a.ready.room.few a.ready goals (λ c l on. (goal-level c l on).0) all (b.last + all)
      (λ c l on m. let r = goal-level c l on in omega (arith, r.0, r.1, a.ready.room.few)) (omega arith) (omega arith)
      ∙ ap (walk goal base) (let e : all - most_cells ≡ most_cells * regions p = omega arith in e) ∙ rows goal base (regions p)
      ∙ ap (λ (k : ℕ). place_all goal k (regions p) base) (let e : most_cells ≡ cell_count p + (most_cells - cell_count p) = omega (arith, a.ready.room.few) in e)
      ∙ all_past goal (cell_count p) goals.past (most_cells - cell_count p) (regions p) base

  -- THE COPIES ARE WHERE THE RULES PLACE THEM
  pub copy-pages : pages_at p T' ≡ placing.pages
  copy-pages = placed.pages ∙ ap (λ (x : Placing). x.pages) walked_all

  pub copy-cells : (c : ℕ) → page_of c < p.pages → marked p T c ≡ 1 → work_of W' c ≡ ref_to (new_cell placing.moves c)
  copy-cells c l on = placed.cells c l on (copy-clean a b c l) ∙ ap (λ (x : Placing). ref_to (new_cell x.moves c)) walked_all

  -- and nobody else moves
  pub copy-still : (c : ℕ) → goal c ≡ 0 → new_cell placing.moves c ≡ c
  unfolding new_cell
  copy-still c z = ap (λ (x : Placing). new_cell x.moves c) (sym walked_all) ∙ walk-still goal base c z refl (b.last + all - most_cells)

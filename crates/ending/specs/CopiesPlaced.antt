-- The survivors of an end are copied to the cells that the rules give them, and its pages after the release are those that the rules leave (02, W3).
use Rattle.std.specs.Prelude.{◌≡◌, List, Bool, ℕ, ◌+◌, ◌<◌}
use Rattle.std.proofs.Math.Path.{sym, ap}
use Rattle.std.proofs.Common.{ap₂, ◌∙◌, ⊎_elim, arith, add-one, eq-eqb, ne_eqb}
use Rattle.std.proofs.Math.Bool.{cond}
use Rattle.std.proofs.Math.Decide.{ℕ_discrete}
use Rattle.lists.specs.Listed.{listed_same, map-listed}
use Rattle.rules.specs.declared.Sizes.{Sizes}
use Rattle.rules.specs.Regions.{region_at, regions, only}
use Rattle.rules.specs.Graph.{target}
use Rattle.rules.specs.Pages.{Page, Pages, free_among, Placing, free_page, none_moved, place_all, released, new_cell}
use Rattle.layout.specs.Places.{owner_of}
use Rattle.layout.specs.Cells.{work_of, page_of}
use Rattle.layout.specs.Marks.{marked}
use Rattle.layout.specs.Objects.{begins-page, begins-low}
use Rattle.layout.specs.Words.{Words, cell_count, home_in, graph_of, page_in, pages_at, pages_in}
use Rattle.promises.specs.Reading.{used-home, alive-used, no-home}
use Rattle.promises.specs.Ends.{part_of, Outside, Survivor, Lives, lives-how}
use Rattle.release.specs.Release.{Blank, Alike}
use Rattle.ended.specs.Evacuated.{goal_in, copies_in}
use Rattle.promises.specs.Regular.{pages-alike}
use Rattle.promises.proofs.TakenPage.{free-among}
use Rattle.ended.specs.EndQuestion.{pages_needed}
use Rattle.ending.specs.MarkedReady.{pages-same}
use Rattle.ending.specs.PagesEnough.{free-same, needs-are}
use Rattle.copy.specs.Copying.{Plan, Copy}
use Rattle.copy.proofs.Placement.{GoalsMarked, copy-pages, copy-cells, copy-still}
use Rattle.ending.specs.Copied.{HasMoved, placed, placed-still, placed-moved, outside-idle, on}
use Rattle.ending.specs.Ending.{Ending, room_of}

-- ---- where the object in each cell goes, by marks and word 1

module _ {s : Sizes} {t l r : ℕ} {w w₁ : Words} (b : Ending s t l r w w₁) (pos : 0 < r) where
  goal-marked : (c : ℕ) → page_of c < s.pages → marked s w₁.tables c ≡ 1 → goal_in s w r c ≡ work_of w₁.cells c
  unfolding goal_in
  goal-marked c low on =
      let o = b.marks.only c low on in
      ap (λ (x : Bool). cond x (target s (graph_of s w) r c) 0) (eq-eqb (home_in s w c) r (used-home s w c o.0 ∙ o.1)) ∙ sym (b.marks.goes c o.0 o.1)

  goal-unmarked : (c : ℕ) → marked s w₁.tables c ≡ 0 → goal_in s w r c ≡ 0
  unfolding goal_in
  goal-unmarked c off = go (ℕ_discrete (home_in s w c) r) (ℕ_discrete (target s (graph_of s w) r c) 0)
    where
      go : Dec (home_in s w c ≡ r) → Dec (target s (graph_of s w) r c ≡ 0) → goal_in s w r c ≡ 0
      go (no n) d = ap (λ (x : Bool). cond x (target s (graph_of s w) r c) 0) (ne_eqb (home_in s w c) r n)
      go (yes e) (yes z) = ap (λ (x : Bool). cond x (target s (graph_of s w) r c) 0) (eq-eqb (home_in s w c) r e) ∙ z
      go (yes e) (no n) =
          let u = alive-used s w c (λ (z : home_in s w c ≡ 0). omega arith) in
          absurd (let z : ⊥ = omega (arith, b.marks.survives c u (sym (used-home s w c u) ∙ e) (omega arith)) in z)

  -- the pages are not marked
  pages-before : pages_at s w₁.tables ≡ pages_in s w
  pages-before = pages-alike s w.tables w₁.tables (pages-same s w b.whole (room_of b) (part_of s w r) w₁ b.marks)

  -- an object elsewhere goes nowhere, nor does what is past the cells
  goal-away : (c : ℕ) → (home_in s w c ≡ r → ⊥) → goal_in s w r c ≡ 0
  unfolding goal_in
  goal-away c n = ap (λ (x : Bool). cond x (target s (graph_of s w) r c) 0) (ne_eqb (home_in s w c) r n)

  goals-marked : GoalsMarked s (goal_in s w r) w₁.cells w₁.tables
  goals-marked =
      record {
        goes = goal-marked;
        stays = goal-unmarked;
        past = λ c h. goal-away c (λ (e : home_in s w c ≡ r). omega (arith, no-home s w c (λ u. omega (arith, begins-low s w.cells w.tables c u))));
      }

  -- ---- the copy

  module _ (p : Plan s l (region_at s t) w₁.cells w₁.tables) {W T : List ℕ} (c : Copy s l (region_at s t) l w₁.cells w₁.tables W T) where
    same-placing : place_all (goal_in s w r) (cell_count s) (regions s) (none_moved (pages_at s w₁.tables)) ≡ copies_in s w r
    same-placing = ap (λ (ps : Pages). place_all (goal_in s w r) (cell_count s) (regions s) (none_moved ps)) pages-before

    pub copied-pages : pages_at s T ≡ (copies_in s w r).pages
    copied-pages = copy-pages p c (goal_in s w r) goals-marked ∙ ap (λ (x : Placing). x.pages) same-placing

    -- THE PACKING TAKES JUST THE PAGES THAT QUESTION 13 COUNTS, out of those that were free beforehand
    pub copies-take : free_among (pages_in s w) ≡ free_among (copies_in s w r).pages + pages_needed s w r
    copies-take =
        sym (free-among s w.tables) ∙ sym (free-same b) ∙ c.took
        ∙ ap₂ ◌+◌ (free-among s T ∙ ap free_among copied-pages) (needs-are b)

    pub copied-cells : HasMoved s w w₁ (part_of s w r) W T → (x : ℕ) → Lives s w (part_of s w r) x → placed W x ≡ new_cell (copies_in s w r).moves x
    copied-cells h x q = ⊎_elim outside survivor (lives-how q) ∙ ap (λ (z : Placing). new_cell z.moves x) same-placing
      where
        to : ℕ
        to = new_cell (place_all (goal_in s w r) (cell_count s) (regions s) (none_moved (pages_at s w₁.tables))).moves x

        outside : Outside s w (part_of s w r) x → placed W x ≡ to
        outside o = placed-still W x (outside-idle h x o) ∙ sym (copy-still p c (goal_in s w r) goals-marked x (goal-away x (λ e. o.out (sym (used-home s w x o.used) ∙ e))))

        survivor : Survivor s w (part_of s w r) x → placed W x ≡ to
        survivor v =
            let e = copy-cells p c (goal_in s w r) goals-marked x (begins-page s w.cells w.tables x v.used) (on h x v) in
            placed-moved W x to (e ∙ add-one to)

-- ---- the release

-- r's pages are blank afterwards, and the others as they were
pub pages-released : (s : Sizes) (r : ℕ) (T T' : List ℕ) → ((page : ℕ) → page < s.pages → owner_of s T page ≡ r → Blank s T' page)
    → ((page : ℕ) → page < s.pages → (owner_of s T page ≡ r → ⊥) → Alike s T T' page) → pages_at s T' ≡ released (only r) (pages_at s T)
unfolding pages_at released
pages-released s r T T' blank alike =
    listed_same (page_in s T') (λ i. after (page_in s T i)) s.pages (λ i l. go i l (ℕ_discrete (owner_of s T i) r)) ∙ sym (map-listed after (page_in s T) s.pages)
  where
    after : Page → Page
    after p = cond (only r p.owner) free_page p

    go : (i : ℕ) → i < s.pages → Dec (owner_of s T i ≡ r) → page_in s T' i ≡ after (page_in s T i)
    go i l (yes e) =
        let z = blank i l e in
        ap₂ (λ (x y : ℕ). record { owner = x; used = y }) z.owner z.used ∙ sym (ap (λ (x : Bool). cond x free_page (page_in s T i)) (eq-eqb (owner_of s T i) r e))
    go i l (no n) =
        let z = alike i l n in
        ap₂ (λ (x y : ℕ). record { owner = x; used = y }) z.owner z.used ∙ sym (ap (λ (x : Bool). cond x free_page (page_in s T i)) (ne_eqb (owner_of s T i) r n))

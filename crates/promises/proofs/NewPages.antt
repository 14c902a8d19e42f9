-- Question 13 of a new object, in words: it says no exactly if its region has no partly filled page and no page is free.
-- Its region, the innermost of its thread, is one of the regions and open.
use Rattle.std.specs.Prelude.{ℕ, zero, suc, ◌≤◌, ◌<◌, ◌≡◌, ◌⊎◌, List, [], ◌∷◌, ◌++◌, true, false, leb}
use Rattle.std.proofs.Common.{arith, sym, ap, ◌∙◌, ⊎_elim, le-leb}
use Rattle.std.proofs.Math.Decide.{ℕ_discrete}
use Rattle.std.proofs.Math.Logic.{by_cases}
use Rattle.std.proofs.lemmas.Bool.{lt-leb}
use Rattle.lists.specs.Counting.{sum-part, sum-none}
use Rattle.rules.specs.declared.Sizes.{Sizes}
use Rattle.rules.specs.NeverFreeing.{Object}
use Rattle.rules.specs.Regions.{region_at, thread_of, regions}
use Rattle.rules.specs.Graph.{new_pages, free_pages}
use Rattle.rules.specs.Rules.{Regioned, graph, one_made, taken_by}
use Rattle.laws.specs.RulesLaws.{region-pos}
use Rattle.laws.specs.RegionLaws.{thread-at, level-at, region-high, region-bounds}
use Rattle.laws.specs.Counts.{new-pages}
use Rattle.laws.specs.AfterLaws.{graph-new}
use Rattle.layout.specs.Places.{depth_of}
use Rattle.layout.specs.Cells.{place_of}
use Rattle.layout.specs.Words.{Words, depth_in, owner_in}
use Rattle.promises.specs.Whole.{WholeFor, Open, Partial, objects_of}
use Rattle.promises.specs.Regular.{whole-regular}
use Rattle.promises.specs.StandsFor.{StandsFor}
use Rattle.promises.specs.Agreed.{objects-agree}
use Rattle.promises.specs.Arriving.{more_pages}
use Rattle.promises.specs.OwnedPages.{owned_one, pages_owned, owned-yes, owned-no}
use Rattle.promises.proofs.OwnedPages.{partly-filled, some-partly, objects-on, heap-free}

-- ---- the innermost region of a thread

-- a region of a thread at one of its levels is open
pub level-open : (s : Sizes) (T : List ℕ) (t l : ℕ) → t < s.threads → l ≤ s.depth → l ≤ depth_of T t → 1 < region_at s t l → Open s T (region_at s t l)
unfolding region_at
level-open s T t zero th low deep z = absurd (let q : ⊥ = omega arith in q)
level-open s T t (suc l) th low deep z =
    let a : thread_of s (region_at s t (suc l)) ≡ t = thread-at s t l (omega arith) in
    record { real = region-high s t l; thread = omega arith; level = omega (arith, level-at s t l (omega arith), ap (depth_of T) a) }

abbrev pub innermost_in : Sizes → Words → ℕ → ℕ
innermost_in s w t = region_at s t (depth_in w t)

module _ (s : Sizes) (w : Words) (k : WholeFor s w) (t : ℕ) (l : t < s.threads) where
  pub innermost-pos : 1 ≤ innermost_in s w t
  innermost-pos = region-pos s t (depth_in w t)

  pub innermost-low : innermost_in s w t ≤ regions s
  innermost-low = (region-bounds s t (depth_in w t) l (k.depths t l)).1

  pub innermost-open : 1 < innermost_in s w t → Open s w.tables (innermost_in s w t)
  innermost-open = level-open s w.tables t (depth_in w t) l (k.depths t l) (omega arith)

-- a page of region g that is partly filled; a page that is free
abbrev pub PartlyFilled : Sizes → Words → ℕ → Type 0
PartlyFilled s w g = (page : ℕ) × (page < s.pages) × Partial s w.tables g page

abbrev pub FreePage : Sizes → Words → Type 0
FreePage s w = (page : ℕ) × (page < s.pages) × (owner_in s w page ≡ 0)

-- ---- of whatever heap the words stand for

module _ (s : Sizes) (w : Words) (h : Regioned) (to : ℕ → ℕ) (st : StandsFor s w h to) (g : ℕ) (pos : 0 < g) (low : g ≤ regions s) (ds vs : List ℕ) (o : Object) where
  -- the heap with a new object in region g
  abbrev made : Regioned
  made = record { heap = record { depths = ds; vars = vs; objects = h.heap.objects ++ o ∷ [] }; homes = h.homes ++ g ∷ []; counters = one_made h.counters; occupancy = taken_by h.occupancy g }

  abbrev held : ℕ
  held = objects_of s w.tables g

  needs : new_pages s (graph h) (graph made) ≡ more_pages held 1
  needs =
      ap (new_pages s (graph h)) (graph-new h st.sound.aligned ds vs o g) ∙ new-pages (graph h) g o.refs vs s pos low
      ∙ ap (λ (x : ℕ). more_pages x 1) (objects-agree s w h to st g pos ∙ objects-on s w (whole-regular st.whole) g pos)

  pub new-fits : PartlyFilled s w g ⊎ FreePage s w → leb (new_pages s (graph h) (graph made)) (free_pages s (graph h)) ≡ true
  new-fits either =
      le-leb (new_pages s (graph h) (graph made)) (free_pages s (graph h))
      (⊎_elim (λ p. let n = partly-filled (whole-regular st.whole) g pos p.0 p.1 p.2 in omega (arith, needs))
      (λ p. omega (arith, needs, heap-free s w h to st, sum-part (owned_one s w.tables 0) p.0 s.pages p.1, owned-yes s w.tables 0 p.0 p.2)) either)

  pub new-lacks : (PartlyFilled s w g → ⊥) → (FreePage s w → ⊥) → leb (new_pages s (graph h) (graph made)) (free_pages s (graph h)) ≡ false
  new-lacks a b = lt-leb (new_pages s (graph h) (graph made)) (free_pages s (graph h)) (omega (arith, needs, heap-free s w h to st, full, none))
    where
      full : place_of held ≡ 0
      full = by_cases (ℕ_discrete (place_of held) 0) (λ e. e) (λ n. absurd (a (some-partly (whole-regular st.whole) g pos n)))

      none : pages_owned s w 0 ≡ 0
      none = sum-none (owned_one s w.tables 0) s.pages (λ page l. sym (owned-no s w.tables 0 page (λ e. b (page, l, e))))

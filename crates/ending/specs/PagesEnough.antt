-- The census of pages is what the copy asks: where the new pages that the rules count fit the free pages, every target has room.
use Rattle.std.specs.Prelude.{◌≡◌, ℕ, ◌-◌, ◌≤◌, ◌<◌}
use Rattle.std.proofs.Math.Path.{sym, ap₂}
use Rattle.std.proofs.Common.{◌∙◌, subst, subst₂, arith}
use Rattle.lists.specs.Counting.{sum_same}
use Rattle.rules.specs.declared.Sizes.{Sizes}
use Rattle.rules.specs.Regions.{region_at, regions}
use Rattle.laws.specs.RegionLaws.{numbers-rise, region-bounds}
use Rattle.laws.specs.RulesLaws.{region-pos}
use Rattle.laws.specs.Counts.{landed}
use Rattle.layout.specs.Cells.{page_of, work_of}
use Rattle.layout.specs.Marks.{marked}
use Rattle.layout.specs.Words.{Words, graph_of}
use Rattle.promises.specs.Reading.{used-home}
use Rattle.promises.specs.OwnedPages.{pages_owned, owned_one, owned_in, owned-same}
use Rattle.promises.specs.Arriving.{arriving, more_pages, region_more, more_below}
use Rattle.census.specs.Counted.{arriving-landed}
use Rattle.copy.specs.Copying.{Plan}
use Rattle.promises.specs.Ends.{part_of, Survivor}
use Rattle.ended.specs.EndQuestion.{pages_needed}
use Rattle.ended.specs.EndPages.{new-pages-ended}
use Rattle.ended.specs.WordsPlaced.{target-level}
use Rattle.mark.specs.MarkedWords.{marked-survivor, count_same}
use Rattle.ending.specs.MarkedReady.{pages-same, ready}
use Rattle.ending.specs.Ending.{Ending, room_of, level-low, next, deep, region-deep}

module _ {s : Sizes} {t l r : ℕ} {w w₁ : Words} (e : Ending s t l r w w₁) where
  -- a survivor goes to the region of a level around r
  pub survivor-level : (c : ℕ) → Survivor s w (part_of s w r) c → (j : ℕ) × (j < l) × ((part_of s w r).goes c ≡ region_at s t j)
  survivor-level c =
      subst (λ (g : ℕ). Survivor s w (part_of s w g) c → (j : ℕ) × (j < l) × ((part_of s w g).goes c ≡ region_at s t j)) (sym (region-deep e))
      (λ v.
      let x = target-level s w e.whole t (l - 1) e.thread (deep e) c (used-home s w c v.used ∙ v.within) v.goes in
      (x.0, omega (arith, x.1, e.epoch), x.2))

  -- which its word 1 says
  survivor-target : (c : ℕ) → page_of c < s.pages → marked s w₁.tables c ≡ 1 → (j : ℕ) × (j < l) × (work_of w₁.cells c ≡ region_at s t j)
  survivor-target c q on =
      let v = marked-survivor e.marks c q on in
      let x = survivor-level c v in
      (x.0, x.1, e.marks.goes c v.used v.within ∙ x.2)

  pub targets-low : (c : ℕ) → page_of c < s.pages → marked s w₁.tables c ≡ 1 → work_of w₁.cells c ≤ regions s
  targets-low c q on = let x = survivor-target c q on in omega (arith, x.2, region-bounds s t x.0 e.thread (omega (arith, x.1, level-low e)))

  pub free-same : owned_in s w₁.tables 0 s.pages ≡ pages_owned s w 0
  free-same =
      sum_same (owned_one s w₁.tables 0) (owned_one s w.tables 0) s.pages
      (λ page q. owned-same (pages-same s w e.whole (room_of e) (part_of s w r) w₁ e.marks page q) 0)

  -- the new pages of the regions around r are those that the rules count
  pub needs-are : more_below s w₁.tables (arriving s w₁.cells w₁.tables) (region_at s t) l ≡ pages_needed s w r
  unfolding region_more
  needs-are =
      sum_same _ _ l
      (λ j h.
      ap₂ (λ (a b : ℕ). more_pages a b) (count_same e.marks (room_of e) (region_at s t j))
      (arriving-landed s w e.whole r w₁ e.marks (omega (arith, e.region, region-pos s t l)) (region_at s t j) (region-pos s t j)))
      ∙ sym
      (subst₂ (λ (g n : ℕ). pages_needed s w g ≡ more_below s w.tables (landed s (graph_of s w) g) (region_at s t) n) (sym (region-deep e)) (sym (next e))
      (new-pages-ended s w e.whole t (l - 1) e.thread (deep e)))

  -- the plan of the copy
  pub plan : pages_needed s w r ≤ pages_owned s w 0 → Plan s l (region_at s t) w₁.cells w₁.tables
  plan h =
      record {
        ready = ready s w e.whole (room_of e) (part_of s w r) w₁ e.marks;
        small = e.marks.small;
        real = λ j m. region-pos s t j;
        low = λ j m. (region-bounds s t j e.thread (omega (arith, level-low e))).1;
        rising = λ a b j m. numbers-rise s t a b j;
        all = survivor-target;
        enough = subst₂ (λ (a b : ℕ). a ≤ b) (sym needs-are) (sym free-same) h;
      }

-- The end of an epoch as the code goes through it: what each call asks, and the promise of code 2 at each way out.
use Rattle.std.specs.Prelude.{◌≡◌, refl, List, Bool, true, false, ℕ, ◌-◌, ◌≤◌, ◌<◌, leb}
use Rattle.std.proofs.Math.Path.{sym, ap, ap₂}
use Rattle.std.proofs.Common.{◌∙◌, subst, arith, leb-true}
use Rattle.lists.specs.Counting.{sum-none, sum-high}
use Rattle.rules.specs.declared.Sizes.{Sizes}
use Rattle.rules.specs.Terms.{ask, refused}
use Rattle.rules.specs.Regions.{region_at, regions}
use Rattle.rules.specs.Rules as ru
use Rattle.layout.specs.Places.{owner_of, mark_of, entries_used, slot_in}
use Rattle.layout.specs.Cells.{page_of}
use Rattle.layout.specs.Objects.{begins-page}
use Rattle.layout.specs.Words.{Words, words, heap_of}
use Rattle.promises.specs.Promises.{DidHere}
use Rattle.promises.specs.OwnedPages.{pages_owned}
use Rattle.promises.proofs.OwnedPages.{owner-low, counts-owned}
use Rattle.promises.specs.Ends.{part_of}
use Rattle.promises.specs.Arriving.{goes_to, arriving, more_below, more-none}
use Rattle.pages.specs.Owned.{Paged}
use Rattle.pages.specs.Noted.{Noted, noted-kept, none-freed}
use Rattle.mark.specs.Marks.{Shaped, kept-shaped, in-use-kept}
use Rattle.mark.specs.Holders.{Holding, holding-kept}
use Rattle.mark.specs.Reached.{whole-holding}
use Rattle.mark.specs.Survivors.{shaped-at}
use Rattle.mark.specs.Unmark.{Unmarked, cells-back, tables-back}
use Rattle.census.specs.Counted.{over-cells}
use Rattle.census.specs.Census.{over_none}
use Rattle.census.specs.Crossed.{crossing-after}
use Rattle.census.specs.Going.{OthersStay}
use Rattle.census.specs.After.{crossing_counted, cell_crosses, slot_crosses, slot-le}
use Rattle.copy.specs.Passing.{Ready}
use Rattle.ended.specs.AfterEnd.{end_of}
use Rattle.ended.specs.EndQuestion.{pages_needed, crossing_after, end-question, ended-refused}
use Rattle.mark.specs.MarkedWords.{owner-same, outside-work}
use Rattle.ending.specs.MarkedReady.{ready}
use Rattle.ending.specs.Ending.{Ending, Accepted, room_of, deep, region-deep}
use Rattle.ending.specs.PagesEnough.{needs-are, free-same}
use Rattle.ending.specs.Stages.{high}
use Rattle.ending.specs.RoomAsked.{room_asked, asked-none}

-- both were answered with yes
both_yes : (b c : Bool) → ask b 13 (ask c 14 0) ≡ 0 → (b ≡ true) × (c ≡ true)
unfolding ask
both_yes true true e = (refl, refl)
both_yes true false e = absurd (let z : ⊥ = omega arith in z)
both_yes false c e = absurd (let z : ⊥ = omega arith in z)

-- ---- marked words

module _ {s : Sizes} {t l r : ℕ} {w w₁ : Words} (m : Ending s t l r w w₁) where
  -- ---- what the calls ask

  pub marked-ready : Ready s w₁.cells w₁.tables
  marked-ready = ready s w m.whole (room_of m) (part_of s w r) w₁ m.marks

  pub shaped-now : Shaped s w₁.cells w₁.tables
  shaped-now = kept-shaped m.marks.kept (shaped-at s w m.whole m.fits)

  pub holding-now : Holding s w₁.cells w₁.remember w₁.tables
  holding-now =
      subst (λ (M : List ℕ). Holding s w₁.cells M w₁.tables) (sym m.marks.remember)
      (holding-kept m.marks.kept (room_of m) (whole-holding s w m.whole))

  -- what lies outside r stays
  pub others-stay : OthersStay s w₁.cells w₁.tables r
  others-stay c u n =
      let v = in-use-kept m.marks.kept (room_of m) c u in
      outside-work m.marks m.whole c (record { used = v; out = λ z. n (owner-same m.marks (room_of m) (page_of c) (begins-page _ _ _ _ v) ∙ z) })

  -- the pages of the regions, as the counts say
  pub paged-now : Paged s w₁.tables
  paged-now =
      record {
        pages = counts-owned marked-ready.regular;
        owners = λ page q. subst (λ (x : ℕ). x ≤ regions s) (sym (owner-same m.marks (room_of m) page q)) (owner-low s w m.whole page q);
      }

  -- the marking changes no owner
  pub marked-noted : {notes : List ℕ} → Noted s w.tables notes → Noted s w₁.tables notes
  marked-noted = noted-kept (none-freed s w.tables w₁.tables (owner-same m.marks (room_of m)))

  -- ---- 13 and 14

  asked : ru.question s (heap_of s w) (end_of t) ≡ ask (leb (pages_needed s w r) (pages_owned s w 0)) 13 (ask (leb (crossing_after s w r) s.entries) 14 0)
  asked =
      subst (λ (g : ℕ). ru.question s (heap_of s w) (end_of t) ≡ ask (leb (pages_needed s w g) (pages_owned s w 0)) 13 (ask (leb (crossing_after s w g) s.entries) 14 0)) (sym (region-deep m))
      (end-question s w m.whole t m.thread (l - 1) (deep m))

  -- the code asks what the rules ask
  asks : room_asked s w₁.cells w₁.remember w₁.tables t l r ≡ ru.question s (heap_of s w) (end_of t)
  unfolding room_asked ask
  asks =
      ap₂ (λ (a b : ℕ). ask (leb a b) 13 (ask (leb (crossing_counted s w₁.cells w₁.remember w₁.tables r) s.entries) 14 0)) (needs-are m) (free-same m)
      ∙ ap (λ (c : ℕ). ask (leb (pages_needed s w r) (pages_owned s w 0)) 13 (ask (leb c s.entries) 14 0)) (crossing-after s w m.whole (room_of m) r (high m) w₁ m.marks)
      ∙ sym asked

  -- ---- refused: the marking is undone

  pub out-refused : (q : ℕ) → 0 < q → q ≡ room_asked s w₁.cells w₁.remember w₁.tables t l r → {W T : List ℕ} → Unmarked s s.pages w₁.cells w₁.tables W T
      → DidHere s w (end_of t) (words W w₁.remember T) (refused q)
  out-refused q pos e {W} {T} U =
      subst (λ (v : Words). DidHere s w (end_of t) v (refused q)) back (ended-refused s w m.whole t m.thread q pos (sym asks ∙ sym e))
    where
      back : w ≡ words W w₁.remember T
      back =
          ap₂ (λ (c b : List ℕ). words c w.remember b) (sym (cells-back s w m.whole (part_of s w r) w₁ m.marks U)) (sym (tables-back s w m.whole (part_of s w r) w₁ m.marks U))
          ∙ ap (λ (M : List ℕ). words W M T) (sym m.marks.remember)

  pub out-noted : {notes : List ℕ} {W T : List ℕ} → Unmarked s s.pages w₁.cells w₁.tables W T → Noted s w₁.tables notes → Noted s T notes
  out-noted {notes} {W} {T} U =
      noted-kept (none-freed s w₁.tables T
      (λ page l. ap (λ (L : List ℕ). owner_of s L page) (tables-back s w m.whole (part_of s w r) w₁ m.marks U) ∙ sym (owner-same m.marks (room_of m) page l)))

  -- ---- accepted

  module _ (yes : 0 ≡ room_asked s w₁.cells w₁.remember w₁.tables t l r) where
    both : (leb (pages_needed s w r) (pages_owned s w 0) ≡ true) × (leb (crossing_after s w r) s.entries ≡ true)
    both = both_yes _ _ (sym asked ∙ sym asks ∙ sym yes)

    pub accepted : Accepted s r w
    accepted = record { pages = leb-true _ _ both.0; entries = leb-true _ _ both.1 }

  -- ---- nothing survives

  module _ (none : (page : ℕ) → page < s.pages → mark_of s w₁.tables page ≡ 0) where
    -- no page is needed, and no further slot crosses
    pub free-way : 0 ≡ room_asked s w₁.cells w₁.remember w₁.tables t l r
    free-way =
        asked-none s w₁.cells w₁.remember w₁.tables t l r refl refl refl
        (omega (arith, no-pages)) (omega (arith, crosses, m.whole.remember.entries.room, ap entries_used m.marks.remember))
      where
        no-pages : more_below s w₁.tables (arriving s w₁.cells w₁.tables) (region_at s t) l ≡ 0
        no-pages =
            sum-none _ l
            (λ j h.
            let f = goes_to w₁.cells (region_at s t j) in
            more-none s w₁.tables (arriving s w₁.cells w₁.tables) (region_at s t j) (sym (over-cells s w₁.tables f) ∙ over_none s w₁.tables f s.pages none))

        crosses : crossing_counted s w₁.cells w₁.remember w₁.tables r ≤ entries_used w₁.remember
        crosses =
            omega (
              arith,
              over_none s w₁.tables (cell_crosses s w₁.cells w₁.tables) s.pages none,
              sum-high (λ i. slot_crosses s w₁.cells w₁.tables r (slot_in w₁.remember i)) 1 (entries_used w₁.remember)
                  (λ i h. slot-le s w₁.cells w₁.tables r (slot_in w₁.remember i)),
            )

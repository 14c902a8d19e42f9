-- What the stages of a collection ask for, from what was left before them.
use Rattle.std.specs.Prelude.{◌≡◌, List, ℕ, ◌-◌, ◌^◌, ◌≤◌, ◌<◌, length, get_or}
use Rattle.std.proofs.Common.{sym, ap, subst, ◌∙◌, ⊎_elim, arith}
use Rattle.lists.specs.Part.{Lists, lists-like}
use Rattle.rules.specs.declared.Sizes.{Sizes}
use Rattle.rules.specs.declared.Answer.{Answer}
use Rattle.rules.specs.Regions.{control}
use Rattle.rules.specs.Graph.{pages_of}
use Rattle.layout.specs.Places.{Room, cells_words, owner_of, used_of, count_of, var_of, var_count}
use Rattle.layout.specs.Cells.{ref_to, page_cells}
use Rattle.layout.specs.Objects.{Slot, begins-page}
use Rattle.layout.specs.Words.{Words, Names, owner_in, ref_count}
use Rattle.chains.specs.Chains.{Chainable}
use Rattle.promises.specs.Whole.{WholeFor}
use Rattle.promises.specs.Promises.{DidHere}
use Rattle.promises.proofs.WholeChains.{whole-chainable}
use Rattle.promises.specs.Reading.{refs-few, ref-room, whole_room}
use Rattle.mark.specs.Survivors.{Marked}
use Rattle.promises.specs.OwnedPages.{owned_in}
use Rattle.promises.proofs.OwnedPages.{counts-owned}
use Rattle.mark.specs.MarkedWords.{owner-same, var-same, unlisted}
use Rattle.pages.specs.Noted.{Noted, noted-kept, none-freed}
use Rattle.release.specs.Notes.{noted, NoteLowered, lowered}
use Rattle.settle.specs.Rewrite.{Rewritten, link-same}
use Rattle.settle.specs.RewriteSlots.{Variables}
use Rattle.slide.specs.Ranks.{MarksListed}
use Rattle.slide.specs.Numbered.{Numbered}
use Rattle.slide.specs.Slid.{NamedFrom, Slid}
use Rattle.slide.specs.Trimmed.{Trimmed}
use Rattle.retell.specs.SlotStretches.{Readable, readable}
use Rattle.ended.specs.CollectedDid.{collect_of}
use Rattle.ending.specs.MarkedReady.{ready}
use Rattle.copy.specs.Passing.{Ready}
use Rattle.copy.specs.Taking.{room-same}
use Rattle.collect.specs.Numbering.{space, Keeping, Numbering, marks-listed, which}
use Rattle.collect.specs.TablesAfter.{SpaceCounted, used₂, mark₂, room₂, count₃, other-same}
use Rattle.collect.specs.Sliding.{refs₂, field₂, was₂, kept_back, place_same}
use Rattle.collect.specs.CollectDid.{freed-rest}

-- the entries that a collection leaves can be chained
pub collected-chainable : {s : Sizes} {w w' : Words} {a : Answer} → WholeFor s w → ((t : ℕ) → t < s.threads → DidHere s w (collect_of t) w' a) → Chainable s w'.remember
collected-chainable whole did = whole-chainable (did 0 (omega (arith, whole.sized.range.threads-low))).next.stands.whole

pub keeping : {s : Sizes} {w w₁ : Words} → WholeFor s w → Marked s w (space s w) w₁ → length w.tables < 2 ^ 63 → Keeping s w w₁
keeping {s} {w} whole marks fits = record { whole = whole; room = whole_room s w whole fits; marks = marks }

module _ {s : Sizes} {w w₁ : Words} (k : Keeping s w w₁) where
  -- marking frees no page
  pub keeping-noted : {notes : List ℕ} → Noted s w.tables notes → Noted s w₁.tables notes
  keeping-noted = noted-kept (none-freed s w.tables w₁.tables (owner-same k.marks k.room))

  pub marked-ready : Ready s w₁.cells w₁.tables
  marked-ready = ready s w k.whole k.room (space s w) w₁ k.marks

  -- the control space's count tells how many pages it has
  pub pages-counted : owned_in s w₁.tables control s.pages ≡ pages_of (count_of s w₁.tables control)
  pages-counted = counts-owned marked-ready.regular control (omega arith) (omega arith)

  module _ {n : ℕ} {l : List ℕ} (h : Lists (λ page. owner_of s w₁.tables page ≡ control) s.pages n l) where
    listed : Lists (λ page. owner_in s w page ≡ control) s.pages n l
    listed = lists-like h (λ page m e. sym (owner-same k.marks k.room page m) ∙ e) (λ page m e. owner-same k.marks k.room page m ∙ e)

    -- only listed pages have marks
    pub marks-for : MarksListed s n l w₁.tables
    marks-for = record { rises = h.rises; small = k.marks.small; none = unlisted k.marks listed }

    pub numbering : {W₂ : List ℕ} {K : ℕ} → Numbered s l w₁.tables w₁.cells W₂ K → Numbering s w w₁ n l W₂ K
    numbering x = record { keeping = k; list = listed; numbered = x }

module _ {s : Sizes} {w w₁ : Words} {n : ℕ} {l W₂ : List ℕ} {K : ℕ} (a : Numbering s w w₁ n l W₂ K) where
  pub long₂ : cells_words s ≤ length W₂
  long₂ = omega (arith, a.keeping.whole.sized.cells, a.numbered.size, a.keeping.marks.kept.cells-length)

  -- what a variable or a slot of the words before names is a cell of the heap
  pub variables-ask : (i : ℕ) → i < var_count s → Names s (var_of s w₁.tables i)
  variables-ask i h =
      subst (Names s) (sym (var-same a.keeping.marks a.keeping.room i h))
      (λ ne. begins-page s w.cells w.tables _ (a.keeping.whole.variables i h (omega arith)))

  module _ {T₂ : List ℕ} (Y : Variables s (var_count s) W₂ w₁.tables T₂) where
    -- every slot can be rewritten
    pub slots-ask : Readable s 0 (cells_words s) W₂ T₂
    slots-ask =
        readable long₂ (room₂ a Y) (λ page b. omega (arith, used₂ a Y page b, (a.keeping.whole.pages page b).filled.cells))
        (λ c u. omega (arith, refs₂ a Y c, refs-few s w a.keeping.whole c (was₂ a Y c u)))
        (λ c f u m.
        let b = was₂ a Y c u in
        let m' : f < ref_count w c = omega (arith, m, refs₂ a Y c) in
        subst (Names s) (sym (field₂ a Y c f (ref-room s w a.keeping.whole c f b m')))
        (λ ne. begins-page s w.cells w.tables _ ((a.keeping.whole.objects c b).references f m' (omega arith))))

    -- the kept cells are marked still, and name their places
    pub marks-ask : MarksListed s n l T₂
    marks-ask =
        let m = marks-listed a in
        record {
          rises = m.rises;
          small = λ page b. omega (arith, mark₂ a Y page b, m.small page b);
          none = λ page b off. mark₂ a Y page b ∙ m.none page b off;
        }

    module _ {W₃ : List ℕ} (R : Rewritten (Slot s W₂ T₂) W₂ W₃) where
      pub long₃ : cells_words s ≤ length W₃
      long₃ = omega (arith, long₂, R.size)

      pub places-ask : NamedFrom s l T₂ 0 W₃
      places-ask c z k =
          link-same R c ∙ a.numbered.kept c (kept_back s w₁.tables T₂ (mark₂ a Y) c k) ∙ ap ref_to (sym (place_same s w₁.tables T₂ (mark₂ a Y) l c k.0))

      pub used-ask : (j : ℕ) → j < n → used_of s T₂ (get_or l j 0) ≤ page_cells
      used-ask j h = let b = a.list.rises.low j h in omega (arith, used₂ a Y (get_or l j 0) b, (a.keeping.whole.pages (get_or l j 0) b).filled.cells)

      module _ {W₄ : List ℕ} (S : Slid s l T₂ W₃ W₄) where
        pub long₄ : cells_words s ≤ length W₄
        long₄ = omega (arith, long₃, S.size)

    module _ {W₄ W₅ T₃ : List ℕ} (Z : Trimmed s l n K W₄ T₂ W₅ T₃) where
      pub room₃ : Room s (length T₃)
      room₃ = room-same Z.tables-size (room₂ a Y)

      -- the survivors are among the objects of the control space
      pub count-ask : K ≤ count_of s T₃ control
      count-ask = omega (arith, freed-rest a, count₃ a Y Z)

      -- what the control space had more is freed
      pub freed-is : count_of s T₃ control - K ≡ count_of s w.tables control - K
      freed-is = ap (λ (x : ℕ). x - K) (count₃ a Y Z)

      -- the notes are right again: no page that was not listed has become free
      pub collected-noted : {f : ℕ} {T₄ notes notes' : List ℕ} → SpaceCounted s K f T₃ T₄ → Noted s w₁.tables notes → notes' ≡ noted s.pages notes l n → Noted s T₄ notes'
      collected-noted {f} {T₄} {notes} {notes'} C h e =
          subst (Noted s T₄) (sym e)
          (record {
            long = omega (arith, h.long, d.long);
            passed = λ x m b z. ⊎_elim (λ q. omega (arith, d.below q.0 q.1, q.2))
                (λ y. h.passed x (omega (arith, d.less)) b (owner-same a.keeping.marks a.keeping.room x b ∙ sym (other-same a Y Z C x b y).owner ∙ z)) (which a x b);
          })
        where
          d : NoteLowered s.pages notes l n (noted s.pages notes l n)
          d = lowered s.pages notes l n (omega (arith, h.long)) a.list.rises

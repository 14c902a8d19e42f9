-- An end as the code begins it and leaves it.
use Rattle.std.specs.Prelude.{◌≡◌, ℕ, suc, ◌-◌, ◌^◌, ◌≤◌, ◌<◌, length}
use Rattle.std.proofs.Common.{sym, ap, subst, ◌∙◌, arith}
use Rattle.rules.specs.declared.Sizes.{Sizes}
use Rattle.rules.specs.Terms.{done}
use Rattle.rules.specs.Regions.{region_at}
use Rattle.layout.specs.Places.{Room, depth_of}
use Rattle.layout.specs.Words.{Words, depth_in}
use Rattle.promises.specs.Whole.{WholeFor}
use Rattle.promises.specs.Reading.{whole_room}
use Rattle.promises.specs.OwnedPages.{pages_owned}
use Rattle.promises.specs.Promises.{DidHere}
use Rattle.promises.specs.Ends.{part_of}
use Rattle.mark.specs.Survivors.{Marked}
use Rattle.ended.specs.Evacuated.{Evacuated, Vacated, FreedCounted, Repacked}
use Rattle.ended.specs.EvacuatedDid.{Lowered}
use Rattle.ended.proofs.EvacuatedDid.{ended-did}
use Rattle.ended.specs.EndQuestion.{pages_needed, crossing_after}
use Rattle.ended.specs.AfterEnd.{end_of}
use Rattle.mark.specs.MarkedWords.{depth_same}

-- the innermost region of thread t, r at level l, is ending: w was whole, and its survivors are marked in w₁
pub record Ending (s : Sizes) (t l r : ℕ) (w w₁ : Words) : Type 0 where
  pub whole : WholeFor s w
  pub fits : length w.tables < 2 ^ 63
  pub thread : t < s.threads
  pub level : depth_in w t ≡ l
  pub epoch : 1 ≤ l
  pub region : r ≡ region_at s t l
  pub marks : Marked s w (part_of s w r) w₁

-- there are pages and entries for it
pub record Accepted (s : Sizes) (r : ℕ) (w : Words) : Type 0 where
  pub pages : pages_needed s w r ≤ pages_owned s w 0
  pub entries : crossing_after s w r ≤ s.entries

-- it has ended, and left w'
pub record HasEnded (s : Sizes) (t l r : ℕ) (w w' : Words) : Type 0 where
  pub cell : ℕ → ℕ
  pub evacuated : Evacuated s w (part_of s w r) w' cell
  pub vacated : Vacated s (part_of s w r) w'
  pub lowered : Lowered s w t (l - 1) w'
  pub counted : FreedCounted s w r w'
  pub repacked : Repacked s w r w' cell

module _ {s : Sizes} {t l r : ℕ} {w w₁ : Words} (e : Ending s t l r w w₁) where
  pub room_of : Room s (length w.tables)
  room_of = whole_room s w e.whole e.fits

  pub room-now : Room s (length w₁.tables)
  room-now = subst (Room s) (sym e.marks.kept.tables-length) room_of

  pub depth-now : depth_of w₁.tables t ≡ l
  depth-now = depth_same e.marks room_of t e.thread ∙ e.level

  pub level-low : l ≤ s.depth
  level-low = omega (arith, e.level, e.whole.depths t e.thread)

  -- its level as one above that of the region around it
  pub next : l ≡ suc (l - 1)
  next = omega (arith, e.epoch)

  pub deep : depth_in w t ≡ suc (l - 1)
  deep = e.level ∙ next

  pub region-deep : r ≡ region_at s t (suc (l - 1))
  region-deep = e.region ∙ ap (region_at s t) next

  -- the promise of code 2
  pub ended_here : {w' : Words} → Accepted s r w → HasEnded s t l r w w' → DidHere s w (end_of t) w' (done 0)
  ended_here {w'} a h =
      subst (λ (g : ℕ). Evacuated s w (part_of s w g) w' h.cell → Vacated s (part_of s w g) w' → FreedCounted s w g w' → Repacked s w g w' h.cell → Accepted s g w → DidHere s w (end_of t) w' (done 0)) (sym region-deep)
      (λ v z k p b. ended-did s w e.whole t (l - 1) e.thread deep w' h.cell v h.lowered k p z b.pages b.entries) h.evacuated h.vacated h.counted h.repacked a

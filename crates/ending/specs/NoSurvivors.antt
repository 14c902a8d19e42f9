-- An end without survivors: no cell is marked, so none moves and nothing outside r points into r. Each stage but the entries and the release
-- leaves the words as they are.
use Rattle.std.specs.Prelude.{◌≡◌, refl, ◌⊎◌, ℕ, zero, suc, ◌≤◌, ◌<◌}
use Rattle.std.proofs.Common.{sym, ap, ◌∙◌, ⊎_elim, arith}
use Rattle.lists.specs.Counting.{sum-none}
use Rattle.lists.specs.Bits.{bit_at, bit-zero}
use Rattle.rules.specs.declared.Sizes.{Sizes}
use Rattle.rules.specs.Regions.{region_at}
use Rattle.rules.specs.Graph.{freed_by}
use Rattle.layout.specs.Places.{var_of, mark_of, count_of, entries_used, var_count}
use Rattle.layout.specs.Cells.{work_of, page_of, place_of, cell_named}
use Rattle.layout.specs.Marks.{marked}
use Rattle.layout.specs.Objects.{begins-page}
use Rattle.layout.specs.Words.{Words, graph_of}
use Rattle.promises.specs.Ends.{part_of, Survivor, lives-how}
use Rattle.census.specs.Census.{over_none}
use Rattle.promises.specs.Arriving.{arriving, region_more, more-none}
use Rattle.copy.specs.Passing.{Moves.none, none-arriving}
use Rattle.copy.specs.Copying.{Plan, Copy}
use Rattle.settle.specs.Rewrite.{forwarded, forward-null, forward-still, Rewritten, rewritten-none}
use Rattle.settle.specs.RewriteSlots.{Variables}
use Rattle.settle.specs.Update.{Copies, Settles}
use Rattle.ended.specs.EndQuestion.{crossing_after}
use Rattle.mark.specs.MarkedWords.{outside-work, var-same}
use Rattle.ending.specs.Rewriting.{copy-survivor}
use Rattle.promises.specs.EntrySays.{entry-says}
use Rattle.ending.specs.Region.{Held}
use Rattle.ending.specs.Ending.{Ending, room_of}
use Rattle.ending.specs.Stages.{freed-rest, keeps, moved, settle-ask}

module _ {s : Sizes} {t l r : ℕ} {w w₁ : Words} (b : Ending s t l r w w₁) (off : (page : ℕ) → page < s.pages → mark_of s w₁.tables page ≡ 0) where
  unset : (c : ℕ) → page_of c < s.pages → marked s w₁.tables c ≡ 1 → ⊥
  unset c l on = omega (arith, ap (λ (x : ℕ). bit_at x (place_of c)) (off (page_of c) l), bit-zero (place_of c))

  no-survivor : (c : ℕ) → Survivor s w (part_of s w r) c → ⊥
  no-survivor c v = unset c (begins-page s w.cells w.tables c v.used) (b.marks.survives c v.used v.within v.goes)

  -- every object of r is freed
  pub all-freed : count_of s w₁.tables r ≡ freed_by s (graph_of s w) r
  all-freed = omega (arith, freed-rest b, over_none s w₁.tables (λ c. 1) s.pages off)

  pub none-copied : Copy s l (region_at s t) l w₁.cells w₁.tables w₁.cells w₁.tables
  none-copied =
      record {
        last = 0;
        moves = none {m = 0} (omega arith);
        later = λ j h m. omega arith;
        done = λ j h c l on. absurd (unset c l on);
        took = omega (arith, sum-none (λ j. region_more s w₁.tables (arriving s w₁.cells w₁.tables) (region_at s t j)) l (λ j m. more-none s w₁.tables _ (region_at s t j) (none-arriving s w₁.cells w₁.tables (region_at s t j) (λ c low on. absurd (unset c low on)))));
      }

  -- a remembered slot would hold a survivor
  none-held : (x : ℕ) → Held s w r x → ⊥
  none-held x q =
      let y = entry-says b.whole q.entry q.low in
      let within = sym y.region ∙ q.region in
      let v =
      (keeps b).references y.object y.field y.names (record { used = y.used; goes = λ z. absurd (y.other (within ∙ sym z)) }) y.low y.value in
      no-survivor y.names (record { used = v.used; within = within; goes = v.goes within })

  module _ (p : Plan s l (region_at s t) w₁.cells w₁.tables) where
    pub none-copies : (x : ℕ) → Copies s w₁.cells w₁.tables x → ⊥
    none-copies x q =
        let o = copy-survivor (moved b p none-copied) x q in
        no-survivor o.0.object o.1

    pub none-rewritten : Rewritten (λ x. Held s w r x ⊎ Copies s w₁.cells w₁.tables x) w₁.cells w₁.cells
    none-rewritten = rewritten-none (λ x. Held s w r x ⊎ Copies s w₁.cells w₁.tables x) w₁.cells (λ x. ⊎_elim (none-held x) (none-copies x))

    pub none-update : crossing_after s w r ≤ s.entries → Settles s r s.entries (entries_used w.remember) w₁.cells w.remember w₁.tables
    none-update = settle-ask b p none-copied (rewritten-none (Held s w r) w₁.cells none-held)

  pub none-variables : Variables s (var_count s) w₁.cells w₁.tables w₁.tables
  none-variables = record { size = refl; moved = λ i l. moved i l (var_of s w₁.tables i) refl; same = λ x h. refl }
    where
      moved : (i : ℕ) → i < var_count s → (v : ℕ) → var_of s w₁.tables i ≡ v → v ≡ forwarded w₁.cells v
      moved i l zero z = sym (forward-null w₁.cells zero refl)
      moved i l (suc d) z =
          let y : cell_named (suc d) ≡ d = omega arith in
          sym (forward-still w₁.cells (suc d)
          (ap (work_of w₁.cells) y
          ∙ ⊎_elim (outside-work b.marks b.whole d) (λ v. absurd (no-survivor d v)) (lives-how ((keeps b).variables i d l (sym (var-same b.marks (room_of b) i l) ∙ z)))))

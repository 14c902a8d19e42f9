-- Where the slots that cross after the end fit the remember table in the graph after it, they fit it on the cells that the objects have
-- then, whichever these are.
use Rattle.std.specs.Prelude.{◌≡◌, refl, ◌≢◌, Bool, cond, not, ◌&&◌, ℕ, suc, ◌≤◌, ◌<◌}
use Rattle.std.proofs.Common.{sym, ap, ap₂, subst, ◌∙◌, ⊎_elim, arith, ne_eqb}
use Rattle.std.proofs.Math.Decide.{dec_lt}
use Rattle.rules.specs.declared.Sizes.{Sizes}
use Rattle.rules.specs.Graph.{Graph, crossing}
use Rattle.laws.specs.Counts.{cross_ref}
use Rattle.layout.specs.Places.{cells_words}
use Rattle.layout.specs.Cells.{field_at, room_for, page_of}
use Rattle.layout.specs.Objects.{field-inside, objects-apart}
use Rattle.layout.specs.Words.{Words, owner_in, head_in, ref_count}
use Rattle.promises.specs.Reading.{ref-room}
use Rattle.promises.specs.Ends.{Part, Lives, lives-how}
use Rattle.remember.specs.Appending.{AtMost}
use Rattle.ended.specs.Living.{GraphAfter, lives-there}
use Rattle.ending.specs.Placing.{Placing, LiveSlot, outside-home}
use Rattle.ending.specs.Crossing.{cross_then, crosses-names}
use Rattle.ending.specs.CrossingPositions.{crosses_past, of-object, positions-few}

-- what is there for each number below n, as a function
module _ (n : ℕ) (P : ℕ → ℕ → Type 0) (h : (i : ℕ) → i < n → (q : ℕ) × P i q) where
  choice : (i : ℕ) → Dec (i < n) → ℕ
  choice i (yes l) = (h i l).0
  choice i (no l) = 0

  chosen : (i : ℕ) → ℕ
  chosen i = choice i (dec_lt i n)

  chosen-good : (i : ℕ) → i < n → P i (chosen i)
  unfolding chosen choice
  chosen-good i l = go (dec_lt i n)
    where
      go : (d : Dec (i < n)) → P i (choice i d)
      go (yes m) = (h i m).1
      go (no m) = absurd (m l)

module _ {s : Sizes} {w : Words} {e : Part} {w' : Words} {cell : ℕ → ℕ} (h : Placing s w e w' cell) {g : Graph} (a : GraphAfter s w e g) where
  -- a slot that crosses then
  abbrev pub Crosses : ℕ → Type 0
  Crosses x = (q : LiveSlot s w e cell x) × (cross_then s w w' cell q.object q.field ≢ 0)

  home-is : (c : ℕ) → Lives s w e c → g.home c ≡ owner_in s w' (page_of (cell c))
  home-is c l = ⊎_elim (λ o. a.outside c o ∙ sym (outside-home h c o)) (λ v. a.survivor c v ∙ sym (h.placement.went c v)) (lives-how l)

  -- where it stood before the end it counts
  counts : (c f : ℕ) → Lives s w e c → f < ref_count w c → cross_then s w w' cell c f ≢ 0 → 0 < crosses_past s w g (field_at c f)
  counts c f l m n =
      let y = crosses-names h c f l m n in
      let one : cross_ref g c (suc y.0) ≡ 1 =
      ap₂ (λ (p q : Bool). cond (not p && not q) 1 0) (ne_eqb (g.home c) (g.home y.0) (λ z. y.5 (sym (home-is y.0 y.1) ∙ sym z ∙ home-is c l)))
      (ne_eqb (g.home y.0) 1 (λ (z : g.home y.0 ≡ 1). omega (arith, home-is y.0 y.1, y.4))) in
      omega (arith, of-object h.whole a c f (lives-there h.whole a c l) m, ap (cross_ref g c) y.2, one)

  enough : crossing g ≤ s.entries → (n : ℕ) (at : ℕ → ℕ) → ((i : ℕ) → i < n → Crosses (at i)) → ((a b : ℕ) → a < b → b < n → at a ≢ at b) → n ≤ s.entries
  enough fits n at crosses apart = omega (arith, fits, positions-few h.whole a n from low some once)
    where
      -- the place of slot x before the end
      Came : ℕ → ℕ → Type 0
      Came i q = (k : LiveSlot s w e cell (at i)) × (q ≡ field_at k.object k.field) × (cross_then s w w' cell k.object k.field ≢ 0)

      found : (i : ℕ) → i < n → (q : ℕ) × Came i q
      found i l = let k = crosses i l in (field_at k.0.object k.0.field, (k.0, refl, k.1))

      from : ℕ → ℕ
      from i = chosen n Came found i

      good : (i : ℕ) → i < n → Came i (from i)
      good i l = chosen-good n Came found i l

      room : (i : ℕ) (l : i < n) → (good i l).0.field < room_for (head_in w (good i l).0.object)
      room i l = let k = (good i l).0 in ref-room s w h.whole k.object k.field k.lives.used k.low

      low : (i : ℕ) → i < n → from i < cells_words s
      low i l = let k = good i l in subst (λ (q : ℕ). q < cells_words s) (sym k.1) (field-inside s w.cells w.tables k.0.object k.0.lives.used k.0.field (room i l))

      some : (i : ℕ) → i < n → 0 < crosses_past s w g (from i)
      some i l = let k = good i l in subst (λ (x : ℕ). 0 < crosses_past s w g x) (sym k.1) (counts k.0.object k.0.field k.0.lives k.0.low k.2)

      once : (a b : ℕ) → a < b → b < n → from a ≢ from b
      once a b l m e =
          let la : a < n = omega arith in
          let j = (good a la).0 in
          let k = (good b m).0 in
          let z = objects-apart s w.cells w.tables j.object j.lives.used k.object k.lives.used k.field (room b m) j.field (room a la) (sym (good a la).1 ∙ e ∙ (good b m).1) in
          apart a b l m (j.at ∙ ap₂ (λ (c f : ℕ). field_at (cell c) f) z.0 z.1 ∙ sym k.at)

  pub space-enough : crossing g ≤ s.entries → AtMost Crosses s.entries
  space-enough fits = record { few = enough fits }

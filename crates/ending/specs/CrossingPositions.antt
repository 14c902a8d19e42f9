-- The slots that cross after an end, by their positions in the cells before it: at most as many as the graph after it has.
use Rattle.std.specs.Prelude.{◌≡◌, ◌≢◌, Bool, ℕ, ◌≤◌, ◌<◌, eqb, ltb, get_or}
use Rattle.std.proofs.Math.Path.{refl, ap}
use Rattle.std.proofs.Common.{◌∙◌, arith, eq-eqb, ne_eqb, lt-ltb, le-ltb}
use Rattle.std.proofs.Math.Bool.{cond}
use Rattle.std.proofs.Math.Decide.{dec_lt}
use Rattle.lists.specs.Counting.{bit, sum, positive, sum-le}
use Rattle.lists.specs.Pigeonhole.{names-le}
use Rattle.rules.specs.declared.Sizes.{Sizes}
use Rattle.rules.specs.Graph.{Graph, crossing}
use Rattle.laws.specs.GraphLaws.{Alive}
use Rattle.laws.specs.Counts.{cross_ref}
use Rattle.layout.specs.Places.{cells_words}
use Rattle.layout.specs.Cells.{field_at, field_of}
use Rattle.layout.specs.Objects.{Slot, slot?, objects-apart, field-slot}
use Rattle.layout.specs.Words.{Words, BeginsIn, ref_count}
use Rattle.promises.specs.Whole.{WholeFor}
use Rattle.promises.specs.Crossings.{positions-crossing}
use Rattle.promises.specs.Reading.{ref-room}
use Rattle.promises.specs.Ends.{Part}
use Rattle.ended.specs.Living.{GraphAfter}

bit-under : (x : ℕ) → bit (ltb 0 x) ≤ x
bit-under x = go (dec_lt 0 x)
  where
    go : Dec (0 < x) → bit (ltb 0 x) ≤ x
    go (yes l) = omega (arith, ap bit (lt-ltb 0 x l))
    go (no l) = omega (arith, ap bit (le-ltb 0 x (omega arith)))

-- 1 if the word at q is a slot of an object of g, and crosses there
crosses_if : (s : Sizes) (w : Words) (g : Graph) (q : ℕ) → Dec (Slot s w.cells w.tables q) → ℕ
crosses_if s w g q (yes o) = cond (eqb (g.home o.object) 0) 0 (cross_ref g o.object (get_or w.cells q 0))
crosses_if s w g q (no n) = 0

pub crosses_past : Sizes → Words → Graph → ℕ → ℕ
crosses_past s w g q = crosses_if s w g q (slot? s w.cells w.tables q)

module _ {s : Sizes} {w : Words} {e : Part} {g : Graph} (whole : WholeFor s w) (a : GraphAfter s w e g) where
  of_field : (c f : ℕ) → BeginsIn s w c → f < ref_count w c → crosses_past s w g (field_at c f) ≡ cond (eqb (g.home c) 0) 0 (cross_ref g c (field_of w.cells c f))
  unfolding crosses_past crosses_if
  of_field c f u l = go (slot? s w.cells w.tables (field_at c f))
    where
      go : (d : Dec (Slot s w.cells w.tables (field_at c f))) → crosses_if s w g (field_at c f) d ≡ cond (eqb (g.home c) 0) 0 (cross_ref g c (field_of w.cells c f))
      go (yes o) =
          ap (λ (x : ℕ). cond (eqb (g.home x) 0) 0 (cross_ref g x (field_of w.cells c f)))
          (objects-apart s w.cells w.tables o.object o.begins c u f (ref-room s w whole c f u l) o.field o.room o.at).0
      go (no n) = absurd (n (field-slot s w.cells w.tables c f u (ref-room s w whole c f u l) l))

  pub of-object : (c f : ℕ) → Alive g c → f < ref_count w c → crosses_past s w g (field_at c f) ≡ cross_ref g c (field_of w.cells c f)
  of-object c f l m =
      of_field c f (a.lives c l).used m ∙ ap (λ (b : Bool). cond b 0 (cross_ref g c (field_of w.cells c f))) (ne_eqb (g.home c) 0 l)

  all-positions : sum (crosses_past s w g) (cells_words s) ≡ crossing g
  unfolding crosses_past crosses_if
  all-positions =
      positions-crossing s w whole g a.refs a.count (λ c l. (a.lives c l).used) (crosses_past s w g) (λ q l n. none q n (slot? s w.cells w.tables q))
      (λ c f u l z. of_field c f u l ∙ ap (λ (b : Bool). cond b 0 (cross_ref g c (field_of w.cells c f))) (eq-eqb (g.home c) 0 z)) (λ c f u l n. of-object c f n l)
    where
      none : (q : ℕ) → (Slot s w.cells w.tables q → ⊥) → (d : Dec (Slot s w.cells w.tables q)) → crosses_if s w g q d ≡ 0
      none q n (yes o) = absurd (n o)
      none q n (no m) = refl

  -- so different positions that count are at most as many
  pub positions-few : (n : ℕ) (at : ℕ → ℕ) → ((i : ℕ) → i < n → at i < cells_words s) → ((i : ℕ) → i < n → 0 < crosses_past s w g (at i))
      → ((a b : ℕ) → a < b → b < n → at a ≢ at b) → n ≤ crossing g
  positions-few n at low some once =
      omega (
        arith,
        names-le (positive (crosses_past s w g)) (cells_words s) at n
            (record { low = low; pass = λ i l. lt-ltb 0 (crosses_past s w g (at i)) (some i l); once = once }),
        sum-le (λ q. bit (positive (crosses_past s w g) q)) (crosses_past s w g) (cells_words s) (λ q l. bit-under (crosses_past s w g q)),
        all-positions,
      )

-- A number of an object is stored: the words stand for the heap with that number changed.
use Rattle.std.specs.Prelude.{ℕ, ◌+◌, ◌<◌, ◌≡◌, refl, List, [], ◌∷◌, get_or, set}
use Rattle.std.proofs.Common.{arith, sym, ap, ◌∙◌}
use Rattle.lists.specs.Stores.{past}
use Rattle.rules.specs.declared.Sizes.{Sizes}
use Rattle.rules.specs.NeverFreeing.{no_object}
use Rattle.rules.specs.Rules.{Regioned, graph}
use Rattle.laws.specs.GraphLaws.{Alive}
use Rattle.laws.specs.RulesLaws.{Sound}
use Rattle.layout.specs.Places.{cells_words}
use Rattle.layout.specs.declared.Kind.TheVariants.{Reference, Number}
use Rattle.layout.specs.Cells.{field_at, all_fields, fields-room, first-reference, first-number, cell_of}
use Rattle.layout.specs.Objects.{objects-apart, Slot}
use Rattle.layout.specs.Words.{Words, BeginsIn, head_in, ref_count, num_count}
use Rattle.remember.specs.Crossing.{cross_to}
use Rattle.promises.specs.Whole.{WholeFor}
use Rattle.promises.specs.StandsFor.{StandsFor}
use Rattle.promises.specs.Agreed.{cell-used}
use Rattle.promises.specs.Changes.{with_cells, with_object, with_field}
use Rattle.promises.specs.Areas.{head_words, field_words, Only}
use Rattle.remember.specs.Entries.{exact-everywhere}
use Rattle.promises.specs.Slots.{cross-alike}
use Rattle.promises.proofs.FieldStore.{field-only, field-whole, object-stands, fields-kept, fields-set}

module _ (s : Sizes) (w : Words) (k : WholeFor s w) (y b v : ℕ) (u : BeginsIn s w y) (low : b < num_count w y) where
  abbrev j : ℕ
  j = ref_count w y + b

  abbrev C : List ℕ
  C = set w.cells (field_at y j) v

  within : j < all_fields (head_in w y)
  within = omega arith

  pub number-only : Only (field_words ∷ []) s w (with_cells w C)
  number-only = field-only s w k y j v u within

  -- a number is no slot, so no slot changes
  slot_is : (q : ℕ) (o : Slot s w.cells w.tables q) → get_or C q 0 ≡ get_or w.cells q 0
  slot_is q o =
      past w.cells (field_at y j) v q 0 (λ e.
      let a = objects-apart s w.cells w.tables o.object o.begins y u j (omega (arith, within, fields-room (head_in w y) (k.objects y u).head)) o.field o.room (o.at ∙ e) in
      omega (arith, o.low, a.1, ap (ref_count w) a.0))

  pub number-whole : WholeFor s (with_cells w C)
  number-whole =
      field-whole s w k y j v u within w.remember (record { long = refl; size = refl; spare = λ q l. refl }) (λ l. absurd (let z : ⊥ = omega arith in z))
      (exact-everywhere (cross_to s w.cells w.tables) (cross_to s C w.tables) (cells_words s) s.entries w.remember
      (λ q l. cross-alike s w.cells w.tables C w.tables (λ page l. refl) (number-only.same head_words refl) (λ page l. refl) q (slot_is q)) k.remember)

pub number-stands : (s : Sizes) (w : Words) (h : Regioned) (cell_of : ℕ → ℕ) → StandsFor s w h cell_of → (x : ℕ) → Alive (graph h) x → (b v : ℕ) → b < num_count w (cell_of x)
    → Sound (with_object h x (with_field Number (get_or h.heap.objects x no_object) b v))
    → StandsFor s (with_cells w (set w.cells (field_at (cell_of x) (ref_count w (cell_of x) + b)) v)) (with_object h x (with_field Number (get_or h.heap.objects x no_object) b v)) cell_of
number-stands s w h cell_of st x a b v low sound =
    let k = st.whole in
    let y = cell_of x in
    let u : BeginsIn s w y = cell-used s w h cell_of st x a in
    object-stands s w h cell_of st x a (ref_count w y + b) v (within s w k y b v u low) w.remember (with_field Number (get_or h.heap.objects x no_object) b v) (number-whole s w k y b v u low)
    (fields-kept s w k y (ref_count w y + b) v u (within s w k y b v u low) Reference y u (λ i l e q. omega (arith, first-reference (head_in w y))) ∙ st.partners.refs x a)
    (ap (λ (ns : List ℕ). set ns b v) (st.nums x a) ∙ sym (fields-set s w k y (ref_count w y + b) v u (within s w k y b v u low) Number b low (ap (λ (z : ℕ). z + b) (sym (first-number (head_in w y)))))) sound

-- A field of an object is stored, reference or number: the tables stay whole, and the words stand for the heap with that object changed.
use Rattle.std.specs.Prelude.{ℕ, ◌+◌, ◌≤◌, ◌<◌, ◌≡◌, refl, List, [], ◌∷◌, map, set, drop}
use native.Mathlib.Omega.{arith}
use Rattle.std.proofs.Math.Decide.{ℕ_discrete}
use Rattle.std.proofs.Math.Logic.{by_cases}
use Rattle.std.proofs.Common.{sym, ap₂, ◌∙◌, length-set, drop-set-lt}
use Rattle.std.proofs.Math.Path.{ap, subst}
use Rattle.std.proofs.Math.ListN.{get_or, take}
use Rattle.lists.specs.Says.{true-not-false}
use Rattle.lists.specs.Stores.{put, past, part-here, part_same}
use Rattle.rules.specs.declared.Sizes.{Sizes}
use Rattle.rules.specs.NeverFreeing.{Object, no_object}
use Rattle.rules.specs.Rules.{Regioned, graph}
use Rattle.laws.specs.GraphLaws.{Alive}
use Rattle.laws.specs.RulesLaws.{Sound}
use Rattle.laws.specs.SameRules.{renamed}
use Rattle.layout.specs.Places.{cells_words}
use Rattle.layout.specs.declared.Kind.{Kind}
use Rattle.layout.specs.declared.Kind.TheVariants.{Reference, Number}
use Rattle.layout.specs.Cells.{head_at, head_of, work_at, field_at, field_of, field_count, first_field, all_fields, room_for, Formed, kind-among, fields-room, cell_of}
use Rattle.layout.specs.Objects.{InUse, field-inside, field-used, field-not-head, field-not-work, objects-apart}
use Rattle.layout.specs.Words.{Words, BeginsIn, head_in, ref_count, fields_at, fields_in}
use Rattle.remember.specs.Entries.{Edited}
use Rattle.promises.specs.Whole.{WholeFor, IsRef, ObjectWhole, RememberWhole}
use Rattle.promises.specs.StandsFor.{StandsFor}
use Rattle.promises.specs.Agreed.{cell-used}
use Rattle.promises.specs.Changes.{with_cells, with_object}
use Rattle.promises.specs.Areas.{field_words, entry_words, Only, only-trans, cells-only, entries-only}
use Rattle.promises.proofs.Frames.{still-whole, depths-frame, pages-frame, variables-frame, begins-was, ref-frame, home_same, stands-still}

module _ (s : Sizes) (w : Words) (k : WholeFor s w) (y j v : ℕ) (u : BeginsIn s w y) (low : j < all_fields (head_in w y)) where
  abbrev C : List ℕ
  C = set w.cells (field_at y j) v

  few : j < room_for (head_in w y)
  few = omega (arith, fields-room (head_in w y) (k.objects y u).head)

  pub field_room : field_at y j < cells_words s
  field_room = field-inside s w.cells w.tables y u j few

  -- ---- the words

  head-kept : (x : ℕ) → BeginsIn s w x → head_of C x ≡ head_in w x
  head-kept x i = past w.cells (field_at y j) v (head_at x) 0 (field-not-head s w.cells w.tables x i y u j few)

  field-kept : (x f : ℕ) → BeginsIn s w x → f < room_for (head_in w x) → (x ≡ y → f ≡ j → ⊥) → field_of C x f ≡ field_of w.cells x f
  field-kept x f i l d = past w.cells (field_at y j) v (field_at x f) 0 (λ e. let a = objects-apart s w.cells w.tables x i y u j few f l e in d a.0 a.1)

  pub field-only : Only (field_words ∷ []) s w (with_cells w C)
  field-only =
      cells-only s w C (field_words ∷ []) (λ n. head-kept)
      (λ n x i. past w.cells (field_at y j) v (work_at x) 0 (field-not-work s w.cells w.tables x i y u j few)) (λ n. absurd (true-not-false (sym n)))
      (λ n q x. past w.cells (field_at y j) v q 0 (λ e. x.unused (subst (λ (i : ℕ). InUse s w.tables (cell_of i)) (sym e) (field-used s w.cells w.tables y u j few))))
      (record { long = length-set w.cells (field_at y j) v; rest = drop-set-lt (cells_words s) w.cells (field_at y j) v field_room })

  -- ---- whole, with a remember table that follows

  module _ (m' : List ℕ) (edited : Edited s.entries w.remember m') where
    abbrev w' : Words
    w' = record { cells = C; remember = m'; tables = w.tables }

    pub stored-only : Only (field_words ∷ entry_words ∷ []) s w w'
    stored-only = only-trans field-only (entries-only s (with_cells w C) m' edited) refl refl

    objects : (j < ref_count w y → IsRef s w.cells w.tables v) → (x : ℕ) → BeginsIn s w x → ObjectWhole s C w.tables x
    objects ref x i =
        let o = k.objects x i in
        let e : head_of C x ≡ head_in w x = head-kept x i in
        record {
          head = subst Formed (sym e) o.head;
          rest = λ f l m.
              let n : all_fields (head_in w x) ≤ f = subst (λ (h : ℕ). all_fields h ≤ f) e m in
              let r : f < room_for (head_in w x) = subst (λ (h : ℕ). f < room_for h) e l in
              field-kept x f i r (λ (a : x ≡ y) (b : f ≡ j). omega (arith, low, ap (λ (z : ℕ). all_fields (head_in w z)) a)) ∙ o.rest f r n;
          references = λ f l.
              let n : f < ref_count w x = subst (λ (h : ℕ). f < field_count Reference h) e l in
              ref-frame field-only refl refl _
              (by_cases (ℕ_discrete x y)
              (λ a. by_cases (ℕ_discrete f j) (λ b. subst (IsRef s w.cells w.tables) (sym (ap₂ (field_of C) a b ∙ here)) (ref (omega (arith, n, b, ap (ref_count w) a)))) (λ b. other f n (λ p q. b q)))
              (λ a. other f n (λ p q. a p)));
        }
      where
        here : field_of C y j ≡ v
        here = put w.cells (field_at y j) v 0 (omega (arith, field_room, k.sized.cells))

        other : (f : ℕ) → f < ref_count w x → (x ≡ y → f ≡ j → ⊥) → IsRef s w.cells w.tables (field_of C x f)
        other f n d =
            subst (IsRef s w.cells w.tables) (sym (field-kept x f i (omega (arith, kind-among Reference (head_in w x), fields-room (head_in w x) (k.objects x i).head)) d)) ((k.objects x i).references f n)

    pub field-whole : (j < ref_count w y → IsRef s w.cells w.tables v) → RememberWhole s w' → WholeFor s w'
    field-whole ref r =
        still-whole stored-only refl refl refl refl refl refl refl refl refl refl k (depths-frame stored-only refl k.depths) (pages-frame stored-only refl refl refl k.pages)
        (variables-frame stored-only refl refl refl k.variables) (λ x i. objects ref x (begins-was stored-only refl refl x i)) r

  -- ---- the fields read again

  -- of a kind, where the stored one is not among them
  pub fields-kept : (d : Kind) (x : ℕ) → BeginsIn s w x → ((i : ℕ) → i < field_count d (head_in w x) → x ≡ y → first_field d (head_in w x) + i ≡ j → ⊥)
      → fields_at d C x ≡ fields_in d w x
  unfolding fields_at
  fields-kept d x u' n =
      let h = head_in w x in
      ap (λ (z : ℕ). take (field_count d z) (drop (field_at x (first_field d z)) C)) (head-kept x u')
      ∙ part_same (field_count d h) (field_at x (first_field d h)) w.cells C (length-set w.cells (field_at y j) v)
      (λ i l. subst (λ (q : ℕ). get_or C q 0 ≡ get_or w.cells q 0) (let e : field_at x (first_field d h + i) ≡ field_at x (first_field d h) + i = omega arith in e)
      (field-kept x (first_field d h + i) u' (omega (arith, kind-among d h, fields-room h (k.objects x u').head)) (n i l)))

  -- of a kind, where the stored one is the b-th of them
  pub fields-set : (d : Kind) (b : ℕ) → b < field_count d (head_in w y) → j ≡ first_field d (head_in w y) + b → fields_at d C y ≡ set (fields_in d w y) b v
  unfolding fields_at
  fields-set d b l q =
      let from = field_at y (first_field d (head_in w y)) in
      let e : field_at y j ≡ from + b = omega arith in
      ap (λ (z : ℕ). take (field_count d z) (drop (field_at y (first_field d z)) C)) (head-kept y u)
      ∙ ap (λ (z : ℕ). take (field_count d (head_in w y)) (drop from (set w.cells z v))) e ∙ part-here (field_count d (head_in w y)) from w.cells b v l

-- ---- object x becomes o

pub object-stands : (s : Sizes) (w : Words) (h : Regioned) (cell_of : ℕ → ℕ) (st : StandsFor s w h cell_of) (x : ℕ) → Alive (graph h) x
    → (j v : ℕ) → j < all_fields (head_in w (cell_of x)) → (m' : List ℕ) (o : Object)
    → WholeFor s (record { cells = set w.cells (field_at (cell_of x) j) v; remember = m'; tables = w.tables })
    → fields_at Reference (set w.cells (field_at (cell_of x) j) v) (cell_of x) ≡ map (renamed cell_of) o.refs
    → o.nums ≡ fields_at Number (set w.cells (field_at (cell_of x) j) v) (cell_of x)
    → Sound (with_object h x o) → StandsFor s (record { cells = set w.cells (field_at (cell_of x) j) v; remember = m'; tables = w.tables }) (with_object h x o) cell_of
object-stands s w h cell_of st x a j v low m' o k' er en sound =
    stands-still st (home_same (field-only s w st.whole (cell_of x) j v (in_use x a) low) refl refl refl) (with_object h x o).heap k' st.depths
    (each (λ c q. fields_at Reference cells c ≡ map (renamed cell_of) q.refs) er (λ z b n. other Reference z b n ∙ st.partners.refs z b)) st.partners.vars
    (each (λ c q. q.nums ≡ fields_at Number cells c) en (λ z b n. st.nums z b ∙ sym (other Number z b n))) refl refl sound
  where
    cells : List ℕ
    cells = set w.cells (field_at (cell_of x) j) v

    in_use : (z : ℕ) → Alive (graph h) z → BeginsIn s w (cell_of z)
    in_use = cell-used s w h cell_of st

    other : (d : Kind) (z : ℕ) → Alive (graph h) z → (z ≡ x → ⊥) → fields_at d cells (cell_of z) ≡ fields_in d w (cell_of z)
    other d z b n = fields-kept s w st.whole (cell_of x) j v (in_use x a) low d (cell_of z) (in_use z b) (λ i l e q. n (st.partners.apart z x b a e))

    -- what holds of x with o, and of every other object as it was, holds of each
    each : (Q : ℕ → Object → Type 0) → Q (cell_of x) o → ((z : ℕ) → Alive (graph h) z → (z ≡ x → ⊥) → Q (cell_of z) (get_or h.heap.objects z no_object))
        → (z : ℕ) → Alive (graph h) z → Q (cell_of z) (get_or (set h.heap.objects x o) z no_object)
    each Q here there z b =
        by_cases (ℕ_discrete z x)
        (λ e. subst (λ (i : ℕ). Q (cell_of i) (get_or (set h.heap.objects x o) i no_object)) (sym e)
        (subst (Q (cell_of x)) (sym (put h.heap.objects x o no_object (st.sound.closed.below x a))) here))
        (λ n. subst (Q (cell_of z)) (sym (past h.heap.objects x o z no_object n)) (there z b n))

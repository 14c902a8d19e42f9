-- A reference of an object is stored, and the remember table follows: the words stand for the heap with that reference changed.
use Rattle.std.specs.Prelude.{ℕ, zero, suc, ◌+◌, ◌≤◌, ◌<◌, ◌≡◌, refl, cond, not, ◌&&◌, List, [], ◌∷◌, length, get_or, set, ltb, eqb}
use Rattle.std.proofs.Common.{arith, sym, ap, ap₂, subst, ◌∙◌, lt-ltb, le-ltb}
use Rattle.std.proofs.lemmas.List.{length-map}
use Rattle.std.proofs.Math.ListN.{get_or-map}
use Rattle.lists.specs.Counting.{bit}
use Rattle.lists.specs.Members.{get_d-in}
use Rattle.lists.specs.Stores.{put, map-set}
use Rattle.rules.specs.declared.Sizes.{Sizes}
use Rattle.rules.specs.NeverFreeing.{Object, no_object}
use Rattle.rules.specs.Graph.{crossing}
use Rattle.rules.specs.Rules.{Regioned, graph}
use Rattle.laws.specs.GraphLaws.{Alive}
use Rattle.laws.specs.RulesLaws.{Sound}
use Rattle.laws.specs.SameRules.{renamed}
use Rattle.laws.specs.Counts.{cross_ref, crossing-stored}
use Rattle.laws.specs.AfterLaws.{graph-stored}
use Rattle.layout.specs.declared.Kind.TheVariants.{Reference, Number}
use Rattle.layout.specs.Places.{cells_words, entries_used, slot_in}
use Rattle.layout.specs.Cells.{field_at, field_of, all_fields, room_for, first_field, first-reference, first-number, kind-among, fields-room}
use Rattle.layout.specs.Objects.{field-on, Slot, field-slot}
use Rattle.layout.specs.Words.{Words, BeginsIn, head_in, owner_in, ref_count}
use Rattle.remember.specs.Crossing.{crosses_from, crosses_to, cross_to}
use Rattle.promises.specs.Whole.{WholeFor, IsRef}
use Rattle.promises.specs.StandsFor.{StandsFor}
use Rattle.promises.specs.Agreed.{cell-used}
use Rattle.promises.specs.Reading.{length-refs, get_d-refs}
use Rattle.promises.specs.Crossings.{ref-test, heap-entries}
use Rattle.promises.specs.Changes.{with_object, with_field}
use Rattle.promises.specs.Areas.{field_words, entry_words, Only}
use Rattle.remember.specs.Entries.{Edited, not_named}
use Rattle.promises.specs.Slots.{cross-stored, cross-elsewhere}
use Rattle.remember.proofs.Crosses.{field-cross}
use Rattle.remember.specs.Remembering.{Remembered, NoRoom, remembered-exact, remembered-edited}
use Rattle.promises.proofs.FieldStore.{field_room, stored-only, field-whole, object-stands, fields-kept, fields-set}
use Rattle.promises.proofs.FrameVariable.{ref-to-cell}

-- the slot of reference f in cell y, the region it crosses into, and that which reference v would there
module _ (s : Sizes) (w : Words) (y f v : ℕ) where
  abbrev pub crossed_to : ℕ
  crossed_to = crosses_to s w.tables y (field_of w.cells y f)

  abbrev pub will_cross : ℕ
  will_cross = crosses_to s w.tables y v

  -- the words after the store
  abbrev pub stored_words : List ℕ → Words
  stored_words m' = record { cells = set w.cells (field_at y f) v; remember = m'; tables = w.tables }

  -- the remember table followed
  abbrev pub Followed : List ℕ → ℕ → Type 0
  Followed m' r = Remembered s.entries w.remember (field_at y f) crossed_to will_cross m' r

module _ (s : Sizes) (w : Words) (k : WholeFor s w) (y f v : ℕ) (u : BeginsIn s w y) (low : f < ref_count w y) where
  abbrev at : ℕ
  at = field_at y f

  within : f < all_fields (head_in w y)
  within = omega (arith, kind-among Reference (head_in w y))

  few : f < room_for (head_in w y)
  few = omega (arith, within, fields-room (head_in w y) (k.objects y u).head)

  reference-slot : Slot s w.cells w.tables at
  reference-slot = field-slot s w.cells w.tables y f u few low

  room : at < cells_words s
  room = field_room s w k y f v u within

  before : cross_to s w.cells w.tables at ≡ crossed_to s w y f v
  before = field-cross s w.cells w.tables y f u few low

  after : cross_to s (set w.cells at v) w.tables at ≡ will_cross s w y f v
  after =
      cross-stored s w.cells w.tables at v reference-slot (omega (arith, room, k.sized.cells))
      ∙ ap (λ (p : ℕ). crosses_from s w.tables (owner_in s w p) v) (field-on s w.cells w.tables y u f few)

  -- a slot that crosses has its entry
  pub reference-named : 0 < crossed_to s w y f v → (i : ℕ) × (i < entries_used w.remember) × (slot_in w.remember i ≡ at)
  reference-named h = k.remember.every at room (subst (λ (z : ℕ). 0 < z) (sym before) h)

  -- and one that does not has none
  pub reference-unnamed : crossed_to s w y f v ≡ 0 → (i : ℕ) → i < entries_used w.remember → slot_in w.remember i ≡ at → ⊥
  reference-unnamed z = not_named k.remember at (before ∙ z)

  module _ (m' : List ℕ) (r : ℕ) (d : Followed s w y f v m' r) where
    edited : Edited s.entries w.remember m'
    edited = remembered-edited s.entries w.remember at _ _ m' r k.sized.remember k.remember.entries.room d

    pub reference-only : Only (field_words ∷ entry_words ∷ []) s w (stored_words s w y f v m')
    reference-only = stored-only s w k y f v u within m' edited

    pub reference-whole : IsRef s w.cells w.tables v → r ≡ 0 → WholeFor s (stored_words s w y f v m')
    reference-whole ref z =
        field-whole s w k y f v u within m' edited (λ l. ref)
        (remembered-exact (cross_to s w.cells w.tables) (cross_to s (set w.cells at v) w.tables) (cells_words s) s.entries w.remember m'
        k.sized.remember k.remember at _ _ r room
        (cross-elsewhere s w.cells w.tables at v reference-slot) before after d z)

-- ---- of whatever heap the words stand for: reference f of object x becomes u, v in the words

module _ (s : Sizes) (w : Words) (h : Regioned) (to : ℕ → ℕ) (st : StandsFor s w h to) (x : ℕ) (a : Alive (graph h) x) (f u v : ℕ) (low : f < ref_count w (to x)) (e : v ≡ renamed to u)
    (sound : Sound (with_object h x (with_field Reference (get_or h.heap.objects x no_object) f u))) where
  abbrev y : ℕ
  y = to x

  abbrev o : Object
  o = get_or h.heap.objects x no_object

  abbrev h' : Regioned
  h' = with_object h x (with_field Reference o f u)

  in_use : BeginsIn s w y
  in_use = cell-used s w h to st x a

  inside : x < length h.heap.objects
  inside = st.sound.closed.below x a

  inner : f < all_fields (head_in w y)
  inner = within s w st.whole y f v in_use low

  low-refs : f < length o.refs
  low-refs = omega (arith, length-refs s w st.whole y in_use, ap length (st.partners.refs x a), length-map o.refs (renamed to))

  -- u is null or there
  there : (z : ℕ) → u ≡ suc z → Alive (graph h) z
  there z q =
      sound.closed.refs x z a (get_d-in ((graph h').refs x) f z (ap (λ (p : Object). get_or p.refs f 0) (put h.heap.objects x (with_field Reference o f u) no_object inside) ∙ put o.refs f u 0 low-refs ∙ q))

  pub reference-stands : (m' : List ℕ) (r : ℕ) → Followed s w y f v m' r → r ≡ 0 → StandsFor s (stored_words s w y f v m') h' to
  reference-stands m' r d z =
      object-stands s w h to st x a f v inner m' (with_field Reference o f u) (reference-whole s w st.whole y f v in_use low m' r d (ref-to-cell s w h to st u v e there) z)
      (fields-set s w st.whole y f v in_use inner Reference f low (let e : f ≡ first_field Reference (head_in w y) + f = omega (arith, first-reference (head_in w y)) in e) ∙ ap₂ (λ (vs : List ℕ) (i : ℕ). set vs f i) (st.partners.refs x a) e ∙ sym (map-set (renamed to) o.refs f u))
      (st.nums x a ∙ sym (fields-kept s w st.whole y f v in_use inner Number y in_use (λ i l e q. omega (arith, first-number (head_in w y))))) sound

  -- ---- question 14

  -- the rules' test of a reference is that of the words
  cross-like : (i : ℕ) → ((z : ℕ) → i ≡ suc z → Alive (graph h) z) → cross_ref (graph h) x i ≡ bit (ltb 0 (crosses_to s w.tables y (renamed to i)))
  cross-like zero b = refl
  cross-like (suc z) b =
      let c = b z refl in
      sym (ref-test s w st.whole y in_use (suc (to z)) (ref-to-cell s w h to st (suc z) (suc (to z)) refl b)
      ∙ ap₂ (λ (p q : ℕ). cond (not (eqb p q) && not (eqb q 1)) 1 0) (st.partners.home x a) (st.partners.home z c))

  old : renamed to (get_or o.refs f 0) ≡ field_of w.cells y f
  old = sym (get_or-map (renamed to) o.refs f 0) ∙ ap (λ (vs : List ℕ). get_or vs f 0) (sym (st.partners.refs x a)) ∙ get_d-refs w y f low

  -- crossing slots after the store
  pub reference-crossing : crossing (graph h') + bit (ltb 0 (crossed_to s w y f v)) ≡ entries_used w.remember + bit (ltb 0 (will_cross s w y f v))
  reference-crossing =
      omega (
        arith,
        ap crossing (graph-stored h x inside f u o.nums),
        crossing-stored (graph h) x f u inside a low-refs,
        cross-like (get_or o.refs f 0) (λ z q. st.sound.closed.refs x z a (get_d-in o.refs f z q)),
        ap (λ (i : ℕ). bit (ltb 0 (crosses_to s w.tables y i))) old,
        cross-like u there,
        ap (λ (i : ℕ). bit (ltb 0 (crosses_to s w.tables y i))) e,
        heap-entries s w h to st,
      )

  -- done: they have entries
  pub reference-fits : (m' : List ℕ) (r : ℕ) → Followed s w y f v m' r → r ≡ 0 → crossing (graph h') ≤ s.entries
  reference-fits m' r d z =
      let st' = reference-stands m' r d z in
      omega (arith, heap-entries s (stored_words s w y f v m') h' to st', st'.whole.remember.entries.room)

  -- no room: more would cross than there are entries
  pub reference-full : (m' : List ℕ) (r : ℕ) → NoRoom s.entries w.remember (field_at y f) (crossed_to s w y f v) (will_cross s w y f v) m' r → s.entries < crossing (graph h')
  reference-full m' r n =
      omega (arith, reference-crossing, n.many, ap bit (le-ltb 0 (crossed_to s w y f v) (omega (arith, n.before))), ap bit (lt-ltb 0 (will_cross s w y f v) n.after))

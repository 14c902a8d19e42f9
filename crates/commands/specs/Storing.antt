-- Code 7 does what the rules say: a reference is stored and the remember table follows, or there is no room for an entry (14).
use Rattle.std.specs.Prelude.{◌≡◌, ℕ, suc, ◌-◌, ◌^◌, ◌<◌, ◌≤◌, Bool, ◌&&◌, List, length, set, ◌≢◌, nat_le, nat_lt, slice_index, slice_index_or, slice_set}
use Rattle.std.proofs.Common.{arith, subst, subst₂, ◌∙◌, length-set, lt-ltb, le-leb}
use Rattle.std.proofs.Math.Decide.{ℕ_discrete}
use Rattle.std.proofs.Math.Path.{refl, sym, ap, ap₂}
use Rattle.std.proofs.lemmas.Bool.{lt-leb}
use Rattle.rules.specs.declared.Sizes.{Sizes}
use Rattle.rules.specs.Regions.{regions}
use Rattle.rules.specs.Terms.{ask, refused, done, limits, first}
use Rattle.rules.specs.NeverFreeing as nf
use Rattle.rules.specs.NeverFreeing.{Object, no_object, used, var_of, object_of}
use Rattle.rules.specs.Graph.{crossing}
use Rattle.rules.specs.Rules as ru
use Rattle.rules.specs.Rules.{Regioned, graph}
use Rattle.laws.specs.GraphLaws.{Alive}
use Rattle.laws.specs.RulesLaws.{Sound, sound-after}
use Rattle.layout.specs.declared.Kind.TheVariants.{Reference}
use Rattle.layout.specs.Places.{Room, entries_used, slot_in}
use Rattle.layout.specs.Cells.{head_of, field_at, field_count, kind_at, first-reference, field-high, page_of}
use Rattle.layout.specs.Objects.{begins-page}
use Rattle.layout.specs.Words.{Words, words, heap_of, BeginsIn, ref_count, Names}
use Rattle.remember.specs.Crossing.{crosses_to}
use Rattle.remember.specs.Table.{Table}
use Rattle.remember.specs.ExactTable.{entries-table}
use Rattle.chains.specs.Chains.{Chainable}
use Rattle.promises.specs.Whole.{WholeFor}
use Rattle.promises.specs.Reading.{used-alive, whole_room}
use Rattle.promises.specs.Agreed.{heap-stands, back}
use Rattle.promises.proofs.Here.{here-var}
use Rattle.promises.proofs.Questions.{did-asked, did-lacked, did-done, room-crossing}
use Rattle.promises.specs.Changes.{with_object, with_field, renamed-same}
use Rattle.remember.specs.Remembering.{Remembered, remembered-full}
use Rattle.promises.proofs.FrameReference.{stored_words, Followed, reference-named, reference-unnamed, reference-only, reference-stands, reference-fits, reference-full}
use Rattle.commands.specs.declared.Decoded.TheVariants.{Store}
use Rattle.commands.specs.Decoding.{command_for}
use Rattle.commands.specs.ThreadVariables.{variable}
use Rattle.commands.specs.Does.{Does}
use Rattle.commands.specs.Objects.{is-ref, asked_is, within, in_use, is_field, heap-var}
use Rattle.commands.specs.Fields.{Field}
use Rattle.promises.proofs.OwnedPages.{owner-low}
use Rattle.promises.proofs.WholeChains.{other-low, whole-chainable}

-- the slot of reference f of x's object
abbrev pub slot_of : List ℕ → ℕ → ℕ → ℕ
slot_of c x f = kind_at Reference c (x - 1) f

-- what a store of v to that slot asks of the tables
pub record Storing (p : Sizes) (c m t : List ℕ) (x f v : ℕ) : Type 0 where
  pub room : Room p (length t)
  pub field : Field Reference c x f
  pub page : page_of (x - 1) < p.pages
  pub table : Table p.entries m
  pub named : 0 < crosses_to p t (x - 1) (slice_index c (slot_of c x f)) → (i : ℕ) × (i < entries_used m) × (slot_in m i ≡ slot_of c x f)
  pub new : crosses_to p t (x - 1) (slice_index c (slot_of c x f)) ≡ 0 → (i : ℕ) → i < entries_used m → slot_in m i ≢ slot_of c x f
  pub before : Names p (slice_index c (slot_of c x f))
  pub after : Names p v
  pub chainable : Chainable p m
  pub low : crosses_to p t (x - 1) v ≤ regions p

-- v was stored in reference f of x's object, or there was no room
pub record Stored (p : Sizes) (c m t : List ℕ) (x f v : ℕ) (c' m' : List ℕ) (r : ℕ) : Type 0 where
  pub entries : Remembered p.entries m (slot_of c x f) (crosses_to p t (x - 1) (slice_index c (slot_of c x f))) (crosses_to p t (x - 1) v) m' r
  pub stored : r ≡ 0 → c' ≡ slice_set c (slot_of c x f) v
  pub full : (r ≢ 0) → c' ≡ c

-- the slot, what it crossed into and what it will, as the code has them
pub record Seen (p : Sizes) (c t : List ℕ) (x f v at was will : ℕ) : Type 0 where
  pub slot : at ≡ slot_of c x f
  pub before : was ≡ crosses_to p t (x - 1) (slice_index c (slot_of c x f))
  pub after : will ≡ crosses_to p t (x - 1) v

module _ (p : Sizes) (c m t : List ℕ) (x f v at was will : ℕ) (e : Seen p c t x f v at was will) where
  pub slot-few : Storing p c m t x f v → at < 2 ^ 32
  slot-few s = subst (λ (i : ℕ). i < 2 ^ 32) (sym e.slot) (field-high (x - 1) _ s.field.inside.0 s.field.field)

  pub slot-entry : Storing p c m t x f v → 0 < was → (i : ℕ) × (i < entries_used m) × (slot_in m i ≡ at)
  slot-entry s h = let n = s.named (subst (λ (i : ℕ). 0 < i) e.before h) in (n.0, n.1, n.2 ∙ sym e.slot)

  pub slot-new : Storing p c m t x f v → was ≡ 0 → (i : ℕ) → i < entries_used m → slot_in m i ≢ at
  slot-new s z i l q = s.new (sym e.before ∙ z) i l (q ∙ e.slot)

  module _ (m' : List ℕ) (r : ℕ) (d : Remembered p.entries m at was will m' r) where
    entries-are : Remembered p.entries m (slot_of c x f) (crosses_to p t (x - 1) (slice_index c (slot_of c x f))) (crosses_to p t (x - 1) v) m' r
    entries-are =
        subst (λ (i : ℕ). Remembered p.entries m i (crosses_to p t (x - 1) (slice_index c (slot_of c x f))) (crosses_to p t (x - 1) v) m' r) e.slot
        (subst₂ (λ (i j : ℕ). Remembered p.entries m at i j m' r) e.before e.after d)

    pub stored-full : (r ≢ 0) → Stored p c m t x f v c m' r
    stored-full z = record { entries = entries-are; stored = λ h. absurd (z h); full = λ h. refl }

    pub stored-done : r ≡ 0 → {c' : List ℕ} → c' ≡ slice_set c (slot_of c x f) v → Stored p c m t x f v c' m' 0
    stored-done z g =
        record {
          entries = subst (λ (i : ℕ). Remembered p.entries m (slot_of c x f) (crosses_to p t (x - 1) (slice_index c (slot_of c x f))) (crosses_to p t (x - 1) v) m' i) z entries-are;
          stored = λ h. g;
          full = λ h. absurd (h refl);
        }

-- x is what variable a of thread u holds, v what variable b holds; q the answer to questions 9 and 10
module _ (p : Sizes) (c m t : List ℕ) (k : WholeFor p (words c m t)) (u a : ℕ) (l : u < p.threads) (n : a < p.variables) (x : ℕ) (e : x ≡ variable p t u a)
    (b : ℕ) (o : b < p.variables) (f q : ℕ) (g : q ≡ used x f (field_count Reference (head_of c (x - 1)))) where
  abbrev s : Sizes
  s = p

  abbrev w : Words
  w = words c m t

  abbrev H : Regioned
  H = heap_of s w

  abbrev y : ℕ
  y = x - 1

  store-asked : nf.question (limits s) H.heap (command_for (Store u a f b)) ≡ q
  unfolding nf.question nf.operands nf.state ask
  store-asked =
      ap (λ (i : Bool). ask i 7 (ask (nat_lt a p.variables && nat_lt b p.variables) 8 (used (var_of (limits s) H.heap u a) f (length (object_of H.heap (var_of (limits s) H.heap u a)).refs)))) (lt-ltb u p.threads l)
      ∙ ap₂ (λ (i j : Bool). ask (i && j) 8 (used (var_of (limits s) H.heap u a) f (length (object_of H.heap (var_of (limits s) H.heap u a)).refs))) (lt-ltb a p.variables n) (lt-ltb b p.variables o)
      ∙ asked_is p c m t k u a l n x e Reference f q g

  pub store-refused : (q ≢ 0) → Does p c m t (Store u a f b) c m t (refused q)
  store-refused z = did-asked s w k (command_for (Store u a f b)) q (omega arith) store-asked

  module _ (z : q ≡ 0) where
    place : field_at y f ≡ slot_of c x f
    place = omega (arith, first-reference (head_of c y))

    inside : f < ref_count w y
    inside = (within p c m t k u a l n x e Reference f q g z).1

    there : BeginsIn s w y
    there = in_use p c m t k u a l n x e Reference f q g z

    -- a slot that crosses has its entry
    pub slot-named : 0 < crosses_to p t (x - 1) (slice_index c (slot_of c x f)) → (i : ℕ) × (i < entries_used m) × (slot_in m i ≡ slot_of c x f)
    slot-named h =
        let i = reference-named s w k y f 0 there inside
        (subst (λ (j : ℕ). 0 < crosses_to p t (x - 1) (slice_index c j)) (sym place) h) in
        (i.0, i.1, i.2 ∙ place)

    slot-unnamed : crosses_to p t (x - 1) (slice_index c (slot_of c x f)) ≡ 0 → (i : ℕ) → i < entries_used m → slot_in m i ≢ slot_of c x f
    slot-unnamed h i o q =
        reference-unnamed s w k y f 0 there inside (subst (λ (j : ℕ). crosses_to p t (x - 1) (slice_index c j) ≡ 0) (sym place) h) i o (q ∙ sym place)

    pub storing : length t < 2 ^ 63 → (v : ℕ) → v ≡ variable p t u b → Storing p c m t x f v
    storing fits v ev =
        record {
          room = whole_room s w k fits;
          field = is_field p c m t k u a l n x e Reference f q g z;
          page = begins-page s c t y there;
          table = entries-table k.sized.remember k.remember.entries;
          named = slot-named;
          new = slot-unnamed;
          before = subst (λ (j : ℕ). Names p (slice_index c j)) place (λ z. begins-page _ _ _ _ ((k.objects y there).references f inside (omega arith)));
          after = λ z. begins-page _ _ _ _ (is-ref p c m t k u b l o v ev (omega arith));
          chainable = whole-chainable k;
          low = other-low s w.tables (regions s) (owner-low s w k) _ v;
        }

    module _ (v : ℕ) (ev : v ≡ variable p t u b) (c' m' : List ℕ) (j : ℕ) (d : Stored p c m t x f v c' m' j) where
      followed : Followed s w y f v m' j
      followed =
          subst (λ (i : ℕ). Remembered s.entries m i (crosses_to s t (x - 1) (slice_index c i)) (crosses_to s t (x - 1) v) m' j) (sym place)
          d.entries

      abbrev object : Object
      object = slice_index_or H.heap.objects y no_object

      abbrev h' : Regioned
      h' = with_object H y (with_field Reference object f v)

      store-after : ru.after s H (command_for (Store u a f b)) ≡ h'
      unfolding ru.after ru.homes_after ru.counters_after ru.occupancy_after nf.effect
      store-after =
          let i : var_of (limits s) H.heap u a ≡ suc y = heap-var p c m t k u a l n x e ∙ (let h : x ≡ suc y = omega (arith, within p c m t k u a l n x e Reference f q g z) in h) in
          ap₂ (λ (i j : ℕ). record { heap = nf.with_object H.heap i (record { refs = slice_set (object_of H.heap i).refs f j; nums = (object_of H.heap i).nums }); homes = H.homes; counters = H.counters; occupancy = H.occupancy }) i (here-var s w u b l o ∙ sym ev)

      sound : Sound h'
      sound = subst Sound store-after (sound-after s H (heap-stands s w k).sound (command_for (Store u a f b)))

      alive : Alive (graph H) y
      alive = back s w k y (used-alive s w k y there)

      store-room : ru.room s H (command_for (Store u a f b)) (ru.after s H (command_for (Store u a f b))) ≡ ask (nat_le (crossing (graph h')) p.entries) 14 0
      store-room = room-crossing s H h' (command_for (Store u a f b)) store-after (sym (length-set H.heap.objects y _)) refl refl

      store-done : j ≡ 0 → Does p c m t (Store u a f b) (slice_set c (field_at y f) v) m' t (done 0)
      unfolding ru.question nf.value ask
      store-done zero' =
          did-done s w k (command_for (Store u a f b)) (stored_words s w y f v m') h' 0
          (ap₂ first (store-asked ∙ z) (store-room ∙ ap (λ (i : Bool). ask i 14 0)
          (le-leb (crossing (graph h')) p.entries (reference-fits s w H (λ i. i) (heap-stands s w k) y alive f v v inside (sym (renamed-same v)) sound m' j followed zero'))))
          store-after refl (reference-only s w k y f v there inside m' j followed).beyond (λ g z. z)
          (λ so. reference-stands s w H (λ i. i) (heap-stands s w k) y alive f v v inside (sym (renamed-same v)) so m' j followed zero')

      store-full : (j ≢ 0) → Does p c m t (Store u a f b) c m t (refused 14)
      unfolding ask
      store-full some =
          did-lacked s w k (command_for (Store u a f b)) 14 (omega arith) (store-asked ∙ z)
          (store-room ∙ ap (λ (i : Bool). ask i 14 0) (lt-leb (crossing (graph h')) p.entries
          (reference-full s w H (λ i. i) (heap-stands s w k) y alive f v v inside (sym (renamed-same v)) sound m' j
          (remembered-full s.entries m (field_at y f) _ _ m' j followed some))))

      -- the answer's number is that of the store
      pub store-did : Does p c m t (Store u a f b) c' m' t (refused j)
      store-did = go (ℕ_discrete j 0)
        where
          go : Dec (j ≡ 0) → Does p c m t (Store u a f b) c' m' t (refused j)
          go (yes h) =
              subst (λ (i : ℕ). Does p c m t (Store u a f b) c' m' t (refused i)) (sym h)
              (subst (λ (i : List ℕ). Does p c m t (Store u a f b) i m' t (done 0)) (sym (d.stored h ∙ ap (λ (i : ℕ). set c i v) (sym place))) (store-done h))
          go (no h) =
              let i = remembered-full p.entries m (slot_of c x f) _ _ m' j d.entries h in
              subst (λ (q : ℕ). Does p c m t (Store u a f b) c' m' t (refused q)) (sym i.number)
              (subst (λ (q : List ℕ). Does p c m t (Store u a f b) q m' t (refused 14)) (sym (d.full h))
              (subst (λ (q : List ℕ). Does p c m t (Store u a f b) c q t (refused 14)) (sym i.same) (store-full h)))

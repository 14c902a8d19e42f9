-- A new object in a cell that was not in use: the tables stay whole.
use Rattle.std.specs.Prelude.{ℕ, zero, suc, ◌+◌, ◌≤◌, ◌<◌, ◌≡◌, refl, ◌⊎◌, List, [], ◌∷◌, length, get_or, set}
use Rattle.std.proofs.Common.{arith, sym, ap, ap₂, subst, ◌∙◌, inl, inr, ⊎_elim, length-set}
use Rattle.promises.specs.Reading.{ref-begins}
use Rattle.std.proofs.Math.Logic.{⊎_map}
use Rattle.lists.specs.Says.{true-not-false}
use Rattle.lists.specs.Stores.{put, past, drop-same}
use Rattle.rules.specs.declared.Sizes.{Sizes}
use Rattle.rules.specs.Regions.{regions}
use Rattle.rules.specs.Rules.{counted}
use Rattle.laws.specs.Counters.{leaves-made}
use Rattle.layout.specs.Places.{cells_words, owner_of}
use Rattle.layout.specs.declared.Kind.TheVariants.{Reference}
use Rattle.layout.specs.Cells.{head_at, head_of, work_at, work_of, field_at, field_of, field_count, head_word, room_for, most_fields, Formed, kind-among, fields-room, head-formed, page_of, cell_of, cell_named}
use Rattle.layout.specs.Objects.{begins-page, begins-used, used-begins, NotInUse, Covers, covers_low, covers-head, covers-work, covers-field, head-not-new, work-not-new, field-not-new, Slot, slot-page}
use Rattle.layout.specs.Words.{Words, BeginsIn, made_in, counters_in}
use Rattle.remember.specs.Crossing.{other, region_of, crosses_to, crosses_at, cross_to}
use Rattle.promises.specs.Whole.{WholeFor, Open, IsRef, ObjectWhole, live_of}
use Rattle.promises.specs.Changes.{with_cells}
use Rattle.promises.specs.Areas.{variable_words, owner_words, used_words, count_words, made_words, freed_words, work_words, field_words, unused_words, Only, only-trans, cells-only}
use Rattle.promises.proofs.Frames.{sized-frame, depths-frame, marks-frame, object-frame}
use Rattle.remember.specs.Entries.{exact-everywhere}
use Rattle.promises.specs.Slots.{region-of, slot-stays, cross-same}
use Rattle.promises.specs.Regular.{whole-regular}
use Rattle.promises.specs.TakeCell.{Took}
use Rattle.promises.proofs.TakeCell.{took-only, took-used, took-unused, took-not-in-use, took-covers, still-used, used-split, owner-used, took-live, took-regular, took-pages}

-- the words of a new object, the first of them given, and all others as they were
pub record Blank (c : List ℕ) (cell word : ℕ) (c' : List ℕ) : Type 0 where
  pub long : length c' ≡ length c
  pub head : head_of c' cell ≡ word
  pub work : work_of c' cell ≡ 0
  pub fields : (f : ℕ) → f < room_for word → field_of c' cell f ≡ 0
  pub others : (j : ℕ) → (Covers cell word j → ⊥) → get_or c' j 0 ≡ get_or c j 0

-- the cell that is taken was not in use: word 0 alone is written, and the others are zero already
pub blanked : {s : Sizes} {w : Words} {g cell n : ℕ} (word : ℕ) {t' : List ℕ} → WholeFor s w → Took s w.tables g cell n t' → Blank w.cells cell word (set w.cells (head_at cell) word)
blanked {s} {w} {g} {cell} {n} word k took =
    record {
      long = length-set w.cells (head_at cell) word;
      head = put w.cells (head_at cell) word 0 (omega (arith, covers_low s cell word (head_at cell) took.page (covers-head cell word), k.sized.cells));
      work = zero-at (work_at cell) (covers-work cell word) (λ (e : work_at cell ≡ head_at cell). omega arith);
      fields = λ f l. zero-at (field_at cell f) (covers-field cell word f l) (λ (e : field_at cell f ≡ head_at cell). omega arith);
      others = λ j n. past w.cells (head_at cell) word j 0 (λ e. n (subst (Covers cell word) (sym e) (covers-head cell word)));
    }
  where
    zero-at : (q : ℕ) → Covers cell word q → (q ≡ head_at cell → ⊥) → get_or (set w.cells (head_at cell) word) q 0 ≡ 0
    zero-at q c n = past w.cells (head_at cell) word q 0 n ∙ k.unused q (took-not-in-use took word q c)

-- ---- whole

module _ (s : Sizes) (w : Words) (k : WholeFor s w) (g cell b d : ℕ) (t' c' : List ℕ) (took : Took s w.tables g cell (counted (made_in s w + 1)) t') (blank : Blank w.cells cell (head_word b d) c')
    (few : b + d ≤ most_fields) (pos : 1 ≤ g) (low : g ≤ regions s) (open' : 1 < g → Open s w.tables g) where
  abbrev pub new_words : Words
  new_words = record { cells = c'; remember = w.remember; tables = t' }

  abbrev t : List ℕ
  t = w.tables

  abbrev c : List ℕ
  c = w.cells

  -- the object begins there, and the others where they did
  pub new-begins : BeginsIn s new_words cell
  new-begins = used-begins s c' t' cell (took-used took)

  pub not_there : BeginsIn s w cell → ⊥
  not_there b = took-unused took (begins-used s c t cell b)

  pub still-begins : (x : ℕ) → BeginsIn s w x → BeginsIn s new_words x
  still-begins x b = used-begins s c' t' x (still-used took x (begins-used s c t x b))

  pub begins-split : (x : ℕ) → BeginsIn s new_words x → (x ≡ cell) ⊎ BeginsIn s w x
  begins-split x b = ⊎_map (λ e. e) (used-begins s c t x) (used-split took x (begins-used s c' t' x b))

  ref_still : (x : ℕ) → IsRef s c t x → IsRef s c' t' x
  ref_still x r z = still-begins (cell_named x) (r z)

  pub owner-still : (x : ℕ) → BeginsIn s w x → owner_of s t' (page_of x) ≡ owner_of s t (page_of x)
  owner-still x b = owner-used (whole-regular k) took x (begins-used s c t x b)

  -- the words of the objects that were there are the same
  head-other : (x : ℕ) → BeginsIn s w x → head_of c' x ≡ head_of c x
  head-other x u = blank.others (head_at x) (head-not-new s c t x u cell (head_word b d) (took-unused took))

  pub new-only : Only (unused_words ∷ owner_words ∷ used_words ∷ count_words ∷ made_words ∷ []) s w new_words
  new-only =
      only-trans
      (cells-only s w c' (unused_words ∷ []) (λ n. head-other) (λ n x u. blank.others (work_at x) (work-not-new s c t x u cell (head_word b d) (took-unused took)))
      (λ n x u f l. blank.others (field_at x f) (field-not-new s c t x u cell (head_word b d) (took-unused took) f l)) (λ n. absurd (true-not-false (sym n)))
      (record { long = blank.long; rest = drop-same (cells_words s) c c' blank.long (λ j l. blank.others j (λ e. omega (arith, covers_low s cell (head_word b d) j took.page e))) }))
      (took-only s (with_cells w c') g cell _ t' took pos low) refl refl

  objects : (x : ℕ) → BeginsIn s new_words x → ObjectWhole s c' t' x
  objects x i =
      let h = blank.head in
      ⊎_elim
      (λ e. subst (ObjectWhole s c' t') (sym e)
      (record {
        head = subst Formed (sym h) (head-formed b d few);
        rest = λ f l m. blank.fields f (subst (λ (z : ℕ). f < room_for z) h l);
        references = λ f l p. absurd (let z : ⊥ = omega (arith, blank.fields f (omega (arith, ap (field_count Reference) h, kind-among Reference (head_word b d), fields-room (head_word b d) (head-formed b d few)))) in z);
      }))
      (λ u. object-frame new-only refl refl ref_still x u (k.objects x u)) (begins-split x i)

  works : (x : ℕ) → BeginsIn s new_words x → work_of c' x ≡ 0
  works x i = ⊎_elim (λ e. ap (work_of c') e ∙ blank.work) (λ u. new-only.same work_words refl x u ∙ k.works x u) (begins-split x i)

  -- the cells that are not in use are others than the one that is taken
  unused : (q : ℕ) → NotInUse s t' q → get_or c' q 0 ≡ 0
  unused q n =
      blank.others q (λ e. n.unused (took-covers took (head_word b d) q e))
      ∙ k.unused q (record { low = n.low; unused = λ u. n.unused (still-used took (cell_of q) u) })

  -- a new object has no slot that crosses, and the others cross as they did
  region-kept : (x : ℕ) → IsRef s c t x → region_of s t' x ≡ region_of s t x
  region-kept zero r = refl
  region-kept (suc x) r =
      let u : BeginsIn s w x = ref-begins s c t (suc x) x r refl in
      region-of s t' x (begins-page s c' t' x (still-begins x u)) ∙ owner-still x u ∙ sym (region-of s t x (begins-page s c t x u))

  slot_kept : (q : ℕ) → Slot s c t q → Slot s c' t' q × (crosses_at s c' t' q ≡ crosses_at s c t q)
  slot_kept q o =
      let u = o.begins in
      let p = slot-page s c t q o in
      let v : get_or c' q 0 ≡ get_or c q 0 = subst (λ (i : ℕ). get_or c' i 0 ≡ get_or c i 0) o.at (new-only.same field_words refl o.object u o.field o.room) in
      let r : IsRef s c t (get_or c q 0) = subst (λ (z : ℕ). IsRef s c t (get_or c z 0)) o.at ((k.objects o.object u).references o.field o.low) in (
        slot-stays o (still-begins o.object u) (head-other o.object u),
        ap₂ other (ap (owner_of s t') p ∙ owner-still o.object u ∙ sym (ap (owner_of s t) p)) (ap (region_of s t') v ∙ region-kept (get_or c q 0) r),
      )

  slot-new : (q : ℕ) → Slot s c' t' q → Slot s c t q ⊎ (crosses_at s c' t' q ≡ 0)
  slot-new q o =
      ⊎_elim
      (λ e.
      let l : o.field < room_for (head_word b d) = subst (λ (h : ℕ). o.field < room_for h) (ap (head_of c') e ∙ blank.head) o.room in
      let z : get_or c' q 0 ≡ 0 = ap (λ (i : ℕ). get_or c' i 0) (sym o.at ∙ ap (λ (i : ℕ). field_at i o.field) e) ∙ blank.fields o.field l in
      inr (ap (crosses_to s t' (cell_of q)) z))
      (λ u. inl (slot-stays o u (sym (head-other o.object u)))) (begins-split o.object o.begins)

  pub new-whole : WholeFor s new_words
  new-whole =
      record {
        sized = sized-frame new-only refl k.sized;
        depths = depths-frame new-only refl k.depths;
        pages = took-pages k took pos low open';
        partial = (took-regular (whole-regular k) took pos).partial;
        counts = (took-regular (whole-regular k) took pos).counts;
        variables = λ i l. subst (IsRef s c' t') (sym (new-only.same variable_words refl i l)) (ref_still _ (k.variables i l));
        objects = objects;
        marks = marks-frame new-only refl k.marks;
        works = works;
        remember = exact-everywhere (cross_to s c t) (cross_to s c' t') (cells_words s) s.entries w.remember (λ q l. cross-same s c t c' t' q (slot_kept q) (slot-new q)) k.remember;
        unused = unused;
        counters =
            ap₂ (λ (x y : ℕ). counted (x + y)) (took-live s t g cell _ t' took pos low) (new-only.same freed_words refl) ∙ leaves-made (counters_in s w) (live_of s t) k.counters
            ∙ sym took.made;
      }

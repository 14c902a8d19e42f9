-- The cells after a collection: each object that lives on has its words in its cell, with references that lead to the cells of what they named; no
-- other object is there, and the cells that are not in use are zero.
use Rattle.std.specs.Prelude.{◌≡◌, ◌≢◌, List, ℕ, ◌+◌, ◌*◌, ◌/◌, ◌%◌, ◌≤◌, ◌<◌, length, get_or}
use Rattle.std.proofs.Common.{sym, subst, ◌∙◌, ⊎_elim, arith}
use Rattle.std.proofs.Math.Path.{ap}
use Rattle.std.proofs.Math.Decide.{dec_lt}
use Rattle.lists.specs.Bits.{bit_at}
use Rattle.lists.specs.Counting.{sum_same}
use Rattle.lists.specs.Part.{Rises}
use Rattle.rules.specs.declared.Sizes.{Sizes}
use Rattle.rules.specs.Regions.{control}
use Rattle.laws.specs.SameRules.{renamed}
use Rattle.layout.specs.Places.{cells_words, used_of, mark_of, var_count}
use Rattle.layout.specs.Cells.{head_at, work_at, field_at, word_at, head_of, work_of, field_of, refs_of, field_count, room_for, room-is, page_of, place_of, cell_on, cell_of, page_at, page_cells, cell_words}
use Rattle.layout.specs.declared.Kind.TheVariants.{Reference}
use Rattle.layout.specs.Marks.{marked}
use Rattle.layout.specs.Objects.{InUse, NotInUse, begins-page, begins-used, used-begins, work-used, Slot, field-slot, slot-word, slot-low, objects-apart}
use Rattle.layout.specs.Words.{Words, words, Begins, BeginsIn, owner_in, head_in, ref_count}
use Rattle.promises.specs.Whole.{UnusedWhole}
use Rattle.promises.specs.Reading.{ref-room}
use Rattle.promises.specs.Ends.{Outside, Survivor, Lives, outside-lives, survivor-lives}
use Rattle.settle.specs.Rewrite.{forwarded, Rewritten, heads-same, link-same}
use Rattle.settle.specs.RewriteSlots.{Variables}
use Rattle.slide.specs.Ranks.{rank, new_place, KeptCell, place-taken}
use Rattle.slide.specs.Slid.{Slid}
use Rattle.slide.specs.Trimmed.{left_for, Trimmed}
use Rattle.ended.specs.Evacuated.{SameObject, Placement}
use Rattle.ending.specs.Copied.{placed, forwarded-placed}
use Rattle.collect.specs.Numbering.{space, Numbering, marks-listed, which, other-page, survivor-kept, kept-survivor, survivor-goes, outside-idle, outside-still, place_for, survivor-placed, number, page-listed, page-is, place_is, page-low, number-low, page-own, by_kind, placed-apart}
use Rattle.collect.specs.TablesAfter.{SpaceCounted, used₂, mark₂, other-same, own-used, own-owner}

-- a page is listed once
listed-once : {P n : ℕ} {l : List ℕ} → Rises P n l → (i j : ℕ) → i < n → j < n → get_or l i 0 ≡ get_or l j 0 → i ≡ j
listed-once {l = l} r i j h k e = go (dec_lt i j) (dec_lt j i)
  where
    go : Dec (i < j) → Dec (j < i) → i ≡ j
    go (yes d) f = absurd (let z : ⊥ = omega (arith, r.rising i j d k) in z)
    go (no d) (yes f) = absurd (let z : ⊥ = omega (arith, r.rising j i f h) in z)
    go (no d) (no f) = omega arith

-- marks that are the same number the kept cells alike
module _ (p : Sizes) (T T' : List ℕ) (same : (page : ℕ) → page < p.pages → mark_of p T' page ≡ mark_of p T page) where
  mark-same : (c : ℕ) → page_of c < p.pages → marked p T' c ≡ marked p T c
  mark-same c l = ap (λ (x : ℕ). bit_at x (place_of c)) (same (page_of c) l)

  kept_same : (c : ℕ) → KeptCell p T c → KeptCell p T' c
  kept_same c k = (k.0, mark-same c k.0 ∙ k.1)

  pub kept_back : (c : ℕ) → KeptCell p T' c → KeptCell p T c
  kept_back c k = (k.0, sym (mark-same c k.0) ∙ k.1)

  pub place_same : (l : List ℕ) (c : ℕ) → page_of c < p.pages → new_place p l T' c ≡ new_place p l T c
  unfolding rank
  place_same l c h = ap (λ (k : ℕ). cell_on (get_or l (k / page_cells) 0) (k % page_cells)) (sum_same (marked p T') (marked p T) c (λ d b. mark-same d (omega arith)))

  pub slid-same : {l W W' : List ℕ} → Slid p l T' W W' → Slid p l T W W'
  slid-same {l} {W} {W'} s =
      record {
        size = s.size;
        moved = λ c i k b n. subst (λ (d : ℕ). get_or W' (word_at d i) 0 ≡ get_or W (word_at c i) 0) (place_same l c k.0) (s.moved c i (kept_same c k) b n);
        clear = λ c k. subst (λ (d : ℕ). work_of W' d ≡ 0) (place_same l c k.0) (s.clear c (kept_same c k));
        same = λ q n. s.same q (λ c k e. n c (kept_back c k) (e ∙ place_same l c k.0));
      }

module _ {s : Sizes} {w w₁ : Words} {n : ℕ} {l W₂ : List ℕ} {K : ℕ} (a : Numbering s w w₁ n l W₂ K) {T₂ : List ℕ} (Y : Variables s (var_count s) W₂ w₁.tables T₂) where
  -- ---- before anything slides

  -- a word of a cell other than word 1
  word₂ : (c i : ℕ) → i < cell_words → i ≢ 1 → get_or W₂ (word_at c i) 0 ≡ get_or w.cells (word_at c i) 0
  word₂ c i b ne =
      a.numbered.same (word_at c i) (λ d k z. ne (omega arith)) ∙ a.keeping.marks.kept.cells (word_at c i) (λ d k z. ne (omega arith))

  head₂ : (c : ℕ) → head_of W₂ c ≡ head_in w c
  head₂ c =
      let z : head_at c ≡ word_at c 0 = omega arith in
      ap (λ (x : ℕ). get_or W₂ x 0) z ∙ word₂ c 0 (omega arith) (λ e. omega arith) ∙ ap (λ (x : ℕ). get_or w.cells x 0) (sym z)

  pub refs₂ : (c : ℕ) → refs_of W₂ c ≡ ref_count w c
  refs₂ c = ap (field_count Reference) (head₂ c)

  pub field₂ : (c f : ℕ) → f < room_for (head_in w c) → field_of W₂ c f ≡ field_of w.cells c f
  field₂ c f m =
      let z : field_at c f ≡ word_at c (2 + f) = omega arith in
      ap (λ (x : ℕ). get_or W₂ x 0) z ∙ word₂ c (2 + f) (omega (arith, m, room-is (head_in w c))) (λ e. omega arith) ∙ ap (λ (x : ℕ). get_or w.cells x 0) (sym z)

  pub begins₂ : (c : ℕ) → BeginsIn s w c → Begins s W₂ T₂ c
  begins₂ c u =
      let v = begins-used s w.cells w.tables c u in
      used-begins s W₂ T₂ c (record { page = v.page; place = omega (arith, v.place, used₂ a Y (page_of c) v.page) })

  pub was₂ : (c : ℕ) → Begins s W₂ T₂ c → BeginsIn s w c
  was₂ c u =
      let v = begins-used s W₂ T₂ c u in
      used-begins s w.cells w.tables c (record { page = v.page; place = omega (arith, v.place, used₂ a Y (page_of c) v.page) })

  module _ {W₄ W₅ T₃ : List ℕ} (Z : Trimmed s l n K W₄ T₂ W₅ T₃) {W₃ : List ℕ} (R : Rewritten (Slot s W₂ T₂) W₂ W₃) (S' : Slid s l T₂ W₃ W₄) where
    S : Slid s l w₁.tables W₃ W₄
    S = slid-same s w₁.tables T₂ (mark₂ a Y) S'

    -- ---- the references are rewritten

    slot₃ : (c f : ℕ) → BeginsIn s w c → f < ref_count w c → field_of W₃ c f ≡ renamed (placed W₂) (field_of w.cells c f)
    slot₃ c f u m =
        let room = ref-room s w a.keeping.whole c f u m in
        R.moved (field_at c f) (field-slot s W₂ T₂ c f (begins₂ c u) (omega (arith, room, ap room_for (head₂ c))) (omega (arith, m, refs₂ c)))
        ∙ ap (forwarded W₂) (field₂ c f room) ∙ forwarded-placed W₂ (field_of w.cells c f)

    rest₃ : (c f : ℕ) → BeginsIn s w c → ref_count w c ≤ f → f < room_for (head_in w c) → field_of W₃ c f ≡ field_of w.cells c f
    rest₃ c f u ge m = R.same (field_at c f) none ∙ field₂ c f m
      where
        none : Slot s W₂ T₂ (field_at c f) → ⊥
        none o =
            let z = objects-apart s W₂ T₂ o.object o.begins c (begins₂ c u) f (omega (arith, m, ap room_for (head₂ c))) o.field o.room o.at in
            omega (arith, o.low, z.1, ap (refs_of W₂) z.0, refs₂ c, ge)

    head₃ : (c : ℕ) → head_of W₃ c ≡ head_in w c
    head₃ c = heads-same R c ∙ head₂ c

    -- a cell that was not in use has not been written to
    unused₃ : (q : ℕ) → NotInUse s w.tables q → get_or W₃ q 0 ≡ 0
    unused₃ q u =
        R.same q (λ o. u.unused (in_use q (slot-word s W₂ T₂ q o).0))
        ∙ a.numbered.same q (λ c k z. u.unused (used-at q c (kept-survivor a c k).used z))
        ∙ a.keeping.marks.cells q (λ c z b e. u.unused (used-at q c b z))
        ∙ a.keeping.whole.unused q u
      where
        in_use : (q : ℕ) → InUse s T₂ (cell_of q) → InUse s w.tables (cell_of q)
        in_use q v = record { page = v.page; place = omega (arith, v.place, used₂ a Y (page_at q) v.page) }

        used-at : (q c : ℕ) → BeginsIn s w c → q ≡ work_at c → InUse s w.tables (cell_of q)
        used-at q c b z = subst (λ (x : ℕ). InUse s w.tables (cell_of x)) (sym z) (work-used s w.cells w.tables c b)

    -- ---- survivors slide, and the pages are trimmed

    -- a place that a survivor has taken is kept
    taken : (c : ℕ) (v : Survivor s w (space s w) c) → place_of (place_for a c) < left_for K (number a c v / page_cells)
    taken c v = omega (arith, place_is a c v, number-low a c v)

    -- a page of another region: its words are as they were
    other₅ : (q : ℕ) → page_at q < s.pages → owner_in s w (page_at q) ≢ control → get_or W₅ q 0 ≡ get_or W₃ q 0
    other₅ q b z =
        Z.cells q (λ j h e x y. other-page a (page_at q) z j h (sym e))
        ∙ S.same q (λ c k e. z (ap (λ (x : ℕ). owner_in s w (page_of x)) e ∙ page-own a c (kept-survivor a c k)))

    -- the word i of a survivor, in its place
    trimmed₅ : (c i : ℕ) → Survivor s w (space s w) c → i < cell_words → get_or W₅ (word_at (place_for a c) i) 0 ≡ get_or W₄ (word_at (place_for a c) i) 0
    trimmed₅ c i v b = Z.cells (word_at (place_for a c) i) gone
      where
        at : cell_of (word_at (place_for a c) i) ≡ place_for a c
        at = omega arith

        gone : (j : ℕ) → j < n → page_at (word_at (place_for a c) i) ≡ get_or l j 0 → left_for K j ≤ place_of (cell_of (word_at (place_for a c) i)) → place_of (cell_of (word_at (place_for a c) i)) < used_of s T₂ (get_or l j 0) → ⊥
        gone j h e le lt =
            let same : j ≡ number a c v / page_cells = listed-once a.list.rises j (number a c v / page_cells) h (page-listed a c v) (sym e ∙ ap page_of at ∙ page-is a c v) in
            omega (arith, taken c v, le, ap place_of at, ap (left_for K) same)

    slid₅ : (c i : ℕ) → Survivor s w (space s w) c → i < cell_words → i ≢ 1 → get_or W₅ (word_at (place_for a c) i) 0 ≡ get_or W₃ (word_at c i) 0
    slid₅ c i v b ne = trimmed₅ c i v b ∙ S.moved c i (survivor-kept a c v) b ne

    -- so of every object that lives on
    word₅ : (c i : ℕ) → Lives s w (space s w) c → i < cell_words → i ≢ 1 → get_or W₅ (word_at (placed W₂ c) i) 0 ≡ get_or W₃ (word_at c i) 0
    word₅ c i q b ne =
        by_kind a (λ d. get_or W₅ (word_at d i) 0 ≡ get_or W₃ (word_at c i) 0) c
        (λ o.
        let at : page_at (word_at c i) ≡ page_of c = omega arith in
        other₅ (word_at c i) (omega (arith, begins-page s w.cells w.tables c o.used)) (λ z. o.out (ap (owner_in s w) (sym at) ∙ z)))
        (λ v. slid₅ c i v b ne) q

    pub head₅ : (c : ℕ) → Lives s w (space s w) c → head_of W₅ (placed W₂ c) ≡ head_in w c
    head₅ c q =
        let z : (d : ℕ) → head_at d ≡ word_at d 0 = λ d. omega arith in
        ap (λ (x : ℕ). get_or W₅ x 0) (z (placed W₂ c)) ∙ word₅ c 0 q (omega arith) (λ e. omega arith) ∙ ap (λ (x : ℕ). get_or W₃ x 0) (sym (z c)) ∙ head₃ c

    field₅ : (c f : ℕ) → Lives s w (space s w) c → f < room_for (head_in w c) → field_of W₅ (placed W₂ c) f ≡ field_of W₃ c f
    field₅ c f q m =
        let z : (d : ℕ) → field_at d f ≡ word_at d (2 + f) = λ d. omega arith in
        ap (λ (x : ℕ). get_or W₅ x 0) (z (placed W₂ c)) ∙ word₅ c (2 + f) q (omega (arith, m, room-is (head_in w c))) (λ e. omega arith) ∙ ap (λ (x : ℕ). get_or W₃ x 0) (sym (z c))

    pub slot₅ : (c f : ℕ) → Lives s w (space s w) c → f < ref_count w c → field_of W₅ (placed W₂ c) f ≡ renamed (placed W₂) (field_of w.cells c f)
    slot₅ c f q m = field₅ c f q (ref-room s w a.keeping.whole c f q.used m) ∙ slot₃ c f q.used m

    work₅ : (c : ℕ) → Lives s w (space s w) c → work_of W₅ (placed W₂ c) ≡ 0
    work₅ c q =
        by_kind a (λ d. work_of W₅ d ≡ 0) c
        (λ o.
        let at : page_at (work_at c) ≡ page_of c = omega arith in
        other₅ (work_at c) (omega (arith, begins-page s w.cells w.tables c o.used)) (λ z. o.out (ap (owner_in s w) (sym at) ∙ z)) ∙ link-same R c ∙ outside-idle a c o)
        (λ v. trimmed₅ c 1 v (omega arith) ∙ S.clear c (survivor-kept a c v)) q

    pub object₅ : {M : List ℕ} {T : List ℕ} (c : ℕ) → Lives s w (space s w) c → SameObject w (placed W₂) (words W₅ M T) c
    object₅ c q =
        record {
          references = λ f m. slot₅ c f q m;
          others = λ f ge m. field₅ c f q m ∙ rest₃ c f q.used ge m;
          working = work₅ c q;
        }

    -- a word past the cells
    pub far₅ : (x : ℕ) → cells_words s ≤ x → get_or W₅ x 0 ≡ get_or w.cells x 0
    far₅ x b =
        Z.cells x (λ j h e u v. omega (arith, a.list.rises.low j h))
        ∙ S.same x (λ c k e. omega (arith, page-low a c (kept-survivor a c k)))
        ∙ R.same x (λ o. omega (arith, slot-low s W₂ T₂ x o))
        ∙ a.numbered.same x (λ c k e. omega (arith, k.0))
        ∙ a.keeping.marks.cells x (λ c z u e. omega (arith, begins-page s w.cells w.tables c u))

    pub size₅ : length W₅ ≡ length w.cells
    size₅ = Z.cells-size ∙ S.size ∙ R.size ∙ a.numbered.size ∙ a.keeping.marks.kept.cells-length

    -- ---- where objects are

    module _ {f : ℕ} {T₄ : List ℕ} (C : SpaceCounted s K f T₃ T₄) (M : List ℕ) where
      abbrev w' : Words
      w' = words W₅ M T₄

      other-begins : (c : ℕ) → owner_in s w (page_of c) ≢ control → BeginsIn s w c → Begins s W₅ T₄ c
      other-begins c z u =
          let v = begins-used s w.cells w.tables c u in
          used-begins s W₅ T₄ c (record { page = v.page; place = omega (arith, v.place, (other-same a Y Z C (page_of c) v.page z).used) })

      place-begins : (c : ℕ) → Survivor s w (space s w) c → Begins s W₅ T₄ (place_for a c)
      place-begins c v =
          used-begins s W₅ T₄ (place_for a c)
          (record { page = page-low a c v; place = omega (arith, taken c v, own-used a Y Z C (number a c v / page_cells) (page-listed a c v), ap (used_of s T₄) (page-is a c v)) })

      pub placement₅ : Placement s w (space s w) w' (placed W₂)
      placement₅ =
          record {
            used = λ c. by_kind a (Begins s W₅ T₄) c (λ o. other-begins c o.out o.used) (place-begins c);
            head = head₅;
            stayed = λ c o. record { same = outside-still a c o; owner = (other-same a Y Z C (page_of c) (begins-page s w.cells w.tables c o.used) o.out).owner };
            went = λ c v.
                ap (λ (d : ℕ). owner_in s w' (page_of d)) (survivor-placed a c v) ∙ ap (owner_in s w') (page-is a c v)
                ∙ own-owner a Y Z C (number a c v / page_cells) (page-listed a c v) (omega (arith, taken c v)) ∙ sym (survivor-goes a c v);
            apart = placed-apart a;
          }

      -- there is no other
      pub only₅ : (d : ℕ) → BeginsIn s w' d → (c : ℕ) × Lives s w (space s w) c × (placed W₂ c ≡ d)
      only₅ d u = ⊎_elim own other (which a (page_of d) v.page)
        where
          v : InUse s T₄ d
          v = begins-used s W₅ T₄ d u

          own : (j : ℕ) × (j < n) × (get_or l j 0 ≡ page_of d) → (c : ℕ) × Lives s w (space s w) c × (placed W₂ c ≡ d)
          own q =
              let k : ℕ = page_cells * q.0 + place_of d in
              let few : k < K = omega (arith, v.place, own-used a Y Z C q.0 q.1, ap (used_of s T₄) q.2) in
              let t = place-taken (marks-listed a) k (omega (arith, few, a.numbered.count)) in
              let x = kept-survivor a t.0 t.1 in
              let at : number a t.0 x / page_cells ≡ q.0 = omega (arith, t.2) in
              (t.0, survivor-lives x, survivor-placed a t.0 x ∙ omega (arith, t.2, ap (λ (i : ℕ). get_or l i 0) at, q.2))

          other : owner_in s w (page_of d) ≢ control → (c : ℕ) × Lives s w (space s w) c × (placed W₂ c ≡ d)
          other z =
              let b = used-begins s w.cells w.tables d (record { page = v.page; place = omega (arith, v.place, (other-same a Y Z C (page_of d) v.page z).used) }) in
              let o : Outside s w (space s w) d = record { used = b; out = z } in
              (d, outside-lives o, outside-still a d o)

      -- cells that are not in use are zero
      pub unused₅ : UnusedWhole s w'
      unused₅ q u = ⊎_elim own other (which a (page_at q) (omega (arith, u.low)))
        where
          other : owner_in s w (page_at q) ≢ control → get_or W₅ q 0 ≡ 0
          other z =
              other₅ q (omega (arith, u.low)) z
              ∙ unused₃ q (record { low = u.low; unused = λ v. u.unused (record { page = v.page; place = omega (arith, v.place, (other-same a Y Z C (page_at q) v.page z).used) }) })

          own : (j : ℕ) × (j < n) × (get_or l j 0 ≡ page_at q) → get_or W₅ q 0 ≡ 0
          own t = go (dec_lt (place_of (cell_of q)) (used_of s T₂ (get_or l t.0 0)))
            where
              j : ℕ
              j = t.0

              past : left_for K j ≤ place_of (cell_of q)
              past = go' (dec_lt (place_of (cell_of q)) (left_for K j))
                where
                  go' : Dec (place_of (cell_of q) < left_for K j) → left_for K j ≤ place_of (cell_of q)
                  go' (yes b) =
                      absurd (u.unused (record { page = omega (arith, u.low); place = omega (arith, own-used a Y Z C j t.1, ap (used_of s T₄) t.2) }))
                  go' (no b) = omega arith

              go : Dec (place_of (cell_of q) < used_of s T₂ (get_or l j 0)) → get_or W₅ q 0 ≡ 0
              go (yes b) = Z.zeros q j t.1 (sym t.2) past b
              go (no b) =
                  Z.cells q (λ i h e le lt. let same : i ≡ j = listed-once a.list.rises i j h t.1 (sym e ∙ sym t.2) in omega (arith, lt, b, ap (λ (x : ℕ). used_of s T₂ (get_or l x 0)) same))
                  ∙ S.same q (λ c k e.
                  let v = kept-survivor a c k in
                  let same : j ≡ number a c v / page_cells = listed-once a.list.rises j (number a c v / page_cells) t.1 (page-listed a c v) (t.2 ∙ ap page_of e ∙ page-is a c v) in
                  omega (arith, taken c v, past, ap place_of e, ap (left_for K) same))
                  ∙ unused₃ q (record {
                    low = u.low;
                    unused = λ v. omega (arith, v.place, b, used₂ a Y (page_at q) v.page, ap (used_of s T₂) t.2);
                  })

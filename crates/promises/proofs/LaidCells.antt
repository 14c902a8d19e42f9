-- Words that stand for a heap are the words of that heap: the cells.
use Prim.Native.Nat.{ℕ, zero, suc, ◌+◌, ◌-◌, ◌≤◌, ◌<◌}
use native.Mathlib.Omega.{arith}
use Rattle.std.proofs.Math.Decide.{dec_lt, ℕ_discrete}
use Rattle.std.specs.Prelude.{◌≡◌, Bool, true, false, cond, not, ◌&&◌, length, eqb}
use Rattle.std.proofs.Math.Path.{refl, sym, ap, ap₂}
use Rattle.std.proofs.Common.{◌∙◌, length-append, get_or-append-add, eq-eqb, ne_eqb, le-leb}
use Rattle.std.proofs.Math.Logic.{by_cases}
use mathlib.Core.List.{List, ◌++◌, map}
use Rattle.std.proofs.Math.ListN.{get_or, get_or-append, get_or-map, get_or-eq_default}
use Rattle.std.proofs.lemmas.List.{length-map}
use Rattle.std.proofs.lemmas.Bool.{lt-leb}
use Rattle.lists.specs.Members.{In, map_same, get_d-in}
use Rattle.rules.specs.declared.Sizes.{Sizes}
use Rattle.rules.specs.NeverFreeing.{Object, no_object}
use Rattle.rules.specs.Rules.{Regioned, graph, home_of, object_at}
use Rattle.laws.specs.GraphLaws.{Alive}
use Rattle.laws.specs.SameRules.{renamed}
use Rattle.laws.specs.LikeCells.{Held, by, none, held_by}
use Rattle.layout.specs.declared.Kind.TheVariants.{Reference, Number}
use Rattle.layout.specs.Places.{cells_words}
use Rattle.layout.specs.Cells.{head_at, work_at, field_at, field_of, head_word, most_fields, refs-head, nums-head, head-determined, first-number, first_field, room_for, room-is, page_of, cell_of, word_of}
use Rattle.layout.specs.Objects.{used-begins, begins-page, slot-word}
use Rattle.layout.specs.Words.{Words, BeginsIn, head_in, owner_in, refs_in, nums_in, ref_count, num_count}
use Rattle.remember.specs.Crossing.{other, crosses_to, cross_to}
use Rattle.remember.proofs.Crosses.{field-cross, no-cross}
use Rattle.promises.specs.StandsFor.{StandsFor}
use Rattle.promises.specs.Slots.{region-of}
use Rattle.promises.specs.Reading.{used-alive, used-home, length_fields, get_d-fields, get_d-refs, ref-room}
use Rattle.promises.specs.Agreed.{cell-used}
use Rattle.promises.specs.WordsOf.{ref_word, object_word, word_with, cell_word, crossed, crossed_with, crossed_at}

-- a region that is another than o and not the control space, by the rules' test
other-crosses : (o g : ℕ) → 0 < g → other o g ≡ cond (not (eqb o g) && not (eqb g 1)) g 0
other-crosses o g pos = go (ℕ_discrete g 1) (ℕ_discrete g o)
  where
    nothing : (b : Bool) → cond (b && not true) g 0 ≡ 0
    nothing true = refl
    nothing false = refl

    go : Dec (g ≡ 1) → Dec (g ≡ o) → other o g ≡ cond (not (eqb o g) && not (eqb g 1)) g 0
    go (yes e) d =
        ap (λ (b : Bool). cond b 0 (cond (eqb g o) 0 g)) (le-leb g 1 (omega arith))
        ∙ sym (ap (λ (b : Bool). cond (not (eqb o g) && not b) g 0) (eq-eqb g 1 e) ∙ nothing (not (eqb o g)))
    go (no n) (yes e) =
        ap₂ (λ (a b : Bool). cond a 0 (cond b 0 g)) (lt-leb g 1 (omega arith)) (eq-eqb g o e)
        ∙ sym (ap (λ (b : Bool). cond (not b && not (eqb g 1)) g 0) (eq-eqb o g (sym e)))
    go (no n) (no m) =
        ap₂ (λ (a b : Bool). cond a 0 (cond b 0 g)) (lt-leb g 1 (omega arith)) (ne_eqb g o m)
        ∙ sym (ap₂ (λ (a b : Bool). cond (not a && not b) g 0) (ne_eqb o g (λ e. m (sym e))) (ne_eqb g 1 n))

module _ (s : Sizes) (w : Words) (h : Regioned) (to : ℕ → ℕ) (st : StandsFor s w h to) where
  -- references that are null or name objects that are there
  pub ref-words : (vs : List ℕ) → ((y : ℕ) → In (suc y) vs → Alive (graph h) y) → map (ref_word h) vs ≡ map (renamed to) vs
  unfolding ref_word
  ref-words vs f = map_same (ref_word h) (renamed to) vs go
    where
      go : (v : ℕ) → In v vs → ref_word h v ≡ renamed to v
      go zero i = refl
      go (suc y) i = ap suc (st.occupies.cells y (f y i))

  -- ---- an object that is there

  module _ (x : ℕ) (a : Alive (graph h) x) where
    abbrev o : Object
    o = get_or h.heap.objects x no_object

    abbrev c : ℕ
    c = to x

    u : BeginsIn s w c
    u = cell-used s w h to st x a

    refs-are : map (ref_word h) o.refs ≡ refs_in w c
    refs-are = ref-words o.refs (λ y i. st.sound.closed.refs x y a i) ∙ sym (st.partners.refs x a)

    refs-long : length o.refs ≡ ref_count w c
    refs-long = sym (length-map o.refs (ref_word h)) ∙ ap length refs-are ∙ length_fields s w st.whole Reference c u

    nums-long : length o.nums ≡ num_count w c
    nums-long = ap length (st.nums x a) ∙ length_fields s w st.whole Number c u

    few : length o.refs + length o.nums ≤ most_fields
    few = omega (arith, refs-long, nums-long, (st.whole.objects c u).head)

    head-word : head_word (length o.refs) (length o.nums) ≡ head_in w c
    head-word =
        head-determined (head_word (length o.refs) (length o.nums)) (head_in w c)
        (refs-head (length o.refs) (length o.nums) few ∙ refs-long) (nums-head (length o.refs) (length o.nums) few ∙ nums-long)

    -- its fields, references and numbers one after the other
    abbrev fields : List ℕ
    fields = refs_in w c ++ nums_in w c

    refs-count : length (refs_in w c) ≡ ref_count w c
    refs-count = length_fields s w st.whole Reference c u

    nums-count : length (nums_in w c) ≡ num_count w c
    nums-count = length_fields s w st.whole Number c u

    fields-are : (f : ℕ) → f < room_for (head_in w c) → get_or fields f 0 ≡ field_of w.cells c f
    fields-are f l =
        by_cases (dec_lt f (ref_count w c)) (λ m. get_or-append (refs_in w c) (nums_in w c) 0 f (omega (arith, refs-count)) ∙ get_d-refs w c f m)
        (λ m. by_cases (dec_lt f (ref_count w c + num_count w c))
        (λ n.
        let e : length (refs_in w c) + (f - ref_count w c) ≡ f = omega (arith, refs-count) in
        let e' : first_field Number (head_in w c) + (f - ref_count w c) ≡ f = omega (arith, first-number (head_in w c)) in
        ap (λ (i : ℕ). get_or fields i 0) (sym e) ∙ get_or-append-add (refs_in w c) (nums_in w c) (f - ref_count w c) 0
        ∙ get_d-fields Number w c (f - ref_count w c) (omega arith) ∙ ap (field_of w.cells c) e')
        (λ n.
        get_or-eq_default fields 0 (omega (arith, length-append (refs_in w c) (nums_in w c), refs-count, nums-count))
        ∙ sym ((st.whole.objects c u).rest f l (omega arith))))

    object-word : (q : ℕ) → cell_of q ≡ c → object_word h o (word_of q) ≡ get_or w.cells q 0
    unfolding object_word
    object-word q e = go (word_of q) refl
      where
        go : (j : ℕ) → word_of q ≡ j → object_word h o j ≡ get_or w.cells q 0
        go zero d = head-word ∙ ap (λ (i : ℕ). get_or w.cells i 0) (let z : head_at c ≡ q = omega arith in z)
        go (suc zero) d = sym (st.whole.works c u) ∙ ap (λ (i : ℕ). get_or w.cells i 0) (let z : work_at c ≡ q = omega arith in z)
        go (suc (suc f)) d =
            ap₂ (λ (xs ys : List ℕ). get_or (xs ++ ys) f 0) refs-are (st.nums x a) ∙ fields-are f (omega (arith, room-is (head_in w c)))
            ∙ ap (λ (i : ℕ). get_or w.cells i 0) (let z : field_at c f ≡ q = omega arith in z)

    -- what one of its references crosses into
    owner-home : owner_in s w (page_of c) ≡ home_of h x
    owner-home = sym (used-home s w c u) ∙ st.partners.home x a

  module _ (x : ℕ) (a : Alive (graph h) x) where
    crosses-ref : (v : ℕ) → ((y : ℕ) → v ≡ suc y → Alive (graph h) y) → crossed h x v ≡ crosses_to s w.tables (to x) (renamed to v)
    crosses-ref zero f = refl
    crosses-ref (suc y) f =
        let b = f y refl in
        let v = u y b in
        sym (ap₂ other (owner-home x a) (region-of s w.tables (to y) (begins-page s w.cells w.tables (to y) v) ∙ owner-home y b)
        ∙ other-crosses (home_of h x) (home_of h y) (let z : home_of h y ≡ 0 → ⊥ = b in omega arith))

    crossed-word : (q : ℕ) → cell_of q ≡ to x → crossed_with h (suc x) (word_of q) ≡ cross_to s w.cells w.tables q
    crossed-word q e = go (word_of q) refl
      where
        not-slot : (word_of q < 2) → cross_to s w.cells w.tables q ≡ 0
        not-slot l = no-cross s w.cells w.tables q (λ z. let r = (slot-word s w.cells w.tables q z).1.0 in omega arith)

        go : (j : ℕ) → word_of q ≡ j → crossed_with h (suc x) j ≡ cross_to s w.cells w.tables q
        go zero d = sym (not-slot (omega arith))
        go (suc zero) d = sym (not-slot (omega arith))
        go (suc (suc f)) d = at (dec_lt f (ref_count w (to x)))
          where
            z : field_at (to x) f ≡ q
            z = omega arith

            vs : List ℕ
            vs = (get_or h.heap.objects x no_object).refs

            at : Dec (f < ref_count w (to x)) → crossed h x (get_or vs f 0) ≡ cross_to s w.cells w.tables q
            at (yes l) =
                crosses-ref (get_or vs f 0) (λ y d. st.sound.closed.refs x y a (get_d-in vs f y d))
                ∙ ap (crosses_to s w.tables (to x)) (sym (get_or-map (renamed to) vs f 0) ∙ ap (λ (l : List ℕ). get_or l f 0) (sym (st.partners.refs x a)) ∙ get_d-refs w (to x) f l)
                ∙ sym (field-cross s w.cells w.tables (to x) f (u x a) (ref-room s w st.whole (to x) f (u x a) l) l)
                ∙ ap (cross_to s w.cells w.tables) z
            at (no n) =
                ap (crossed h x) (get_or-eq_default vs 0 {n = f} (omega (arith, refs-long x a)))
                ∙ sym (no-cross s w.cells w.tables q (λ k. let r = (slot-word s w.cells w.tables q k).1.1 in n (omega (arith, ap (ref_count w) e))))

  -- ---- every position

  -- no object is there
  module _ (q : ℕ) (low : q < cells_words s) (gone : (x : ℕ) → Alive (graph h) x → to x ≡ cell_of q → ⊥) where
    not-begins : BeginsIn s w (cell_of q) → ⊥
    not-begins b = let r = st.partners.onto (cell_of q) (used-alive s w st.whole (cell_of q) b) in gone r.0 r.1 r.2

    zero_word : get_or w.cells q 0 ≡ 0
    zero_word = st.whole.unused q (record { low = low; unused = λ i. not-begins (used-begins s w.cells w.tables (cell_of q) i) })

    no_slot : cross_to s w.cells w.tables q ≡ 0
    no_slot = no-cross s w.cells w.tables q (λ o. not-begins (used-begins s w.cells w.tables (cell_of q) (slot-word s w.cells w.tables q o).0))

  module _ (q : ℕ) (low : q < cells_words s) where
    cell-of : (x : ℕ) → Alive (graph h) x → to x ≡ cell_of q → (Held h (cell_of q)) → object_at h (cell_of q) ≡ suc x
    cell-of x a e (by y d b f) = d ∙ ap suc (st.partners.apart y x b a (sym (st.occupies.cells y b) ∙ f ∙ sym e))
    cell-of x a e (none d n) = absurd (n x a (st.occupies.cells x a ∙ e))

    pub cell-is : cell_word h q ≡ get_or w.cells q 0
    cell-is = go (held_by h (cell_of q))
      where
        go : Held h (cell_of q) → cell_word h q ≡ get_or w.cells q 0
        go (by x e a f) = ap (λ (n : ℕ). word_with h n (word_of q)) e ∙ object-word x a q (sym f ∙ st.occupies.cells x a)
        go (none e n) = ap (λ (m : ℕ). word_with h m (word_of q)) e ∙ sym (zero_word q low (λ x a f. n x a (st.occupies.cells x a ∙ f)))

    pub crossed-is : crossed_at h q ≡ cross_to s w.cells w.tables q
    crossed-is = go (held_by h (cell_of q))
      where
        go : Held h (cell_of q) → crossed_at h q ≡ cross_to s w.cells w.tables q
        go (by x e a f) = ap (λ (n : ℕ). crossed_with h n (word_of q)) e ∙ crossed-word x a q (sym f ∙ st.occupies.cells x a)
        go (none e n) = ap (λ (m : ℕ). crossed_with h m (word_of q)) e ∙ sym (no_slot q low (λ x a f. n x a (st.occupies.cells x a ∙ f)))

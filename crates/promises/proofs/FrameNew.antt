-- A new object: the words stand for the heap with that object appended, and its variable set.
use Rattle.std.specs.Prelude.{ℕ, zero, suc, ◌+◌, ◌≤◌, ◌<◌, ◌≡◌, refl, ◌⊎◌, Bool, cond, length, get_or, set, replicate, eqb}
use Rattle.std.proofs.Common.{arith, add-one, ap₂, subst, ◌∙◌, inl, inr, ⊎_elim, length-append, eq-eqb, ne_eqb}
use Rattle.std.proofs.Math.Decide.{ℕ_discrete, dec_lt}
use Rattle.std.proofs.Math.Path.{sym, ap}
use Rattle.std.proofs.Math.Logic.{by_cases}
use mathlib.Core.List.{List, [], ◌∷◌, ◌++◌, map}
use Rattle.std.proofs.Math.ListN.{get_or-append, get_or-eq_default}
use Rattle.std.proofs.lemmas.List.{get_or_at}
use Rattle.lists.specs.Members.{In, map_same, in_place}
use Rattle.lists.specs.Zeros.{all-zero}
use Rattle.rules.specs.declared.Sizes.{Sizes}
use Rattle.rules.specs.NeverFreeing.{Object, no_object}
use Rattle.rules.specs.Regions.{regions}
use Rattle.rules.specs.Pages.{Pages, take}
use Rattle.rules.specs.Rules.{counted, Regioned, graph, object_cell, one_made, taken_by}
use Rattle.laws.specs.GraphLaws.{Alive, Closed}
use Rattle.laws.specs.RulesLaws.{Sound}
use Rattle.laws.specs.SameRules.{renamed, renamed-zeros}
use Rattle.layout.specs.Places.{var_at, var_count}
use Rattle.layout.specs.declared.Kind.{Kind}
use Rattle.layout.specs.declared.Kind.TheVariants.{Reference, Number}
use Rattle.layout.specs.Cells.{head_of, field_count, first_field, head_word, most_fields, room_for, kind-among, fields-room, refs-head, nums-head}
use Rattle.layout.specs.Words.{Words, BeginsIn, fields_at, home_in, made_in, pages_at, graph_of}
use Rattle.promises.specs.Whole.{WholeFor, Open}
use Rattle.promises.specs.StandsFor.{Occupies, StandsFor}
use Rattle.promises.specs.Reading.{alive-used, used-alive, used-home, length_fields, get_d-fields}
use Rattle.promises.specs.Agreed.{cell-used}
use Rattle.promises.specs.Changes.{with_tables, with_new, with_variable}
use Rattle.promises.specs.Areas.{owner_words, used_words, count_words, made_words, freed_words, unused_words, Only}
use Rattle.promises.proofs.Frames.{depths-same, vars-same, fields-same}
use Rattle.promises.specs.TakeCell.{Took}
use Rattle.promises.proofs.NewCell.{Blank, new-begins, not_there, still-begins, begins-split, owner-still, new-only, new-whole}
use Rattle.promises.proofs.FrameVariable.{variable-stands}

-- an object of b nulls and d zeros
abbrev pub blank_object : ℕ → ℕ → Object
blank_object b d = record { refs = replicate b 0; nums = replicate d 0 }

-- the cell that region g took is the one that the rules say, and the pages after it are theirs
abbrev pub Takes : Sizes → List ℕ → ℕ → ℕ → List ℕ → Type 0
Takes s t g cell t' = (cell ≡ (take (pages_at s t) g).cell) × (pages_at s t' ≡ (take (pages_at s t) g).pages)

-- the map to cells, with the new object's
abbrev pub with_cell : Regioned → (ℕ → ℕ) → ℕ → ℕ → ℕ
with_cell h to cell x = cond (eqb x (length h.heap.objects)) cell (to x)

module _ (s : Sizes) (w : Words) (h : Regioned) (to : ℕ → ℕ) (st : StandsFor s w h to) (g cell b d : ℕ) (t' c' : List ℕ) (took : Took s w.tables g cell (counted (made_in s w + 1)) t')
    (takes : Takes s w.tables g cell t') (blank : Blank w.cells cell (head_word b d) c') (few : b + d ≤ most_fields) (pos : 1 ≤ g) (low : g ≤ regions s) (open' : 1 < g → Open s w.tables g) where
  abbrev n : ℕ
  n = length h.heap.objects

  abbrev o : Object
  o = blank_object b d

  abbrev h₁ : Regioned
  h₁ = with_new h o g

  abbrev w₁ : Words
  w₁ = record { cells = c'; remember = w.remember; tables = t' }

  abbrev to₁ : ℕ → ℕ
  to₁ = with_cell h to cell

  k₁ : WholeFor s w₁
  k₁ = new-whole s w st.whole g cell b d t' c' took blank few pos low open'

  only : Only (unused_words ∷ owner_words ∷ used_words ∷ count_words ∷ made_words ∷ []) s w w₁
  only = new-only s w st.whole g cell b d t' c' took blank few pos low open'

  to-new : to₁ n ≡ cell
  to-new = ap (λ (x : Bool). cond x cell (to n)) (eq-eqb n n refl)

  -- the old objects keep their cells
  pub to-old : (x : ℕ) → Alive (graph h) x → to₁ x ≡ to x
  to-old x a = ap (λ (q : Bool). cond q cell (to x)) (ne_eqb x n (λ (e : x ≡ n). omega (arith, st.sound.closed.below x a)))

  home-old : (x : ℕ) → x < n → (graph h₁).home x ≡ (graph h).home x
  home-old x l = get_or-append h.homes (g ∷ []) 0 x (omega (arith, st.sound.aligned))

  home-new : (graph h₁).home n ≡ g
  home-new = get_or_at h.homes g [] 0 n st.sound.aligned

  object-old : (x : ℕ) → x < n → get_or h₁.heap.objects x no_object ≡ get_or h.heap.objects x no_object
  object-old x l = get_or-append h.heap.objects (o ∷ []) no_object x l

  object-new : get_or h₁.heap.objects n no_object ≡ o
  object-new = get_or_at h.heap.objects o [] no_object n refl

  -- an object that is there is an old one or the new one
  split : (x : ℕ) → Alive (graph h₁) x → Alive (graph h) x ⊎ (x ≡ n)
  split x a =
      by_cases (ℕ_discrete x n) inr (λ e. by_cases (dec_lt x n) (λ l. inl (λ z. a (home-old x l ∙ z)))
      (λ l. absurd (a (get_or-eq_default (h.homes ++ g ∷ []) 0 (omega (arith, length-append h.homes (g ∷ []), st.sound.aligned))))))

  pub still : (x : ℕ) → Alive (graph h) x → Alive (graph h₁) x
  still x a z = a (sym (home-old x (st.sound.closed.below x a)) ∙ z)

  cases : (P : ℕ → ℕ → Type 0) → ((x : ℕ) → Alive (graph h) x → P x (to x)) → P n cell → (x : ℕ) → Alive (graph h₁) x → P x (to₁ x)
  cases P f q x a =
      ⊎_elim (λ e. subst (P x) (sym (to-old x e)) (f x e)) (λ e. subst (λ (z : ℕ). P z (to₁ z)) (sym e) (subst (P n) (sym to-new) q)) (split x a)

  new-used : BeginsIn s w₁ cell
  new-used = new-begins s w st.whole g cell b d t' c' took blank few pos low open'

  -- ---- homes

  home-kept : (y : ℕ) → BeginsIn s w y → home_in s w₁ y ≡ home_in s w y
  home-kept y u =
      used-home s w₁ y (still-begins s w st.whole g cell b d t' c' took blank few pos low open' y u) ∙ owner-still s w st.whole g cell b d t' c' took blank few pos low open' y u ∙ sym (used-home s w y u)

  apart-new : (x : ℕ) → Alive (graph h) x → to x ≡ cell → ⊥
  apart-new x a e = not_there s w st.whole g cell b d t' c' took blank few pos low open' (subst (BeginsIn s w) e (cell-used s w h to st x a))

  one-to-one : (x y : ℕ) → Alive (graph h) x ⊎ (x ≡ n) → Alive (graph h) y ⊎ (y ≡ n) → to₁ x ≡ to₁ y → x ≡ y
  one-to-one x y (inl a) (inl c) e = st.partners.apart x y a c (sym (to-old x a) ∙ e ∙ to-old y c)
  one-to-one x y (inl a) (inr f) e = absurd (apart-new x a (sym (to-old x a) ∙ e ∙ ap to₁ f ∙ to-new))
  one-to-one x y (inr f) (inl c) e = absurd (apart-new y c (sym (to-old y c) ∙ sym e ∙ ap to₁ f ∙ to-new))
  one-to-one x y (inr f) (inr i) e = f ∙ sym i

  onto : (y : ℕ) → Alive (graph_of s w₁) y → (x : ℕ) × Alive (graph h₁) x × (to₁ x ≡ y)
  onto y a =
      ⊎_elim (λ e. (n, (λ z. omega (arith, home-new)), to-new ∙ sym e))
      (λ u. let r = st.partners.onto y (used-alive s w st.whole y u) in (r.0, still r.0 r.1, to-old r.0 r.1 ∙ r.2))
      (begins-split s w st.whole g cell b d t' c' took blank few pos low open' y (alive-used s w₁ y a))

  -- ---- fields

  renamed-old : (vs : List ℕ) → ((y : ℕ) → In (suc y) vs → Alive (graph h) y) → map (renamed to₁) vs ≡ map (renamed to) vs
  renamed-old vs f = map_same (renamed to₁) (renamed to) vs go
    where
      go : (v : ℕ) → In v vs → renamed to₁ v ≡ renamed to v
      go zero i = refl
      go (suc y) i = ap suc (to-old y (f y i))

  fields-old : (f : Kind) (y : ℕ) → BeginsIn s w y → fields_at f c' y ≡ fields_at f w.cells y
  fields-old f y u = fields-same only refl refl f y u (st.whole.objects y u).head

  fields-new : (f : Kind) (m : ℕ) → field_count f (head_word b d) ≡ m → fields_at f c' cell ≡ replicate m 0
  fields-new f m e =
      let count : field_count f (head_of c' cell) ≡ m = ap (field_count f) blank.head ∙ e in
      all-zero (fields_at f c' cell) m (length_fields s w₁ k₁ f cell new-used ∙ count)
      (λ i l. let n : i < field_count f (head_of c' cell) = omega (arith, count) in
      get_d-fields f w₁ cell i n ∙ blank.fields (first_field f (head_of c' cell) + i) (omega (arith, kind-among f (head_of c' cell), fields-room (head_of c' cell) (k₁.objects cell new-used).head, ap room_for blank.head)))

  new-occupies : Occupies s w₁ h₁ to₁
  unfolding taken_by
  new-occupies =
      let ps = h.occupancy.pages in
      let e = st.occupies.pages in
      record {
        cells = cases (λ x y. object_cell h₁ x ≡ y)
            (λ x a. get_or-append h.occupancy.cells ((take ps g).cell ∷ []) 0 x (omega (arith, st.sound.closed.below x a, st.sound.celled, st.sound.aligned)) ∙ st.occupies.cells x a)
            (get_or_at h.occupancy.cells (take ps g).cell [] 0 n (st.sound.celled ∙ st.sound.aligned) ∙ ap (λ (q : Pages). (take q g).cell) e ∙ sym takes.0);
        pages = ap (λ (q : Pages). (take q g).pages) e ∙ sym takes.1;
      }

  pub new-stands : Sound h₁ → StandsFor s w₁ h₁ to₁
  new-stands sound =
      record {
        whole = k₁;
        sound = sound;
        depths = st.depths ∙ sym (depths-same only refl);
        partners = record {
          home = cases (λ x y. home_in s w₁ y ≡ (graph h₁).home x)
              (λ x a. home-kept (to x) (cell-used s w h to st x a) ∙ st.partners.home x a ∙ sym (home-old x (st.sound.closed.below x a)))
              (used-home s w₁ cell new-used ∙ took.owner ∙ sym home-new);
          apart = λ x y a c e. one-to-one x y (split x a) (split y c) e;
          onto = onto;
          refs = cases (λ x y. fields_at Reference c' y ≡ map (renamed to₁) (get_or h₁.heap.objects x no_object).refs)
              (λ x a. fields-old Reference (to x) (cell-used s w h to st x a) ∙ st.partners.refs x a
              ∙ sym (ap (λ (q : Object). map (renamed to₁) q.refs) (object-old x (st.sound.closed.below x a)) ∙ renamed-old ((graph h).refs x) (λ y i. st.sound.closed.refs x y a i)))
              (fields-new Reference b (refs-head b d few) ∙ sym (ap (λ (q : Object). map (renamed to₁) q.refs) object-new ∙ renamed-zeros b to₁));
          vars = vars-same only refl ∙ st.partners.vars
              ∙ sym (renamed-old h.heap.vars (λ y i. let j = in_place h.heap.vars (suc y) i in st.sound.closed.vars j.0 y j.2));
        };
        nums = cases (λ x y. (get_or h₁.heap.objects x no_object).nums ≡ fields_at Number c' y)
            (λ x a. ap (λ (q : Object). q.nums) (object-old x (st.sound.closed.below x a)) ∙ st.nums x a ∙ sym (fields-old Number (to x) (cell-used s w h to st x a)))
            (ap (λ (q : Object). q.nums) object-new ∙ sym (fields-new Number d (nums-head b d few)));
        counters = ap one_made st.counters ∙ ap₂ (λ (x y : ℕ). record { made = x; freed = y }) (sym took.made) (sym (only.same freed_words refl));
        occupies = new-occupies;
      }

  -- ---- and variable i, counted through all threads, names it

  pub made-stands : (i : ℕ) → i < var_count s → Sound (with_variable h₁ i (n + 1)) → StandsFor s (with_tables w₁ (set t' (var_at s i) (cell + 1))) (with_variable h₁ i (n + 1)) to₁
  made-stands i l sound =
      let between : Closed (graph h₁) = record { below = sound.closed.below; vars = λ j x e. still x (st.sound.closed.vars j x e); refs = sound.closed.refs } in
      variable-stands s w₁ h₁ to₁ (new-stands (record { aligned = sound.aligned; celled = sound.celled; closed = between })) i (n + 1) (cell + 1) l
      (add-one cell ∙ ap suc (sym to-new) ∙ sym (ap (renamed to₁) (add-one n))) sound

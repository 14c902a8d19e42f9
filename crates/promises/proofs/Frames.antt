-- Each condition of whole tables holds as it did where the areas that it reads are the same; and so do homes, depths, variables and fields.
use Rattle.std.specs.Prelude.{ℕ, suc, ◌+◌, ◌<◌, ◌≡◌, List, map, false, drop}
use native.Mathlib.Omega.{arith}
use Rattle.std.proofs.Math.Logic.{by_cases}
use Rattle.std.proofs.Common.{sym, ap₂, ◌∙◌}
use Rattle.std.proofs.Math.Path.{ap, subst}
use Rattle.std.proofs.Math.ListN.{get_or, take}
use Rattle.lists.specs.Counting.{sum_same}
use Rattle.lists.specs.Stores.{part_same}
use Rattle.rules.specs.declared.Sizes.{Sizes}
use Rattle.rules.specs.Regions.{thread_of, regions}
use Rattle.rules.specs.Rules.{counted, Regioned, graph}
use Rattle.rules.specs.NeverFreeing.{NeverFreeing, no_object}
use Rattle.laws.specs.GraphLaws.{Alive}
use Rattle.laws.specs.RulesLaws.{Sound}
use Rattle.laws.specs.SameRules.{renamed}
use Rattle.layout.specs.declared.Kind.{Kind}
use Rattle.layout.specs.declared.Kind.TheVariants.{Reference}
use Rattle.layout.specs.Places.{cells_words, var_count, depth_at, var_at}
use Rattle.layout.specs.Cells.{field_at, room_for, all_fields, refs_of, Formed, field_count, first_field, fields-room, kind-among, page_of, cell_named}
use Rattle.layout.specs.Objects.{begins?, begins-page, begins-true, begins-false, unused-back}
use Rattle.layout.specs.Words.{Words, BeginsIn, head_in, owner_in, home_in, home_at, depths_in, depths_at, vars_in, vars_at, counters_in, pages_in, fields_in, fields_at, refs_in, nums_in}
use Rattle.remember.specs.Crossing.{cross_to}
use Rattle.promises.specs.Whole.{Open, IsRef, Sized, DepthsWhole, PagesWhole, VariablesWhole, ObjectWhole, ObjectsWhole, MarksWhole, WorksWhole, RememberWhole, UnusedWhole, CountersWhole, WholeFor}
use Rattle.promises.specs.Regular.{Regular, whole-regular, SamePage, pages-alike, filled-same, regular-same}
use Rattle.promises.specs.StandsFor.{StandsFor}
use Rattle.promises.specs.Areas.{Area, size_words, depth_words, variable_words, owner_words, used_words, mark_words, count_words, made_words, freed_words, head_words, work_words, field_words, unused_words, entry_words, among, Only}
use Rattle.remember.specs.Entries.{Exact, exact-everywhere}
use Rattle.promises.specs.Slots.{begins-kept, begins-were, cross-alike}

module _ {cs : List Area} {s : Sizes} {w w' : Words} (o : Only cs s w w') where
  -- ---- what is read

  module _ (u : among used_words cs ≡ false) (h : among head_words cs ≡ false) where
    pub begins-frame : (k : ℕ) → BeginsIn s w k → BeginsIn s w' k
    begins-frame = begins-kept s w.cells w.tables w'.cells w'.tables (o.same used_words u) (o.same head_words h)

    pub begins-was : (k : ℕ) → BeginsIn s w' k → BeginsIn s w k
    begins-was = begins-were s w.cells w.tables w'.cells w'.tables (o.same used_words u) (o.same head_words h)

    pub ref-frame : (x : ℕ) → IsRef s w.cells w.tables x → IsRef s w'.cells w'.tables x
    ref-frame x r z = begins-frame (cell_named x) (r z)

  pub home_same : among owner_words cs ≡ false → among used_words cs ≡ false → among head_words cs ≡ false → (k : ℕ) → home_in s w' k ≡ home_in s w k
  unfolding home_at
  home_same a u h k =
      by_cases (begins? s w.cells w.tables k)
      (λ b. rw (begins-true s w'.cells w'.tables k (begins-frame u h k b), begins-true s w.cells w.tables k b) (o.same owner_words a (page_of k) (begins-page s w.cells w.tables k b)))
      (λ n. rw (begins-false s w'.cells w'.tables k (λ b. n (begins-was u h k b)), begins-false s w.cells w.tables k n))

  pub depths-same : among depth_words cs ≡ false → depths_in s w' ≡ depths_in s w
  unfolding depths_at
  depths-same n = part_same s.threads (depth_at 0) w.tables w'.tables o.beyond.tables.long (λ i l. o.same depth_words n i l)

  pub vars-same : among variable_words cs ≡ false → vars_in s w' ≡ vars_in s w
  unfolding vars_at
  vars-same n =
      part_same (var_count s) (var_at s 0) w.tables w'.tables o.beyond.tables.long
      (λ i l. subst (λ (j : ℕ). get_or w'.tables j 0 ≡ get_or w.tables j 0) (let e : var_at s i ≡ var_at s 0 + i = omega arith in e) (o.same variable_words n i l))

  same-pages : among owner_words cs ≡ false → among used_words cs ≡ false → (page : ℕ) → page < s.pages → SamePage s w.tables w'.tables page
  same-pages a u page l = record { owner = o.same owner_words a page l; used = o.same used_words u page l }

  pub occupancy-same : among owner_words cs ≡ false → among used_words cs ≡ false → pages_in s w' ≡ pages_in s w
  occupancy-same a u = pages-alike s w.tables w'.tables (same-pages a u)

  pub fields-same : among head_words cs ≡ false → among field_words cs ≡ false → (d : Kind) (k : ℕ) → BeginsIn s w k → Formed (head_in w k) → fields_in d w' k ≡ fields_in d w k
  unfolding fields_at
  fields-same h f d k u m =
      let at = first_field d (head_in w k) in
      ap (λ (z : ℕ). take (field_count d z) (drop (field_at k (first_field d z)) w'.cells)) (o.same head_words h k u)
      ∙ part_same (field_count d (head_in w k)) (field_at k at) w.cells w'.cells o.beyond.cells.long
      (λ i l. subst (λ (j : ℕ). get_or w'.cells j 0 ≡ get_or w.cells j 0) (let e : field_at k (at + i) ≡ field_at k at + i = omega arith in e)
      (o.same field_words f k u (at + i) (omega (arith, kind-among d (head_in w k), fields-room (head_in w k) m))))

  -- ---- the conditions

  pub sized-frame : among size_words cs ≡ false → Sized s w → Sized s w'
  sized-frame n k =
      let e = o.same size_words n in
      let b = o.beyond in
      record {
        sizes = e.0 ∙ k.sizes;
        range = k.range;
        same = e.1 ∙ k.same;
        cells = omega (arith, k.cells, b.cells.long);
        remember = omega (arith, k.remember, b.remember.long);
        tables = omega (arith, k.tables, b.tables.long);
      }

  pub depths-frame : among depth_words cs ≡ false → DepthsWhole s w → DepthsWhole s w'
  depths-frame n k t l = omega (arith, o.same depth_words n t l, k t l)

  pub regular-frame : among owner_words cs ≡ false → among used_words cs ≡ false → among count_words cs ≡ false → Regular s w.tables → Regular s w'.tables
  regular-frame a u n = regular-same (same-pages a u) (o.same count_words n)

  -- where each region of a page is open
  pub pages-open : among owner_words cs ≡ false → among used_words cs ≡ false → PagesWhole s w
      → ((page : ℕ) → page < s.pages → 1 < owner_in s w page → Open s w'.tables (owner_in s w page)) → PagesWhole s w'
  pages-open a u k open' page l =
      let e = same-pages a u page l in
      record {
        filled = filled-same e (k page l).filled;
        region = λ z. subst (Open s w'.tables) (sym e.owner) (open' page l (omega (arith, e.owner)));
      }

  pub open-frame : among depth_words cs ≡ false → (g : ℕ) → Open s w.tables g → Open s w'.tables g
  open-frame n g r = record { real = r.real; thread = r.thread; level = omega (arith, o.same depth_words n (thread_of s g) r.thread, r.level) }

  pub pages-frame : among owner_words cs ≡ false → among used_words cs ≡ false → among depth_words cs ≡ false → PagesWhole s w → PagesWhole s w'
  pages-frame a u n k = pages-open a u k (λ page l z. open-frame n (owner_in s w page) ((k page l).region z))

  pub variables-frame : among variable_words cs ≡ false → among used_words cs ≡ false → among head_words cs ≡ false → VariablesWhole s w → VariablesWhole s w'
  variables-frame n u h k i l = subst (IsRef s w'.cells w'.tables) (sym (o.same variable_words n i l)) (ref-frame u h _ (k i l))

  -- an object, where the references of w are references of w'
  pub object-frame : among head_words cs ≡ false → among field_words cs ≡ false → ((x : ℕ) → IsRef s w.cells w.tables x → IsRef s w'.cells w'.tables x)
      → (k : ℕ) → BeginsIn s w k → ObjectWhole s w.cells w.tables k → ObjectWhole s w'.cells w'.tables k
  object-frame h f still k i x =
      let e = o.same head_words h k i in
      record {
        head = subst Formed (sym e) x.head;
        rest = λ j l m. o.same field_words f k i j (subst (λ (z : ℕ). j < room_for z) e l) ∙ x.rest j (subst (λ (z : ℕ). j < room_for z) e l) (omega (arith, ap all_fields e));
        references = λ j l.
            let n : j < refs_of w.cells k = omega (arith, ap (field_count Reference) e) in
            subst (IsRef s w'.cells w'.tables) (sym (o.same field_words f k i j (omega (arith, fields-room (head_in w k) x.head, kind-among Reference (head_in w k))))) (still _ (x.references j n));
      }

  pub objects-frame : among head_words cs ≡ false → among field_words cs ≡ false → among used_words cs ≡ false → ObjectsWhole s w → ObjectsWhole s w'
  objects-frame h f u k c i = let v = begins-was u h c i in object-frame h f (ref-frame u h) c v (k c v)

  pub marks-frame : among mark_words cs ≡ false → MarksWhole s w → MarksWhole s w'
  marks-frame n k page l = o.same mark_words n page l ∙ k page l

  pub works-frame : among work_words cs ≡ false → among used_words cs ≡ false → among head_words cs ≡ false → WorksWhole s w → WorksWhole s w'
  works-frame n u h k c i = let v = begins-was u h c i in o.same work_words n c v ∙ k c v

  pub remember-frame : among entry_words cs ≡ false → among head_words cs ≡ false → among field_words cs ≡ false → among owner_words cs ≡ false → among used_words cs ≡ false
      → RememberWhole s w → RememberWhole s w'
  remember-frame n h f a u k =
      exact-everywhere (cross_to s w.cells w.tables) (cross_to s w'.cells w'.tables) (cells_words s) s.entries w'.remember (λ q l. cross q)
      (subst (Exact (cross_to s w.cells w.tables) (cells_words s) s.entries) (sym (o.same entry_words n)) k)
    where
      -- the same slots cross into the same regions
      cross : (q : ℕ) → cross_to s w'.cells w'.tables q ≡ cross_to s w.cells w.tables q
      cross q =
          cross-alike s w.cells w.tables w'.cells w'.tables (o.same used_words u) (o.same head_words h) (o.same owner_words a) q
          (λ x. subst (λ (j : ℕ). get_or w'.cells j 0 ≡ get_or w.cells j 0) x.at (o.same field_words f x.object x.begins x.field x.room))

  pub unused-frame : among unused_words cs ≡ false → among used_words cs ≡ false → UnusedWhole s w → UnusedWhole s w'
  unused-frame n u k q x = let v = unused-back (o.same used_words u) q x in o.same unused_words n q v ∙ k q v

  pub counters-same : among made_words cs ≡ false → among freed_words cs ≡ false → counters_in s w' ≡ counters_in s w
  counters-same m f = ap₂ (λ (x y : ℕ). record { made = x; freed = y }) (o.same made_words m) (o.same freed_words f)

  pub counters-frame : among count_words cs ≡ false → among made_words cs ≡ false → among freed_words cs ≡ false → CountersWhole s w → CountersWhole s w'
  counters-frame n m f k =
      ap₂ (λ (x y : ℕ). counted (x + y)) (sum_same _ _ (regions s) (λ i l. o.same count_words n (suc i) (omega arith) (omega arith))) (o.same freed_words f) ∙ k ∙ sym (o.same made_words m)

  -- all of them, where sizes, pages, counts, counters, heads, working words and cells not in use are the same
  pub still-whole : among size_words cs ≡ false → among owner_words cs ≡ false → among used_words cs ≡ false → among mark_words cs ≡ false → among count_words cs ≡ false
      → among made_words cs ≡ false → among freed_words cs ≡ false → among head_words cs ≡ false → among work_words cs ≡ false → among unused_words cs ≡ false → WholeFor s w → DepthsWhole s w' → PagesWhole s w' → VariablesWhole s w' → ObjectsWhole s w' → RememberWhole s w' → WholeFor s w'
  still-whole z a u m n i j h x y k depths pages variables objects remember =
      let r = regular-frame a u n (whole-regular k) in
      record {
        sized = sized-frame z k.sized;
        depths = depths;
        pages = pages;
        partial = r.partial;
        counts = r.counts;
        variables = variables;
        objects = objects;
        marks = marks-frame m k.marks;
        works = works-frame x u h k.works;
        remember = remember;
        unused = unused-frame y u k.unused;
        counters = counters-frame n i j k.counters;
      }

-- ---- where objects keep their homes, the words stand for a heap with other depths, variables and fields

pub stands-still : {s : Sizes} {w w' : Words} {h : Regioned} {to : ℕ → ℕ} → StandsFor s w h to → ((k : ℕ) → home_in s w' k ≡ home_in s w k) → (h' : NeverFreeing) → WholeFor s w' → h'.depths ≡ depths_in s w'
    → ((x : ℕ) → Alive (graph h) x → refs_in w' (to x) ≡ map (renamed to) (get_or h'.objects x no_object).refs) → vars_in s w' ≡ map (renamed to) h'.vars
    → ((x : ℕ) → Alive (graph h) x → (get_or h'.objects x no_object).nums ≡ nums_in w' (to x)) → counters_in s w' ≡ counters_in s w → pages_in s w' ≡ pages_in s w
    → Sound (record { heap = h'; homes = h.homes; counters = h.counters; occupancy = h.occupancy }) → StandsFor s w' (record { heap = h'; homes = h.homes; counters = h.counters; occupancy = h.occupancy }) to
stands-still {to = to} st home h' k d r v n c p sound =
    record {
      whole = k;
      sound = sound;
      depths = d;
      partners = record {
        home = λ x a. home (to x) ∙ st.partners.home x a;
        apart = st.partners.apart;
        onto = λ y a. st.partners.onto y (λ z. a (home y ∙ z));
        refs = r;
        vars = v;
      };
      nums = n;
      counters = st.counters ∙ sym c;
      occupies = record { cells = st.occupies.cells; pages = st.occupies.pages ∙ sym p };
    }

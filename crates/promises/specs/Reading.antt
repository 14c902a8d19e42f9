-- What is read from whole words: objects, their fields, variables and depths; and that every reference names an object.
use Rattle.std.specs.Prelude.{ℕ, suc, ◌+◌, ◌*◌, ◌^◌, ◌≤◌, ◌<◌, ◌≡◌, Bool, List, length, get_or, drop}
use native.Mathlib.Omega.{arith}
use Rattle.std.proofs.Math.Logic.{by_cases}
use Rattle.std.proofs.Common.{sym, subst, ◌∙◌, get_or-take, get_or-drop}
use Rattle.std.proofs.Math.Path.{ap}
use Rattle.std.proofs.Math.Bool.{cond}
use Rattle.std.proofs.Math.ListN.{length-drop}
use Rattle.std.proofs.Math.Seq.{length-take-le}
use Rattle.lists.specs.Members.{In, in_place, in_bounds}
use Rattle.lists.specs.Products.{flat-low}
use Rattle.rules.specs.declared.Sizes.{Sizes}
use Rattle.laws.specs.GraphLaws.{Alive, Closed}
use Rattle.layout.specs.declared.Kind.{Kind}
use Rattle.layout.specs.declared.Kind.TheVariants.{Reference}
use Rattle.layout.specs.Places.{Room, room, depth_at, var_at, var_of, tables_words, count_room, count-is, owners_from, var_count}
use Rattle.layout.specs.Cells.{field_at, field_of, field_count, first_field, kind_at, most_fields, room_for, kind-among, first-reference, fields-room, page_of, CellIn, cell_named}
use Rattle.layout.specs.Cells as ly
use Rattle.layout.specs.Words.{Words, depth_in, var_in, owner_in, depths_in, vars_in, head_in, ref_count, fields_in, refs_in, home_in, graph_of, depths_at, home_at, fields_at, vars_at, Begins, BeginsIn}
use Rattle.layout.specs.Objects.{cell_count, begins-used, begins-low, begins-true, begins-false, fields-inside, begins?}
use Rattle.promises.specs.Whole.{Sized, WholeFor, IsRef}

pub get_d-fields : (d : Kind) (w : Words) (c i : ℕ) → i < field_count d (head_in w c) → get_or (fields_in d w c) i 0 ≡ get_or w.cells (kind_at d w.cells c i) 0
unfolding fields_at
get_d-fields d w c i l =
    let at = field_at c (first_field d (head_in w c)) in
    get_or-take (field_count d (head_in w c)) (drop at w.cells) i 0 l ∙ get_or-drop at w.cells i 0
    ∙ ap (λ (n : ℕ). get_or w.cells n 0) (let e : at + i ≡ kind_at d w.cells c i = omega arith in e)

-- references are the first fields
pub get_d-refs : (w : Words) (c i : ℕ) → i < ref_count w c → get_or (refs_in w c) i 0 ≡ field_of w.cells c i
get_d-refs w c i l = get_d-fields Reference w c i l ∙ ap (field_of w.cells c) (let e : first_field Reference (head_in w c) + i ≡ i = omega (arith, first-reference (head_in w c)) in e)

pub get_d-vars : (s : Sizes) (w : Words) (i : ℕ) → i < var_count s → get_or (vars_in s w) i 0 ≡ var_of s w.tables i
unfolding vars_at
get_d-vars s w i l =
    get_or-take (var_count s) (drop (var_at s 0) w.tables) i 0 l ∙ get_or-drop (var_at s 0) w.tables i 0
    ∙ ap (λ (n : ℕ). get_or w.tables n 0) (let e : var_at s 0 + i ≡ var_at s i = omega arith in e)

pub var-at : (s : Sizes) (w : Words) (t a : ℕ) → t < s.threads → a < s.variables → get_or (vars_in s w) (t * s.variables + a) 0 ≡ var_in s w t a
var-at s w t a l m = get_d-vars s w (t * s.variables + a) (flat-low l m)

pub depth-at : (s : Sizes) (w : Words) (t : ℕ) → t < s.threads → get_or (depths_in s w) t 0 ≡ depth_in w t
unfolding depths_at
depth-at s w t l = get_or-take s.threads (drop (depth_at 0) w.tables) t 0 l ∙ get_or-drop (depth_at 0) w.tables t 0

-- ---- the home of a cell

module _ (s : Sizes) (w : Words) where
  pub used-home : (c : ℕ) → BeginsIn s w c → home_in s w c ≡ owner_in s w (page_of c)
  unfolding home_at
  used-home c u = ap (λ (b : Bool). cond b (owner_in s w (page_of c)) 0) (begins-true s w.cells w.tables c u)

  pub no-home : (c : ℕ) → (BeginsIn s w c → ⊥) → home_in s w c ≡ 0
  unfolding home_at
  no-home c n = ap (λ (b : Bool). cond b (owner_in s w (page_of c)) 0) (begins-false s w.cells w.tables c n)

  pub alive-used : (c : ℕ) → Alive (graph_of s w) c → BeginsIn s w c
  alive-used c a = by_cases (begins? s w.cells w.tables c) (λ u. u) (λ n. absurd (a (no-home c n)))

-- ---- whole words

-- the five sizes and the number of entries used can be read
pub sizes-there : {s : Sizes} {w : Words} → Sized s w → 5 ≤ length w.tables
unfolding tables_words
sizes-there k = omega (arith, k.tables)

pub entries-there : {s : Sizes} {w : Words} → Sized s w → 2 ≤ length w.remember
entries-there k = omega (arith, k.remember)

-- a reference that is not null names an object
pub ref-begins : (s : Sizes) (W T : List ℕ) (x c : ℕ) → IsRef s W T x → x ≡ suc c → Begins s W T c
ref-begins s W T x c r e = subst (Begins s W T) (let z : cell_named x ≡ c = omega arith in z) (r (omega arith))

module _ (s : Sizes) (w : Words) (k : WholeFor s w) where
  pub used-owned : (c : ℕ) → BeginsIn s w c → owner_in s w (page_of c) ≡ 0 → ⊥
  used-owned c u z = let i = begins-used s w.cells w.tables c u in omega (arith, (k.pages (page_of c) i.page).filled.free z, i.place)

  pub used-alive : (c : ℕ) → BeginsIn s w c → Alive (graph_of s w) c
  used-alive c u z = used-owned c u (sym (used-home s w c u) ∙ z)

  pub cell-low : (c : ℕ) → BeginsIn s w c → c < cell_count s
  cell-low = begins-low s w.cells w.tables

  pub length_fields : (d : Kind) (c : ℕ) → BeginsIn s w c → length (fields_in d w c) ≡ field_count d (head_in w c)
  unfolding fields_at
  length_fields d c u =
      length-take-le (field_count d (head_in w c)) (drop (field_at c (first_field d (head_in w c))) w.cells)
      (simp length-drop (omega (arith, fields-inside s w.cells w.tables c u (first_field d (head_in w c) + field_count d (head_in w c)) (omega (arith, kind-among d (head_in w c), fields-room (head_in w c) (k.objects c u).head)), k.sized.cells)))

  pub length-refs : (c : ℕ) → BeginsIn s w c → length (refs_in w c) ≡ ref_count w c
  length-refs = length_fields Reference

  pub vars-room : var_at s (var_count s) ≤ owners_from s
  unfolding owners_from
  vars-room = omega arith

  pub length-vars : length (vars_in s w) ≡ var_count s
  unfolding vars_at
  length-vars =
      length-take-le (var_count s) (drop (var_at s 0) w.tables)
      (simp length-drop (omega (arith, k.sized.tables, count_room s, count-is s, vars-room)))

  pub length-depths : length (depths_in s w) ≡ s.threads
  unfolding depths_at
  length-depths =
      length-take-le s.threads (drop (depth_at 0) w.tables)
      (simp length-drop (omega (arith, k.sized.tables, count_room s, count-is s, vars-room)))

  vars-alive : (i x : ℕ) → get_or (vars_in s w) i 0 ≡ suc x → Alive (graph_of s w) x
  vars-alive i x e =
      let l : i < var_count s = omega (arith, in_bounds (vars_in s w) i (λ z. omega arith), length-vars) in
      used-alive x (ref-begins s w.cells w.tables (var_of s w.tables i) x (k.variables i l) (sym (get_d-vars s w i l) ∙ e))

  refs-alive : (c y : ℕ) → Alive (graph_of s w) c → In (suc y) (refs_in w c) → Alive (graph_of s w) y
  refs-alive c y a i =
      let u = alive-used s w c a in
      let r = in_place (refs_in w c) (suc y) i in
      let l : r.0 < ref_count w c = omega (arith, r.1, length-refs c u) in
      used-alive y (ref-begins s w.cells w.tables (field_of w.cells c r.0) y ((k.objects c u).references r.0 l) (sym (get_d-refs w c r.0 l) ∙ r.2))

  pub words-closed : Closed (graph_of s w)
  words-closed =
      record { below = λ c a. cell-low c (alive-used s w c a); vars = vars-alive; refs = refs-alive }

  pub refs-few : (c : ℕ) → BeginsIn s w c → ref_count w c ≤ most_fields
  refs-few c u = omega (arith, (k.objects c u).head, kind-among Reference (head_in w c))

  pub refs-room : (c : ℕ) → BeginsIn s w c → ref_count w c ≤ room_for (head_in w c)
  refs-room c u = omega (arith, kind-among Reference (head_in w c), fields-room (head_in w c) (k.objects c u).head)

  pub ref-room : (c f : ℕ) → BeginsIn s w c → f < ref_count w c → f < room_for (head_in w c)
  ref-room c f u l = omega (arith, refs-room c u)

-- the tables have room for their arrays
pub whole_room : (s : Sizes) (w : Words) → WholeFor s w → length w.tables < 2 ^ 63 → Room s (length w.tables)
whole_room s w k fits = room s (length w.tables) k.sized.range k.sized.tables fits

-- the cells have room for those of every page
pub cell_in : (s : Sizes) (w : Words) → WholeFor s w → (c : ℕ) → page_of c < s.pages → CellIn c (length w.cells)
cell_in s w k c l = ly.cell_in s k.sized.range.pages-high k.sized.cells l

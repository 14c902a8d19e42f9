-- Words that stand for a heap are the words of that heap: all of them.
use Rattle.std.specs.Prelude.{ℕ, suc, ◌+◌, ◌-◌, ◌*◌, ◌≤◌, ◌<◌, ◌≡◌, length, replicate}
use native.Mathlib.Omega.{arith}
use Rattle.std.proofs.Math.Path.{refl, sym, ap, ap₂}
use Rattle.std.proofs.Common.{◌∙◌, take-append-drop}
use mathlib.Core.List.{List, [], ◌∷◌, ◌++◌, map}
use Rattle.std.proofs.Math.ListN.{get_or, take, drop}
use Rattle.lists.specs.Members.{in_place}
use Rattle.lists.specs.Listed.{listed, listed_same, listed-all, map-listed}
use Rattle.lists.specs.Parts.{part-more, part-listed}
use Rattle.rules.specs.declared.Sizes.{Sizes}
use Rattle.rules.specs.Regions.{regions}
use Rattle.rules.specs.Graph.{objects_in}
use Rattle.rules.specs.Pages.{Page}
use Rattle.rules.specs.Rules.{Counters, Regioned, graph}
use Rattle.layout.specs.Places.{cells_words, remember_words, tables_words, var_at, vars_from, owners_from, used_from, marks_from, counts_from, made_at, count_room, count-is, mark-is, used-is, owners-is}
use Rattle.remember.specs.Crossing.{cross_to}
use Rattle.remember.specs.Entries.{Exact, exact-everywhere}
use Rattle.remember.specs.Table.{entries_in}
use Rattle.remember.specs.ExactTable.{exact-named, exact-table}
use Rattle.layout.specs.Words.{Words, depths_at, vars_at, page_in, pages_at, heap_of}
use Rattle.promises.specs.Whole.{WholeFor}
use Rattle.promises.specs.StandsFor.{StandsFor, SameFrom, SameBeyond}
use Rattle.promises.specs.Regular.{whole-regular}
use Rattle.promises.proofs.OwnedPages.{objects-on}
use Rattle.promises.specs.Agreed.{objects-agree, heap-stands}
use Rattle.promises.specs.Areas.{same-beyond}
use Rattle.promises.specs.WordsOf.{ref_word, cell_word, crossed_at, entries_of, heap_words, laid}
use Rattle.promises.proofs.LaidCells.{ref-words, cell-is, crossed-is}

module _ (s : Sizes) (w : Words) (h : Regioned) (to : ℕ → ℕ) (st : StandsFor s w h to) where
  abbrev t : List ℕ
  t = w.tables

  cells_are : take (cells_words s) w.cells ≡ (heap_words s h).cells
  unfolding heap_words
  cells_are =
      part-listed (cells_words s) 0 w.cells (omega (arith, st.whole.sized.cells))
      ∙ listed_same _ (cell_word h) (cells_words s)
      (λ q l. ap (λ (i : ℕ). get_or w.cells i 0) (let e : 0 + q ≡ q = omega arith in e) ∙ sym (cell-is s w h to st q l))

  -- ---- the tables, array by array

  long : made_at s + 2 ≤ length t
  long = omega (arith, count_room s, st.whole.sized.tables)

  sizes-are : take 5 (drop 0 t) ≡ s.threads ∷ s.variables ∷ s.depth ∷ s.pages ∷ s.entries ∷ []
  unfolding listed
  sizes-are =
      part-listed 5 0 t (omega (arith, long, count_room s, count-is s, owners-is s))
      ∙ ap (λ (z : Sizes). z.threads ∷ z.variables ∷ z.depth ∷ z.pages ∷ z.entries ∷ []) st.whole.sized.sizes

  depths-are : take s.threads (drop 5 t) ≡ h.heap.depths
  unfolding depths_at
  depths-are = sym st.depths

  vars-are : take (s.threads * s.variables) (drop (vars_from s) t) ≡ map (ref_word h) h.heap.vars
  unfolding vars_at
  vars-are =
      ap (λ (n : ℕ). take (s.threads * s.variables) (drop n t)) (let e : vars_from s ≡ var_at s 0 = omega arith in e) ∙ st.partners.vars
      ∙ sym (ref-words s w h to st h.heap.vars (λ y i. let j = in_place h.heap.vars (suc y) i in st.sound.closed.vars j.0 y j.2))

  module _ (f : Page → ℕ) (b : ℕ) (room : b + s.pages ≤ length t) (at : (i : ℕ) → i < s.pages → f (page_in s t i) ≡ get_or t (b + i) 0) where
    pages-are : take s.pages (drop b t) ≡ map f h.occupancy.pages
    unfolding pages_at
    pages-are =
        part-listed s.pages b t room ∙ listed_same _ _ s.pages (λ i l. sym (at i l)) ∙ sym (map-listed f (page_in s t) s.pages) ∙ ap (map f) (sym st.occupies.pages)

  owners-are : take s.pages (drop (owners_from s) t) ≡ map (λ p. p.owner) h.occupancy.pages
  owners-are = pages-are (λ p. p.owner) (owners_from s) (omega (arith, long, count_room s, count-is s)) (λ i l. refl)

  used-are : take s.pages (drop (used_from s) t) ≡ map (λ p. p.used) h.occupancy.pages
  used-are = pages-are (λ p. p.used) (used_from s) (omega (arith, long, count_room s, count-is s, used-is s)) (λ i l. refl)

  marks-are : take s.pages (drop (marks_from s) t) ≡ replicate s.pages 0
  marks-are =
      part-listed s.pages (marks_from s) t (omega (arith, long, count_room s, count-is s, mark-is s))
      ∙ listed_same _ (λ i. 0) s.pages (λ i l. st.whole.marks i l) ∙ listed-all s.pages 0

  counts-are : take (regions s) (drop (counts_from s) t) ≡ listed (λ i. objects_in (graph h) (suc i)) (regions s)
  counts-are =
      part-listed (regions s) (counts_from s) t (omega (arith, long, count_room s))
      ∙ listed_same _ _ (regions s)
      (λ i l.
      ap (λ (n : ℕ). get_or t (counts_from s + n) 0) (let e : i ≡ suc i - 1 = omega arith in e) ∙ st.whole.counts (suc i) (omega arith) (omega arith)
      ∙ sym (objects-agree s w h to st (suc i) (omega arith) ∙ objects-on s w (whole-regular st.whole) (suc i) (omega arith)))

  counters-are : take 2 (drop (made_at s) t) ≡ h.counters.made ∷ h.counters.freed ∷ []
  unfolding listed
  counters-are =
      part-listed 2 (made_at s) t long
      ∙ ap₂ (λ (x y : ℕ). x ∷ y ∷ []) (ap (λ (n : ℕ). get_or t n 0) (let e : made_at s + 0 ≡ made_at s = omega arith in e)) refl
      ∙ sym (ap (λ (k : Counters). k.made ∷ k.freed ∷ []) st.counters)

  -- an array of a words from b on, and then m words more
  then : (a m b : ℕ) {x y : List ℕ} → take a (drop b t) ≡ x → take m (drop (b + a) t) ≡ y → take (a + m) (drop b t) ≡ x ++ y
  then a m b p q = part-more a m b t ∙ ap₂ ◌++◌ p q

  tables-are : take (tables_words s) t ≡ (heap_words s h).tables
  unfolding heap_words made_at counts_from marks_from used_from owners_from
  tables-are =
      let n₆ = regions s + 2 in
      let n₅ = s.pages + n₆ in
      let n₄ = s.pages + n₅ in
      let n₃ = s.pages + n₄ in
      let n₂ = s.threads * s.variables + n₃ in
      let n₁ = s.threads + n₂ in
      ap (λ (n : ℕ). take n t) (let e : tables_words s ≡ 5 + n₁ = omega (arith, count_room s) in e)
      ∙ then 5 n₁ 0 sizes-are (then s.threads n₂ 5 depths-are (then (s.threads * s.variables) n₃ (vars_from s) vars-are
      (then s.pages n₄ (owners_from s) owners-are (then s.pages n₅ (used_from s) used-are (then s.pages n₆ (marks_from s) marks-are
      (then (regions s) 2 (counts_from s) counts-are counters-are))))))

  -- ---- the remember table

  exact : Exact (crossed_at h) (cells_words s) s.entries w.remember
  exact = exact-everywhere (cross_to s w.cells t) (crossed_at h) (cells_words s) s.entries w.remember (crossed-is s w h to st) st.whole.remember

  remember-is : take (remember_words s) w.remember ≡ (heap_words s h).remember
  unfolding heap_words
  remember-is = exact-table exact st.whole.sized.same st.whole.sized.remember

  pub entries-are : entries_in s.entries w.remember ≡ entries_of s h
  entries-are = exact-named exact

  -- THE WORDS ARE THOSE OF THE HEAP, and past them what stood there
  pub stands-laid : (w₀ : Words) → SameBeyond s w₀ w → w ≡ laid s h w₀
  unfolding laid
  stands-laid w₀ b = λ i. record { cells = both cells_are b.cells i; remember = both remember-is b.remember i; tables = both tables-are b.tables i }
    where
      both : {n : ℕ} {l k x : List ℕ} → take n k ≡ x → SameFrom n l k → k ≡ x ++ drop n l
      both {n} {l} {k} e f = sym (take-append-drop n k) ∙ ap₂ ◌++◌ e f.rest

-- WHOLE WORDS ARE THOSE OF THE HEAP THAT THEY MAKE
pub whole-laid : (s : Sizes) (w : Words) → WholeFor s w → w ≡ laid s (heap_of s w) w
whole-laid s w k = stands-laid s w (heap_of s w) (λ c. c) (heap-stands s w k) w (same-beyond s w)

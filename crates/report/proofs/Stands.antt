-- The tables say what the rules say of every heap that words with these tables stand for.
use Rattle.std.specs.Prelude.{◌≡◌, ℕ, suc, ◌+◌, ◌<◌, ◌≤◌, List, map, length, slice_index}
use Rattle.std.proofs.Common.{arith, subst, subst₂, ◌∙◌}
use Rattle.std.proofs.Math.Decide.{dec_lt}
use Rattle.std.proofs.Math.Path.{sym, ap}
use Rattle.std.proofs.lemmas.List.{length-map}
use Rattle.lists.specs.Counting.{sum, sum_same, sum_more, sum-high}
use Rattle.rules.specs.Regions.{region_at, regions}
use Rattle.rules.specs.Graph.{objects_in, free_pages}
use Rattle.rules.specs.Rules.{Counters, Leaves, Regioned, graph}
use Rattle.rules.specs.declared.Sizes.{Sizes}
use Rattle.layout.specs.Places.{depth_of, made_of, freed_of}
use Rattle.layout.specs.Words.{words, depths_at}
use Rattle.promises.specs.StandsFor.{StandsFor}
use Rattle.promises.specs.Reading.{depth-at}
use Rattle.promises.specs.Agreed.{objects-agree}
use Rattle.promises.proofs.OwnedPages.{counted-objects, heap-free}
use Rattle.report.specs.Report.{is_open, open_regions, row_with, rows, total_of}
use Rattle.report.specs.Passing.{map-passing}
use Rattle.report.specs.Opened.{Turn, rows-counted, turn_level}
use Rattle.report.specs.Tables.{WholeTables, row_in, rows_in, free_in}
use Rattle.report.proofs.Totals.{total_left}

module _ (p : Sizes) (t : List ℕ) (k : WholeTables p t) where
  abbrev depths : List ℕ
  depths = depths_at p t

  depth_is : (i : ℕ) → i < p.threads → slice_index depths i ≡ depth_of t i
  depth_is i l = depth-at p (words k.cells k.remember t) i l

  deep : (i : ℕ) → i < p.threads → slice_index depths i ≤ p.depth
  deep i l = omega (arith, depth_is i l, k.whole.depths i l)

  some-depth : 1 ≤ p.depth
  some-depth = k.whole.sized.range.depth_low

  depths-sum : (n : ℕ) → n ≤ p.threads → sum (λ i. slice_index depths i) n ≡ sum (depth_of t) n
  depths-sum n l = sum_same (λ i. slice_index depths i) (depth_of t) n (λ i h. depth_is i (omega arith))

  -- as many rows as the depths say
  pub row-count : 1 + sum (depth_of t) p.threads ≡ length (rows_in p t)
  unfolding rows_in
  row-count =
      sym (length-map (open_regions p depths) (row_in p t) ∙ rows-counted p depths some-depth deep
      ∙ ap (λ (n : ℕ). 1 + n) (depths-sum p.threads (omega arith)))

  -- at most one for the control space and 8 for each of 16 threads
  pub rows_few : length (rows_in p t) ≤ 129
  rows_few =
      let r = k.whole.sized.range in
      omega (arith, row-count, r.threads-high, sum-high (depth_of t) 8 p.threads (λ i l. omega (arith, k.whole.depths i l, r.depth-high)))

  -- a thread whose levels do not reach row k is not the last
  pub not_last : (n l : ℕ) → n < p.threads → depth_of t n < l → sum (depth_of t) n + l < length (rows_in p t) → n + 1 < p.threads
  not_last n l h m few = go (dec_lt (n + 1) p.threads)
    where
      go : Dec (n + 1 < p.threads) → n + 1 < p.threads
      go (yes y) = y
      go (no y) =
          let e : n + 1 ≡ p.threads = omega arith in
          absurd (let z : ⊥ = omega (arith, row-count, ap (sum (depth_of t)) e, sum_more (depth_of t) n) in z)

  -- level l of thread n, while open, is the open region after so many
  pub turn_at : (n l : ℕ) → n < p.threads → 1 ≤ l → l ≤ depth_of t n → Turn p depths (sum (depth_of t) n + l) (region_at p n l)
  turn_at n l h low m =
      subst (λ (i : ℕ). Turn p depths (i + l) (region_at p n l)) (depths-sum n (omega arith))
      (turn_level p depths some-depth deep n l h low (omega (arith, depth_is n h)))

module _ (p : Sizes) (t : List ℕ) (c m : List ℕ) (h : Regioned) (cell_of : ℕ → ℕ) (st : StandsFor p (words c m t) h cell_of) where
  pub rows-stand : rows_in p t ≡ rows p h
  unfolding rows_in row_in rows open_regions
  rows-stand =
      let s = p in
      map-passing (is_open s (depths_at s t)) (row_in p t) (λ q. row_with s q (objects_in (graph h) q)) (regions s) (λ i l. row (suc i) (omega arith) (omega arith))
      ∙ ap (λ (d : List ℕ). map (λ q. row_with s q (objects_in (graph h) q)) (open_regions s d)) (sym st.depths)
    where
      row : (q : ℕ) → 0 < q → q < suc (regions p) → row_in p t q ≡ row_with p q (objects_in (graph h) q)
      row q pos l =
          ap (row_with p q) (counted-objects p (words c m t) st.whole q pos (omega arith)
          ∙ sym (objects-agree p (words c m t) h cell_of st q pos))

  pub free-stands : free_in p t ≡ free_pages p (graph h)
  free-stands = heap-free p (words c m t) h cell_of st

  pub made-stands : made_of p t ≡ h.counters.made
  made-stands = sym (ap (λ (k : Counters). k.made) st.counters)

  pub freed-stands : freed_of p t ≡ h.counters.freed
  freed-stands = sym (ap (λ (k : Counters). k.freed) st.counters)

  pub total-stands : total_of (rows_in p t) ≡ total_of (rows p h)
  total-stands = ap total_of rows-stand

  -- the total is made less freed
  pub total-leaves : Leaves h.counters (total_of (rows p h))
  total-leaves = subst₂ Leaves (sym st.counters) total-stands (total_left p t (record { cells = c; remember = m; whole = st.whole }))

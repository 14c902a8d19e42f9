-- A report said of the heap that the words make is right of every heap that they stand for; and it says all of the result and of the rows left.
use Rattle.std.specs.Prelude.{◌≡◌, ℕ, zero, suc, ◌+◌, List, ◌++◌, length, take, drop, refl}
use Rattle.std.proofs.Common.{arith, sym, ap, ◌∙◌, take_at}
use Rattle.rules.specs.declared.Sizes.{Sizes}
use Rattle.rules.specs.Graph.{crossing, free_pages}
use Rattle.rules.specs.Rules.{Counters, counted, Regioned, graph}
use Rattle.layout.specs.Words.{Words, sizes_in, made_in, freed_in, heap_of}
use Rattle.promises.specs.Whole.{WholeWords}
use Rattle.promises.specs.Slices.{Slices}
use Rattle.promises.specs.StandsFor.{StandsFor}
use Rattle.promises.specs.Agreed.{heap-stands, heap_of-stands}
use Rattle.promises.specs.Crossings.{heap-entries}
use Rattle.report.specs.declared.Row.{Row}
use Rattle.report.specs.declared.Reported.{Reported}
use Rattle.report.specs.Report.{rows, ReportAsked, not_whole, other_chains, short, accepted, result_of, left_of, total_of, Told}
use Rattle.report.proofs.Stands.{rows-stand, free-stands, total-leaves}
use Rattle.report.proofs.LentRows.{reporting-same}
use Rattle.report.specs.Told.{Reports}

module _ (w : Words) (h : Regioned) (cell_of : ℕ → ℕ) (st : StandsFor (sizes_in w) w h cell_of) where
  stands_here : StandsFor (sizes_in w) w (heap_of (sizes_in w) w) (λ x. x)
  stands_here = heap-stands (sizes_in w) w st.whole

  same_rows : rows (sizes_in w) (heap_of (sizes_in w) w) ≡ rows (sizes_in w) h
  same_rows =
      sym (rows-stand (sizes_in w) w.tables w.cells w.remember (heap_of (sizes_in w) w) (λ x. x) stands_here)
      ∙ rows-stand (sizes_in w) w.tables w.cells w.remember h cell_of st

  same-free : free_pages (sizes_in w) (graph (heap_of (sizes_in w) w)) ≡ free_pages (sizes_in w) (graph h)
  same-free =
      sym (free-stands (sizes_in w) w.tables w.cells w.remember (heap_of (sizes_in w) w) (λ x. x) stands_here)
      ∙ free-stands (sizes_in w) w.tables w.cells w.remember h cell_of st

  same-crossing : crossing (graph (heap_of (sizes_in w) w)) ≡ crossing (graph h)
  same-crossing = sym (heap-entries (sizes_in w) w (heap_of (sizes_in w) w) (λ x. x) stands_here) ∙ heap-entries (sizes_in w) w h cell_of st

  same-counters : (heap_of (sizes_in w) w).counters ≡ h.counters
  same-counters = stands_here.counters ∙ sym st.counters

  same-result : (q : ℕ) → result_of (sizes_in w) (heap_of (sizes_in w) w) q ≡ result_of (sizes_in w) h q
  same-result zero =
      reporting-same (ap length same_rows) same-free same-crossing (ap (λ (k : Counters). k.made) same-counters) (ap (λ (k : Counters). k.freed) same-counters) (ap total_of same_rows)
  same-result (suc q) = refl

  same_left : (lent : List Row) (q : ℕ) → left_of (sizes_in w) (heap_of (sizes_in w) w) lent q ≡ left_of (sizes_in w) h lent q
  same_left lent zero = ap (λ (l : List Row). l ++ drop (length l) lent) same_rows
  same_left lent (suc q) = refl

pub told-anywhere : (l : Slices) (h : Regioned) (cell_of : ℕ → ℕ) → StandsFor (sizes_in l.words) l.words h cell_of
    → {lent : List Row} {r : Reported} {left : List Row} → Told l lent r left
    → (r ≡ result_of (sizes_in l.words) h r.number) × (left ≡ left_of (sizes_in l.words) h lent r.number)
told-anywhere l h cell_of st {lent} {r} {left} t =
    (t.result ∙ same-result l.words h cell_of st r.number, t.rows_left ∙ same_left l.words h cell_of st lent r.number)

-- only one question is the first that says no
asked-once : {l : Slices} {room q q' : ℕ} → ReportAsked l room q → ReportAsked l room q' → q ≡ q'
asked-once (not_whole e n) (not_whole f m) = e ∙ sym f
asked-once (not_whole e n) (other_chains f k m) = absurd (n k)
asked-once (not_whole e n) (short f k m) = absurd (n k.words)
asked-once (not_whole e n) (accepted f k m) = absurd (n k.words)
asked-once (other_chains e k n) (not_whole f m) = absurd (m k)
asked-once (other_chains e k n) (other_chains f k' m) = e ∙ sym f
asked-once (other_chains e k n) (short f k' m) = absurd (n k'.chains)
asked-once (other_chains e k n) (accepted f k' m) = absurd (n k'.chains)
asked-once (short e k n) (not_whole f m) = absurd (m k.words)
asked-once (short e k n) (other_chains f k' m) = absurd (m k.chains)
asked-once (short e k n) (short f k' m) = e ∙ sym f
asked-once (short e k n) (accepted f k' m) = absurd (let z : ⊥ = omega arith in z)
asked-once (accepted e k n) (not_whole f m) = absurd (m k.words)
asked-once (accepted e k n) (other_chains f k' m) = absurd (m k.chains)
asked-once (accepted e k n) (short f k' m) = absurd (let z : ⊥ = omega arith in z)
asked-once (accepted e k n) (accepted f k' m) = e ∙ sym f

pub told-once : {l : Slices} {lent : List Row} {r r' : Reported} {left left' : List Row} → Told l lent r left → Told l lent r' left' → (r ≡ r') × (left ≡ left')
told-once {l} {lent} t u =
    let e = asked-once t.asked u.asked in
    let s = sizes_in l.words in
    let h = heap_of s l.words in
    (t.result ∙ ap (result_of s h) e ∙ sym u.result, t.rows_left ∙ ap (left_of s h lent) e ∙ sym u.rows_left)

asked-whole : {l : Slices} {room q : ℕ} → ReportAsked l room q → q ≡ 0 → WholeWords l.words
asked-whole (not_whole e n) z = absurd (let y : ⊥ = omega arith in y)
asked-whole (other_chains e k n) z = k
asked-whole (short e k n) z = k.words
asked-whole (accepted e k n) z = k.words

-- by the words
pub told-counted : (l : Slices) (lent : List Row) (r : Reported) (left : List Row) → Told l lent r left → r.number ≡ 0
    → Reports (made_in (sizes_in l.words) l.words) (freed_in (sizes_in l.words) l.words) r left
told-counted l lent r left t z = record {
  made = ap (λ (x : Reported). x.made) result ∙ ap (λ (k : Counters). k.made) st.counters;
  freed = ap (λ (x : Reported). x.freed) result ∙ ap (λ (k : Counters). k.freed) st.counters;
  total = ap (λ (x : Reported). x.total) result ∙ ap total_of (sym written-rows);
  leaves = ap (λ (x : Reported). counted (x.total + x.freed)) result ∙ total-leaves s w.tables w.cells w.remember h (λ c. c) st ∙ sym (ap (λ (x : Reported). x.made) result);
}
  where
    w : Words
    w = l.words

    s : Sizes
    s = sizes_in w

    h : Regioned
    h = heap_of s w

    st : StandsFor s w h (λ c. c)
    st = heap_of-stands w (asked-whole t.asked z)

    result : r ≡ result_of s h 0
    result = t.result ∙ ap (result_of s h) z

    written-rows : take r.rows left ≡ rows s h
    written-rows =
        ap (take r.rows) (t.rows_left ∙ ap (left_of s h lent) z) ∙ take_at (rows s h) (drop (length (rows s h)) lent) r.rows (sym (ap (λ (x : Reported). x.rows) result))

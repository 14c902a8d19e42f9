-- The rows in a lent list, and what the questions give.
use Rattle.std.specs.Prelude.{◌≡◌, ℕ, suc, ◌<◌, ◌≤◌, List, ◌++◌, length, take, drop}
use Rattle.std.proofs.Common.{arith, subst, ◌∙◌}
use Rattle.std.proofs.Math.Path.{refl, sym, ap}
use Rattle.std.proofs.Math.ListN.{length-map}
use Rattle.std.proofs.Math.Seq.{length-take-le}
use Rattle.std.proofs.lemmas.List.{append-nil, drop_all}
use Rattle.rules.specs.Graph.{crossing, free_pages}
use Rattle.rules.specs.Rules.{graph}
use Rattle.rules.specs.declared.Sizes.{Sizes}
use Rattle.layout.specs.Places.{sizes_at, entries_used, made_of, freed_of}
use Rattle.layout.specs.Words.{Words, sizes_in, heap_of}
use Rattle.chains.specs.Chains.{ChainsWhole}
use Rattle.promises.specs.Whole.{WholeWords}
use Rattle.promises.specs.Slices.{Slices, WholeSlices}
use Rattle.promises.proofs.WholeChains.{read-other}
use Rattle.promises.specs.Agreed.{heap_of-stands}
use Rattle.promises.specs.Crossings.{heap-entries}
use Rattle.report.specs.declared.Row.{Row}
use Rattle.report.specs.Report.{rows, row_count, ReportAsked, not_whole, other_chains, short, accepted, Told, refusing, result_of, left_of, total_of}
use Rattle.report.specs.Tables.{WholeTables, row_in, open_in, rows_in, whole-tables, free_in}
use Rattle.report.proofs.Stands.{rows-stand, free-stands, made-stands, freed-stands, total-stands}
use Rattle.report.specs.declared.Reported.{Reported}
use Rattle.report.specs.Lent.{Asking, written, written_all, written_none}

-- the rows of the tables are those of the heap that the words make
module _ (w : Words) where
  abbrev these : List Row
  these = rows_in (sizes_at w.tables) w.tables

  these-length : length these ≡ row_count w
  unfolding rows_in
  these-length = length-map (open_in (sizes_at w.tables) w.tables) (row_in (sizes_at w.tables) w.tables)

  these-stand : WholeWords w → these ≡ rows (sizes_in w) (heap_of (sizes_in w) w)
  these-stand k = rows-stand (sizes_at w.tables) w.tables w.cells w.remember (heap_of (sizes_in w) w) (λ x. x) (heap_of-stands w k)

-- a report that is not refused
abbrev pub reporting : ℕ → ℕ → ℕ → ℕ → ℕ → ℕ → Reported
reporting n f x m d v = record { number = 0; rows = n; free_pages = f; crossing_slots = x; made = m; freed = d; total = v }

pub reporting-same : {n n' f f' x x' m m' d d' v v' : ℕ} → n ≡ n' → f ≡ f' → x ≡ x' → m ≡ m' → d ≡ d' → v ≡ v' → reporting n f x m d v ≡ reporting n' f' x' m' d' v'
reporting-same n f x m d v = λ i. reporting (n i) (f i) (x i) (m i) (d i) (v i)

-- as the code answers; p are the sizes that it read
module _ (l : Slices) (room : ℕ) where
  pub asking-not-whole : (WholeWords l.words → ⊥) → Asking l room (refusing 3)
  asking-not-whole n = record { asked = not_whole refl n; result = refl }

  pub asking-other : WholeWords l.words → {p : Sizes} → p ≡ sizes_at l.words.tables → (ChainsWhole p l.words.remember l.chains → ⊥) → Asking l room (refusing 16)
  asking-other k e n = record { asked = other_chains refl k (read-other e n); result = refl }

  module _ (k : WholeSlices l) (p : Sizes) (e : p ≡ sizes_at l.words.tables) (n : ℕ) (all : n ≡ length (rows_in p l.words.tables)) where
    counted : n ≡ length (these l.words)
    counted = all ∙ ap (λ (q : Sizes). length (rows_in q l.words.tables)) e

    pub asking-short : room < n → Asking l room (refusing 15)
    asking-short few = record { asked = short refl k (omega (arith, counted, these-length l.words)); result = refl }

    pub asking-all : (f x m d v : ℕ) → n ≤ room → f ≡ free_in p l.words.tables → x ≡ entries_used l.words.remember
        → m ≡ made_of p l.words.tables → d ≡ freed_of p l.words.tables → v ≡ total_of (rows_in p l.words.tables) → Asking l room (reporting n f x m d v)
    asking-all f x m d v enough free cross made freed total =
        let w = l.words in
        let s = sizes_in w in
        let t = w.tables in
        let h = heap_of s w in
        let st = heap_of-stands w k.words in
        let n-is : n ≡ length (rows s h) = counted ∙ ap length (these-stand w k.words) in
        let f-is : f ≡ free_pages s (graph h) = free ∙ ap (λ (q : Sizes). free_in q t) e ∙ free-stands s t w.cells w.remember h (λ c. c) st in
        let x-is : x ≡ crossing (graph h) = cross ∙ heap-entries s w h (λ c. c) st in
        let m-is : m ≡ h.counters.made = made ∙ ap (λ (q : Sizes). made_of q t) e ∙ made-stands s t w.cells w.remember h (λ c. c) st in
        let d-is : d ≡ h.counters.freed = freed ∙ ap (λ (q : Sizes). freed_of q t) e ∙ freed-stands s t w.cells w.remember h (λ c. c) st in
        let v-is : v ≡ total_of (rows s h) = total ∙ ap (λ (q : Sizes). total_of (rows_in q t)) e ∙ total-stands s t w.cells w.remember h (λ c. c) st in
        record { asked = accepted refl k (omega (arith, counted, these-length w)); result = reporting-same n-is f-is x-is m-is d-is v-is }

-- ---- rows written as asked for

-- the first n rows of those lent, each written, and the rest
pub written_part : (r lent : List Row) (n : ℕ) → n ≤ length lent → written r (length (take n lent)) (take n lent) ++ drop n lent ≡ written r n lent
unfolding written
written_part r lent n l =
    ap (λ (k : ℕ). written r k (take n lent) ++ drop n lent) (length-take-le n lent l)
    ∙ ap (λ (d : List Row). (take n r ++ d) ++ drop n lent) (drop_all n (take n lent) (omega (arith, length-take-le n lent l)))
    ∙ ap (λ (t : List Row). t ++ drop n lent) (append-nil (take n r))

module _ (l : Slices) (lent : List Row) (r : Reported) (k : Asking l (length lent) r) where
  abbrev w : Words
  w = l.words

  -- of the number that the questions gave
  rows_of : {q : ℕ} → r.number ≡ q → r.rows ≡ (result_of (sizes_in w) (heap_of (sizes_in w) w) q).rows
  rows_of e = ap (λ (x : Reported). x.rows) (k.result ∙ ap (result_of (sizes_in w) (heap_of (sizes_in w) w)) e)

  rows_all : r.number ≡ 0 → WholeWords w → r.rows ≡ length (these w)
  rows_all e h = rows_of e ∙ ap length (sym (these-stand w h))

  pub asked-few : (r.rows ≤ length lent) × (r.rows ≤ length (these w)) × (0 < r.rows → WholeTables (sizes_at w.tables) w.tables)
  asked-few = go k.asked
    where
      none : r.rows ≡ 0 → (r.rows ≤ length lent) × (r.rows ≤ length (these w)) × (0 < r.rows → WholeTables (sizes_at w.tables) w.tables)
      none z = (omega arith, omega arith, λ n. absurd (let y : ⊥ = omega arith in y))

      go : ReportAsked l (length lent) r.number → (r.rows ≤ length lent) × (r.rows ≤ length (these w)) × (0 < r.rows → WholeTables (sizes_at w.tables) w.tables)
      go (not_whole e n) = none (rows_of e)
      go (other_chains e h n) = none (rows_of e)
      go (short e h n) = none (rows_of e)
      go (accepted e h n) = (omega (arith, rows_all e h.words, these-length w), omega (arith, rows_all e h.words), λ z. whole-tables h.words refl)

  pub told-written : Told l lent r (written (these w) r.rows lent)
  told-written = record { asked = k.asked; result = k.result; rows_left = go k.asked }
    where
      none : {q : ℕ} → r.number ≡ suc q → written (these w) r.rows lent ≡ left_of (sizes_in w) (heap_of (sizes_in w) w) lent r.number
      none e =
          ap (λ (i : ℕ). written (these w) i lent) (rows_of e) ∙ written_none (these w) lent
          ∙ sym (ap (left_of (sizes_in w) (heap_of (sizes_in w) w) lent) e)

      go : ReportAsked l (length lent) r.number → written (these w) r.rows lent ≡ left_of (sizes_in w) (heap_of (sizes_in w) w) lent r.number
      go (not_whole e n) = none e
      go (other_chains e h n) = none e
      go (short e h n) = none e
      go (accepted e h n) =
          ap (λ (i : ℕ). written (these w) i lent) (rows_all e h.words) ∙ written_all (these w) lent
          ∙ ap (λ (x : List Row). x ++ drop (length x) lent) (these-stand w h.words) ∙ sym (ap (left_of (sizes_in w) (heap_of (sizes_in w) w) lent) e)

  -- on refusal there is no row to write
  pub told-refused : {q : ℕ} → r ≡ refusing q → Told l lent r lent
  told-refused e =
      subst (Told l lent r) (ap (λ (x : Reported). written (these w) x.rows lent) e ∙ written_none (these w) lent) told-written

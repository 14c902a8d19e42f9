-- The rows in a lent list, and what the questions give.
use Rattle.std.specs.Prelude.{◌≡◌, ℕ, suc, ◌+◌, ◌<◌, ◌≤◌, List, ◌++◌, length, take, drop, set, slice_index_or, slice_set, Result, Ok, Err}
use Rattle.std.proofs.Common.{arith, add-one, ◌∙◌, take-suc, drop-cons}
use Rattle.std.proofs.Math.Path.{refl, sym, ap}
use Rattle.std.proofs.Math.ListN.{length-append, length-drop}
use Rattle.std.proofs.Math.Seq.{length-take-le, append_snoc, set_at, take-length}
use Rattle.rules.specs.Regions.{regions}
use Rattle.rules.specs.declared.Refusal.{Refusal}
use Rattle.rules.specs.Refusals.{number_of}
use Rattle.layout.specs.Places.{sizes_at}
use Rattle.layout.specs.Words.{sizes_in, heap_of}
use Rattle.promises.specs.Slices.{Slices}
use Rattle.report.specs.declared.Row.{Row}
use Rattle.report.specs.Report.{no_row, ReportAsked, refusing, result_of}
use Rattle.report.specs.Tables.{WholeTables}
use Rattle.report.specs.declared.Reported.{Reported}

-- ---- the first k rows of a list over the first k of those lent

unfoldable pub written : List Row → ℕ → List Row → List Row
written r k lent = take k r ++ drop k lent

module _ (r lent : List Row) where
  pub written_none : written r 0 lent ≡ lent
  unfolding written
  written_none = refl

  pub length-written : (k : ℕ) → k ≤ length r → k ≤ length lent → length (written r k lent) ≡ length lent
  unfolding written
  length-written k l m = omega (arith, length-append (take k r) (drop k lent), length-take-le k r l, length-drop k lent)

  pub written_next : (k : ℕ) → k < length r → k < length lent → slice_set (written r k lent) k (slice_index_or r k no_row) ≡ written r (k + 1) lent
  unfolding written
  written_next k l m =
      ap (λ (d : List Row). set (take k r ++ d) k (slice_index_or r k no_row)) (drop-cons lent k no_row m)
      ∙ set_at (take k r) (slice_index_or lent k no_row) (drop (suc k) lent) (slice_index_or r k no_row) k (length-take-le k r (omega arith))
      ∙ sym (ap (λ (n : ℕ). take n r ++ drop n lent) (add-one k) ∙ ap (λ (t : List Row). t ++ drop (suc k) lent) (take-suc r k no_row l) ∙ append_snoc (take k r) (slice_index_or r k no_row) (drop (suc k) lent))

  pub written_all : written r (length r) lent ≡ r ++ drop (length r) lent
  unfolding written
  written_all = ap (λ (t : List Row). t ++ drop (length r) lent) (take-length r)

-- ---- the questions

-- the tables are whole, and g is one of their regions
abbrev pub RegionOf : List ℕ → ℕ → Type 0
RegionOf t g = WholeTables (sizes_at t) t × (1 ≤ g) × (g ≤ regions (sizes_at t))

-- the result of a report with these figures, or refused
abbrev pub reported : Result Reported Refusal → Reported
reported (Ok r) = r
reported (Err q) = refusing (number_of q)

-- the questions of a list of so many rows gave r
pub record Asking (l : Slices) (room : ℕ) (r : Reported) : Type 0 where
  pub asked : ReportAsked l room r.number
  pub result : r ≡ result_of (sizes_in l.words) (heap_of (sizes_in l.words) l.words) r.number

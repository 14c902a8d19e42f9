-- What the tables alone say, as the code reads them.
use Rattle.std.specs.Prelude.{◌≡◌, ℕ, ◌^◌, ◌<◌, ◌≤◌, Bool, cond, List, map, length, ◌≢◌}
use Rattle.std.proofs.Math.Path.{sym, ap, ap₂}
use Rattle.std.proofs.Common.{subst, ◌∙◌, eq-eqb, ne_eqb}
use Rattle.rules.specs.declared.Sizes.{Sizes}
use Rattle.rules.specs.Regions.{thread_of, level_of}
use Rattle.layout.specs.Places.{Room, room, sizes_at, count_of}
use Rattle.layout.specs.Words.{words, depths_at}
use Rattle.promises.specs.Whole.{WholeFor, WholeWords}
use Rattle.promises.specs.OwnedPages.{owned_in}
use Rattle.report.specs.declared.Row.{Row}
use Rattle.report.specs.Report.{row_of, row_with, open_regions}

-- these are the tables of whole words, and the sizes are theirs
pub record WholeTables (p : Sizes) (t : List ℕ) : Type 0 where
  pub cells : List ℕ
  pub remember : List ℕ
  pub whole : WholeFor p (words cells remember t)

unfoldable pub row_in : Sizes → List ℕ → ℕ → Row
row_in p t q = row_with p q (count_of p t q)

abbrev pub open_in : Sizes → List ℕ → List ℕ
open_in p t = open_regions p (depths_at p t)

unfoldable pub rows_in : Sizes → List ℕ → List Row
rows_in p t = map (row_in p t) (open_in p t)

-- the free pages
abbrev pub free_in : Sizes → List ℕ → ℕ
free_in p t = owned_in p t 0 p.pages

pub tables-room-of : (p : Sizes) (t : List ℕ) → WholeTables p t → length t < 2 ^ 63 → Room p (length t)
tables-room-of p t k f =
    let w = words k.cells k.remember t in
    room p (length t) k.whole.sized.range k.whole.sized.tables f

pub threads-low : (p : Sizes) (t : List ℕ) → WholeTables p t → 1 ≤ p.threads
threads-low p t k = k.whole.sized.range.threads-low

-- a row as the code makes it
module _ (p : Sizes) (t : List ℕ) (q : ℕ) {objects : ℕ} (o : objects ≡ count_of p t q) where
  pub row-control : q ≡ 1 → row_of 0 0 objects ≡ row_in p t q
  unfolding row_in
  row-control e =
      ap (row_of 0 0) o ∙ sym (ap (λ (b : Bool). cond b (row_of 0 0 (count_of p t q)) (row_of (thread_of p q) (level_of p q) (count_of p t q))) (eq-eqb q 1 e))

  pub row-thread : {thread level : ℕ} → (q ≢ 1) → thread ≡ thread_of p q → level ≡ level_of p q → row_of thread level objects ≡ row_in p t q
  unfolding row_in
  row-thread n th lv =
      ap₂ (λ (x y : ℕ). row_of x y objects) th lv ∙ ap (row_of (thread_of p q) (level_of p q)) o
      ∙ sym (ap (λ (b : Bool). cond b (row_of 0 0 (count_of p t q)) (row_of (thread_of p q) (level_of p q) (count_of p t q))) (ne_eqb q 1 n))

-- the sizes that were read from whole words
pub whole-tables : {c m t : List ℕ} {p : Sizes} → WholeWords (words c m t) → p ≡ sizes_at t → WholeTables p t
whole-tables {c} {m} {t} k e =
    subst (λ (q : Sizes). WholeTables q t) (sym e) (record { cells = c; remember = m; whole = k })

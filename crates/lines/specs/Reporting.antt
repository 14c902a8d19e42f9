-- The report as text: its rows, and the two lines of figures.
use Rattle.std.specs.Prelude.{ℕ, ◌+◌, ◌*◌, ◌≤◌, ◌<◌, ◌≡◌, refl, length, get_or, take}
use Rattle.std.proofs.Common.{arith, add-one, sym, ◌∙◌, take-suc}
use Rattle.std.proofs.Math.Path.{ap, subst}
use mathlib.Core.List.{List, [], ◌∷◌, ◌++◌, append_assoc, append-nil}
use Rattle.std.proofs.Math.ListN.{length-append}
use Rattle.std.proofs.Math.Seq.{take-length}
use Rattle.rules.specs.declared.Sizes.{Sizes}
use Rattle.rules.specs.Graph.{crossing, free_pages}
use Rattle.rules.specs.Rules.{Regioned, graph}
use Rattle.layout.specs.Places.{sizes_at, entries_used, made_of, freed_of}
use Rattle.layout.specs.Words.{words}
use Rattle.promises.specs.Whole.{WholeFor}
use Rattle.promises.specs.Slices.{slices}
use Rattle.promises.specs.StandsFor.{StandsFor}
use Rattle.promises.specs.Crossings.{heap-entries}
use Rattle.report.specs.declared.Row.{Row}
use Rattle.report.specs.Report.{rows, no_row, total_of}
use Rattle.report.specs.Tables.{WholeTables, rows_in, free_in}
use Rattle.report.proofs.Stands.{rows-stand, free-stands, made-stands, freed-stands}
use Rattle.script.specs.Writing.{row, Put}
use Rattle.script.proofs.WritingLaws.{word-length, put-text, put-put}
use Rattle.script.specs.Blocks.{stacked}
use Rattle.script.proofs.Stacked.{two-length, stack-none}
use Rattle.printed.specs.Printed.{row_text, rows_text, reported}
use Rattle.lines.specs.Lines.{Here}

-- ---- rows

rows_append : (xs ys : List Row) → rows_text (xs ++ ys) ≡ rows_text xs ++ rows_text ys
unfolding rows_text
rows_append [] ys = refl
rows_append (x ∷ xs) ys = ap (λ (t : List ℕ). row_text x ++ t) (rows_append xs ys) ∙ sym (append_assoc (row_text x) (rows_text xs) (rows_text ys))

four-length : (a b c d : ℕ) → a < 4294967296 → b < 4294967296 → c < 4294967296 → d < 4294967296 → length (row (a ∷ b ∷ c ∷ d ∷ [])) ≤ 44
unfolding row
four-length a b c d la lb lc ld = simp length-append (omega (arith, word-length a la, word-length b lb, word-length c lc, word-length d ld))

three-length : (a b c : ℕ) → a < 4294967296 → b < 4294967296 → c < 4294967296 → length (row (a ∷ b ∷ c ∷ [])) ≤ 33
unfolding row
three-length a b c la lb lc = simp length-append (omega (arith, word-length a la, word-length b lb, word-length c lc))

-- a line of two numbers ends 22 bytes further on at most
pub figures-end : {bytes after : List ℕ} {at end a b : ℕ} → Put bytes at (row (a ∷ b ∷ [])) after end → a < 4294967296 → b < 4294967296 → end ≤ at + 22
figures-end {a = a} {b = b} p la lb = omega (arith, p.end_is, two-length a b la lb)

pub rows_none : (rs : List Row) (out : List ℕ) (at : ℕ) → Put out at (rows_text (take 0 rs)) out at
unfolding rows_text stacked
rows_none rs out at = stack-none (λ i. []) out at

-- one row more
module _ (rs : List Row) {out now after : List ℕ} {at end last : ℕ} (k : ℕ) {r : Row} (h : k < length rs) (e : r ≡ get_or rs k no_row)
    (fits : (r.thread < 4294967296) × (r.level < 4294967296) × (r.objects < 4294967296) × (r.pages < 4294967296))
    (low : end ≤ at + 44 * k) (room : at + 44 * (k + 1) ≤ length out)
    (p : Put out at (rows_text (take k rs)) now end) (q : Put now end (row_text r) after last) where
  pub row-end : last ≤ at + 44 * (k + 1)
  row-end = omega (arith, q.end_is, four-length r.thread r.level r.objects r.pages fits.0 fits.1 fits.2 fits.3)

  pub row_next : Put out at (rows_text (take (k + 1) rs)) after last
  unfolding rows_text
  row_next =
      put-text
      (sym (ap (λ (n : ℕ). rows_text (take n rs)) (add-one k) ∙ ap rows_text (take-suc rs k no_row h) ∙ rows_append (take k rs) (get_or rs k no_row ∷ [])
      ∙ ap (λ (t : List ℕ). rows_text (take k rs) ++ t) (append-nil (row_text (get_or rs k no_row)) ∙ ap row_text (sym e))))
      (put-put (omega (arith, p.end_is, four-length r.thread r.level r.objects r.pages fits.0 fits.1 fits.2 fits.3)) p q)

pub rows_all : {out after : List ℕ} {at end : ℕ} (rs : List Row) (k : ℕ) → k ≡ length rs → Put out at (rows_text (take k rs)) after end → Put out at (rows_text rs) after end
rows_all rs k e p = put-text (ap (λ (n : ℕ). rows_text (take n rs)) e ∙ ap rows_text (take-length rs)) p

-- ---- the report

module _ {c m t k : List ℕ} {p : Sizes} (here : Here (slices c m t k)) (sizes-are : p ≡ sizes_at t) where
  pub here-whole : WholeTables p t
  here-whole =
      let whole : WholeFor (sizes_at t) (words c m t) = subst (λ (s : Sizes). WholeFor s (words c m t)) (sym here.stands.whole.sized.sizes) here.stands.whole in
      subst (λ (q : Sizes). WholeTables q t) (sym sizes-are) (record { cells = c; remember = m; whole = whole })

  module _ {out middle figured after : List ℕ} {at i j end free slots made freed total : ℕ} (room : at + 5731 ≤ length out)
      (rows-put : Put out at (rows_text (rows_in p t)) middle i) (low : i ≤ at + 5676)
      (fits : (free < 4294967296) × (slots < 4294967296) × (made < 4294967296) × (freed < 4294967296) × (total < 4294967296))
      (figures : Put middle i (row (free ∷ slots ∷ [])) figured j) (last : Put figured j (row (made ∷ freed ∷ total ∷ [])) after end) where
    two-low : length (row (free ∷ slots ∷ [])) ≤ 22
    two-low = two-length free slots fits.0 fits.1

    three-low : length (row (made ∷ freed ∷ total ∷ [])) ≤ 33
    three-low = three-length made freed total fits.2 fits.3 fits.4

    pub report-end : end ≤ at + 5731
    report-end = omega (arith, figures.end_is, last.end_is, two-low, three-low)

    pub report-put : free ≡ free_in p t → slots ≡ entries_used m → made ≡ made_of p t → freed ≡ freed_of p t → total ≡ total_of (rows_in p t)
        → (s : Sizes) (h : Regioned) (cells : List ℕ) (cell_of : ℕ → ℕ) → StandsFor s (words cells m t) h cell_of → Put out at (reported s h) after end
    unfolding reported
    report-put free-is slots-are made-are freed-are total-is s h cells cell_of st =
        let sized : p ≡ s = sizes-are ∙ st.whole.sized.sizes in
        let here : StandsFor p (words cells m t) h cell_of = subst (λ (x : Sizes). StandsFor x (words cells m t) h cell_of) (sym sized) st in
        let rs : rows_in p t ≡ rows s h = rows-stand p t cells m h cell_of here ∙ ap (λ (x : Sizes). rows x h) sized in
        let fs : free ≡ free_pages s (graph h) = free-is ∙ free-stands p t cells m h cell_of here ∙ ap (λ (x : Sizes). free_pages x (graph h)) sized in
        let ss : slots ≡ crossing (graph h) = slots-are ∙ heap-entries s (words cells m t) h cell_of st in
        let ms : made ≡ h.counters.made = made-are ∙ made-stands p t cells m h cell_of here in
        let ds : freed ≡ h.counters.freed = freed-are ∙ freed-stands p t cells m h cell_of here in
        let ts : total ≡ total_of (rows s h) = total-is ∙ ap total_of rs in
        put-text (λ x. rows_text (rs x) ++ row (fs x ∷ ss x ∷ []) ++ row (ms x ∷ ds x ∷ ts x ∷ []))
        (put-put (omega (arith, rows-put.end_is, length-append (rows_text (rows_in p t)) (row (free ∷ slots ∷ [])), two-low, three-low))
        (put-put (omega (arith, rows-put.end_is, two-low)) rows-put figures) last)

-- The reader finds in every text exactly what the text says, line by line, however its bytes are cut into pieces.
use Rattle.std.specs.Prelude.{ℕ, ◌+◌, ◌*◌, ◌-◌, Bool, true, false, cond, ◌&&◌, ◌≡◌, refl, drop, eqb, ltb}
use mathlib.Core.List.{List, [], ◌∷◌, ◌++◌, map, flatten}
use Rattle.std.proofs.Math.Bool.{and-false}
use Rattle.std.proofs.Common.{sym, ap, ◌∙◌, arith, drop-drop, ne_eqb}
use Rattle.script.specs.Text.{Line}
use Rattle.script.specs.declared.Reader.{Reader}
use Rattle.script.specs.declared.Step.{Step}
use Rattle.script.specs.declared.Step.TheVariants.{More, Ended}
use Rattle.std.specs.Prelude.{Option, None, Some}
use Rattle.script.specs.declared.Scan.{Scan}
use Rattle.script.specs.declared.Scan.TheVariants.{Open, Found}
use Rattle.script.specs.Text.{onto, lines, is_digit, says, text_says}
use Rattle.script.specs.Reading.{digits, number, started, spoilt, completed, numbering, spaced, digited, next_of, end_of, step_of, fresh, last_of, scanned}
use Rattle.script.specs.LineLaws.{ends, ends-says}

-- the line that the end of the input brings
abbrev pub lastly : Option Line → List Line
lastly None = []
lastly (Some l) = l ∷ []

-- the lines that the reader finds in a text, and at its end
unfoldable pub reading : Reader → List ℕ → List Line
reading r [] = lastly (last_of r)
reading r (b ∷ bs) = elim (step_of r b) [ More s ↦ reading s bs | Ended l ↦ l ∷ reading started bs ]

-- what it finds if these lines are left, the first of them begun
finds : Reader → List (List ℕ) → List Line
finds r [] = lastly (last_of r)
finds r (l ∷ ls) = ends r l ∷ map says ls

-- a reader that has read a byte of its line knows that the line has begun
begun : (r : Reader) (b : ℕ) → fresh (next_of r b) ≡ false
unfolding fresh next_of spaced digited
begun r b = go (eqb b 32) (is_digit b)
  where
    spaces : (t : Bool) → fresh (cond t (completed r) spoilt) ≡ false
    spaces true = let e : eqb (r.complete + 1) 0 ≡ false = ne_eqb (r.complete + 1) 0 (omega arith) in simp (e, and-false)
    spaces false = refl

    digit : (t : Bool) (n : ℕ) → fresh (cond t (numbering r n) spoilt) ≡ false
    digit true n = simp and-false
    digit false n = refl

    go : (s d : Bool) → fresh (cond s (spaced r) (cond d (digited r (b - 48)) spoilt)) ≡ false
    go true d = spaces ((digits r) && ltb r.complete 4)
    go false true = digit (ltb (10 * (number r) + (b - 48)) 4_294_967_296) (10 * (number r) + (b - 48))
    go false false = refl

finds-onto : (r : Reader) (b : ℕ) (ls : List (List ℕ)) → finds (next_of r b) ls ≡ finds r (onto b ls)
unfolding finds onto ends last_of
finds-onto r b [] = ap (λ (t : Bool). lastly (cond t None (Some (end_of (next_of r b))))) (begun r b)
finds-onto r b (l ∷ ls) = refl

finds-start : (ls : List (List ℕ)) → finds started ls ≡ map says ls
unfolding finds last_of fresh
finds-start [] = refl
finds-start (l ∷ ls) = ap (λ (x : Line). x ∷ map says ls) (ends-says l)

reading-finds : (text : List ℕ) (r : Reader) → reading r text ≡ finds r (lines text)
unfolding reading finds lines step_of ends
reading-finds [] r = refl
reading-finds (b ∷ bs) r = go (eqb b 10) (reading-finds bs started) (reading-finds bs (next_of r b))
  where
    go : (t : Bool) → reading started bs ≡ finds started (lines bs) → reading (next_of r b) bs ≡ finds (next_of r b) (lines bs)
        → elim (cond t (Ended (end_of r)) (More (next_of r b))) as (λ x. List Line) [ More s ↦ reading s bs | Ended l ↦ l ∷ reading started bs ]
        ≡ finds r (cond t ([] ∷ lines bs) (onto b (lines bs)))
    go true h k = ap (λ (x : List Line). end_of r ∷ x) (h ∙ finds-start (lines bs))
    go false h k = k ∙ finds-onto r b (lines bs)

-- The reader finds exactly what the text says.
pub reads-text : (text : List ℕ) → reading started text ≡ text_says text
reads-text text = reading-finds text started ∙ finds-start (lines text)

-- ---- pieces

-- the lines that end in a piece of a text, and the reader after it
unfoldable pub found : Reader → List ℕ → List Line
found r [] = []
found r (b ∷ bs) = elim (step_of r b) [ More s ↦ found s bs | Ended l ↦ l ∷ found started bs ]

unfoldable pub left : Reader → List ℕ → Reader
left r [] = r
left r (b ∷ bs) = elim (step_of r b) [ More s ↦ left s bs | Ended l ↦ left started bs ]

pub reading-cut : (xs ys : List ℕ) (r : Reader) → reading r (xs ++ ys) ≡ found r xs ++ reading (left r xs) ys
unfolding reading found left
reading-cut [] ys r = refl
reading-cut (b ∷ bs) ys r = go (step_of r b) (λ s. reading-cut bs ys s)
  where
    go : (x : Step) → ((s : Reader) → reading s (bs ++ ys) ≡ found s bs ++ reading (left s bs) ys)
        → elim x as (λ y. List Line) [ More s ↦ reading s (bs ++ ys) | Ended l ↦ l ∷ reading started (bs ++ ys) ]
        ≡ elim x as (λ y. List Line) [ More s ↦ found s bs | Ended l ↦ l ∷ found started bs ]
        ++ reading (elim x as (λ y. Reader) [ More s ↦ left s bs | Ended l ↦ left started bs ]) ys
    go (More s) h = h s
    go (Ended l) h = ap (λ (ls : List Line). l ∷ ls) (h started)

-- what the reader finds in the pieces of a text, one after the other, and at the end
unfoldable pub piecewise : Reader → List (List ℕ) → List Line
piecewise r [] = lastly (last_of r)
piecewise r (x ∷ xs) = found r x ++ piecewise (left r x) xs

piecewise-reads : (pieces : List (List ℕ)) (r : Reader) → piecewise r pieces ≡ reading r (flatten pieces)
unfolding piecewise reading flatten
piecewise-reads [] r = refl
piecewise-reads (x ∷ xs) r = ap (λ (ls : List Line). found r x ++ ls) (piecewise-reads xs (left r x)) ∙ sym (reading-cut x (flatten xs) r)

-- However a text is cut into pieces, the reader finds exactly what the text says.
pub reads-pieces : (pieces : List (List ℕ)) → piecewise started pieces ≡ text_says (flatten pieces)
reads-pieces pieces = piecewise-reads pieces started ∙ reads-text (flatten pieces)

-- ---- a buffer, line by line

-- what a piece of a text brings, its lines and the reader after it, by a scan of it: none, or a line and what the rest brings
unfoldable pub Brings : Scan → List ℕ → List Line → Reader → Type 0
Brings (Open s) text ls r = (ls ≡ []) × (r ≡ s)
Brings (Found l n) text ls r = (ls ≡ l ∷ found started (drop n text)) × (r ≡ left started (drop n text))

scan-brings : (bs : List ℕ) (r : Reader) (text : List ℕ) (at : ℕ) → drop at text ≡ bs → Brings (scanned r bs at) text (found r bs) (left r bs)
unfolding found left scanned Brings
scan-brings [] r text at e = (refl, refl)
scan-brings (b ∷ bs) r text at e = go (step_of r b) (λ s. scan-brings bs s text (at + 1) f)
  where
    f : drop (at + 1) text ≡ bs
    f = sym (drop-drop 1 at text) ∙ ap (drop 1) e

    go : (x : Step) → ((s : Reader) → Brings (scanned s bs (at + 1)) text (found s bs) (left s bs))
        → Brings (elim x as (λ y. Scan) [ More s ↦ scanned s bs (at + 1) | Ended l ↦ Found l (at + 1) ]) text
        (elim x as (λ y. List Line) [ More s ↦ found s bs | Ended l ↦ l ∷ found started bs ])
        (elim x as (λ y. Reader) [ More s ↦ left s bs | Ended l ↦ left started bs ])
    go (More s) h = h s
    go (Ended l) h = (ap (λ (t : List ℕ). l ∷ found started t) (sym f), ap (left started) (sym f))

-- A scan takes the next line of a piece, if one ends in it, and leaves the rest.
pub scan-reads : (r : Reader) (text : List ℕ) (at : ℕ) → Brings (scanned r (drop at text) at) text (found r (drop at text)) (left r (drop at text))
scan-reads r text at = scan-brings (drop at text) r text at refl

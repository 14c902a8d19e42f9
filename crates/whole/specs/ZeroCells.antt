-- Cells that are not in use: their words, joined by "or", page by page.
use Rattle.std.specs.Prelude.{◌≡◌, ℕ, ◌+◌, ◌<◌, ◌≤◌, List, [], bit_or, slice_index, refl}
use Rattle.std.proofs.Common.{sym, ap, subst, ◌∙◌, ⊎_elim, arith}
use Rattle.std.proofs.Math.Decide.{dec_lt}
use Rattle.lists.specs.Below.{split}
use Rattle.lists.specs.Zeros.{or-zeros, zeros-or}
use Rattle.rules.specs.declared.Sizes.{Sizes}
use Rattle.layout.specs.Places.{used_of}
use Rattle.layout.specs.Cells.{word_at, page_cells, page_of, place_of, cell_on, cell_of, word_of, page_at, cell_words, place-low, at-page}
use Rattle.layout.specs.Objects.{InUse}
use Rattle.layout.specs.Words.{words}
use Rattle.promises.specs.Whole.{UnusedWhole}

-- every word of cell k is zero
abbrev pub ZeroCell : List ℕ → ℕ → Type 0
ZeroCell c k = (i : ℕ) → i < cell_words → slice_index c (word_at k i) ≡ 0

-- and of every cell of a page from a place on
abbrev pub ZeroCells : List ℕ → ℕ → ℕ → Type 0
ZeroCells c page first = (place : ℕ) → place < page_cells → first ≤ place → ZeroCell c (cell_on page place)

-- x is 0 just if the first n words of cell k are
pub record Joined (c : List ℕ) (k n x : ℕ) : Type 0 where
  pub zeros : x ≡ 0 → (i : ℕ) → i < n → slice_index c (word_at k i) ≡ 0
  pub zero : ((i : ℕ) → i < n → slice_index c (word_at k i) ≡ 0) → x ≡ 0

pub joined-none : (c : List ℕ) (k : ℕ) → Joined c k 0 0
joined-none c k = record { zeros = λ e i l. absurd (let z : ⊥ = omega arith in z); zero = λ h. refl }

-- y is word n, as the code read it
pub joined-more : {c : List ℕ} {k n x y : ℕ} → Joined c k n x → y ≡ slice_index c (word_at k n) → Joined c k (n + 1) (bit_or x y)
joined-more {c} {k} {n} {x} {y} j e = record {
  zeros = λ z i l. ⊎_elim (λ q. ap (λ (m : ℕ). slice_index c (word_at k m)) q ∙ sym e ∙ (or-zeros x y z).1) (j.zeros (or-zeros x y z).0 i) (split l);
  zero = λ h. zeros-or x y (j.zero (λ i l. h i (omega arith))) (e ∙ h n (omega arith));
}

-- page by page is every cell that is not in use
pub all-unused : (p : Sizes) (c t : List ℕ) → ((page : ℕ) → page < p.pages → ZeroCells c page (used_of p t page)) → UnusedWhole p (words c [] t)
all-unused p c t h q n = go (dec_lt (place_of (cell_of q)) (used_of p t (page_at q)))
  where
    go : Dec (place_of (cell_of q) < used_of p t (page_at q)) → slice_index c q ≡ 0
    go (yes m) = absurd (n.unused (record { page = at-page p q n.low; place = m }))
    go (no m) =
        let e : word_at (cell_on (page_at q) (place_of (cell_of q))) (word_of q) ≡ q = omega arith in
        subst (λ (x : ℕ). slice_index c x ≡ 0) e (h (page_at q) (at-page p q n.low) (place_of (cell_of q)) (place-low (cell_of q)) (omega arith) (word_of q) (omega arith))

-- of a page the cells from those in use on
pub unused-on : (p : Sizes) (c t : List ℕ) (page : ℕ) → UnusedWhole p (words c [] t) → page < p.pages → ZeroCells c page (used_of p t page)
unused-on p c t page z l place m k i b = z (word_at (cell_on page place) i) (record { low = omega arith; unused = past })
  where
    past : InUse p t (cell_of (word_at (cell_on page place) i)) → ⊥
    past u =
        let on : page_of (cell_of (word_at (cell_on page place) i)) ≡ page = omega arith in
        omega (arith, u.place, ap (used_of p t) on)

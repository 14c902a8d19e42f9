-- The cell that is taken is the one that a new object of the region takes.
use Rattle.std.specs.Prelude.{◌≡◌, List, ℕ, ◌+◌, ◌≤◌, ◌<◌, length, set}
use Rattle.std.proofs.Common.{sym, ap, ◌∙◌, subst, subst₂, inl, inr, arith}
use Rattle.std.proofs.lemmas.List.{set-get_or}
use Rattle.rules.specs.declared.Sizes.{Sizes}
use Rattle.rules.specs.Regions.{regions}
use Rattle.layout.specs.Places.{owner_at, used_at, count_at, used_of, count_of, made_of}
use Rattle.layout.specs.Cells.{cell_on, page_cells}
use Rattle.promises.specs.Regular.{Regular}
use Rattle.promises.specs.TakeCell.{Took}
use Rattle.promises.proofs.TakeCell.{took-own, took-free}
use Rattle.pages.specs.Pages.{Found, taken}

module _ {s : Sizes} {t : List ℕ} (r : Regular s t) {g page : ℕ} (low : page < s.pages) where
  -- a page that was found has an unused cell
  pub found-room : Found s t g page → used_of s t page < page_cells
  found-room (inl f) = f.partial.part
  found-room (inr f) = omega (arith, (r.pages page low).free (f.free low))

  there : count_at s g < length t → (1 ≤ g) × (g ≤ regions s) → Found s t g page → Took s t g (cell_on page (used_of s t page)) (made_of s t) (taken s t page g)
  there room real (inl f) =
      let e : set t (owner_at s page) g ≡ t = ap (set t (owner_at s page)) (sym f.partial.owner) ∙ set-get_or t (owner_at s page) 0 in
      subst (λ (l : List ℕ). Took s t g (cell_on page (used_of s t page)) (made_of s t) (set (set l (used_at s page) (used_of s t page + 1)) (count_at s g) (count_of s t g + 1))) (sym e)
      (took-own s t g page low room real f.partial.owner f.partial.part)
  there room real (inr f) =
      let o = f.free low in
      let u = (r.pages page low).free o in
      subst (λ (n : ℕ). Took s t g (cell_on page n) (made_of s t) (set (set (set t (owner_at s page) g) (used_at s page) (n + 1)) (count_at s g) (count_of s t g + 1))) (sym u)
      (took-free s t g page low room real o u (λ q l x. absurd (let z : ⊥ = omega (arith, f.none q l x.owner, x.part) in z)) (λ q l e. (f.some q l e).0))

  -- the cell and the tables as the code has them
  pub taken-took : count_at s g < length t → (1 ≤ g) × (g ≤ regions s) → Found s t g page → {cell : ℕ} {t' : List ℕ} → cell ≡ cell_on page (used_of s t page) → t' ≡ taken s t page g → Took s t g cell (made_of s t) t'
  taken-took room real f e h = subst₂ (λ (c : ℕ) (l : List ℕ). Took s t g c (made_of s t) l) (sym e) (sym h) (there room real f)

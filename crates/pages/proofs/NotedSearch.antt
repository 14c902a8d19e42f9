-- The notes of a block. Note 0 counts pages: so many of the last are not free, and a search for the highest-numbered free page begins below them.
-- Notes of zero, as a block begins with, say nothing. The note of a region is the page that its last object went to, which is tested before use.
use Rattle.std.specs.Prelude.{◌≡◌, List, ℕ, ◌+◌, ◌-◌, ◌≤◌, ◌<◌, length, get_or, set}
use Rattle.std.proofs.Common.{sym, ap, ◌∙◌, arith, length-set, get_or-set_same, get_or-set_other}
use Rattle.std.proofs.Math.Logic.{by_cases}
use Rattle.std.proofs.Math.Decide.{ℕ_discrete, dec_lt}
use Rattle.rules.specs.declared.Sizes.{Sizes}
use Rattle.layout.specs.Places.{most_regions, owners_from, owner_at, owner_of}
use Rattle.layout.specs.Cells.{page_of}
use Rattle.promises.specs.TakeCell.{Took}
use Rattle.promises.proofs.TakeCell.{page-past}
use Rattle.pages.specs.Pages.{Free, NoneFrom, free_all}
use Rattle.pages.specs.Noted.{Above, Noted, passed_from}

module _ {p : Sizes} {t notes : List ℕ} {n page : ℕ} (h : Noted p t notes) (e : n ≡ passed_from p notes) (f : Free p t n page) where
  pub noted-free : Free p t p.pages page
  noted-free = free_all (λ x l. h.passed x (omega arith)) f

  -- the pages above the one that was found become note 0
  pub noted-found : {k : ℕ} → Above p.pages page k → Noted p t (set notes 0 k)
  noted-found {k} a =
      record { long = omega (arith, h.long, length-set notes 0 k); passed = λ x l m z. go x m z (noted-free.some x m z) (at x l) }
    where
      at : (x : ℕ) → passed_from p (set notes 0 k) ≤ x → p.pages - k ≤ x
      at x l = omega (arith, get_or-set_same notes 0 k 0 (omega (arith, h.long)))

      go : (x : ℕ) → x < p.pages → owner_of p t x ≡ 0 → (x ≤ page) × (page < p.pages) → p.pages - k ≤ x → ⊥
      go x m z s l = omega (arith, s.0, s.1, a.0 s.1)

-- The notes of a block. Note 0 counts pages: so many of the last are not free, and a search for the highest-numbered free page begins below them.
-- Notes of zero, as a block begins with, say nothing. The note of a region is the page that its last object went to, which is tested before use.
use Rattle.std.specs.Prelude.{◌≡◌, List, ℕ, ◌+◌, ◌-◌, ◌≤◌, ◌<◌, length, get_or, set}
use Rattle.std.proofs.Common.{sym, ap, ◌∙◌, arith, length-set, get_or-set_other}
use Rattle.std.proofs.Math.Logic.{by_cases}
use Rattle.std.proofs.Math.Decide.{ℕ_discrete, dec_lt}
use Rattle.rules.specs.declared.Sizes.{Sizes}
use Rattle.layout.specs.Places.{most_regions, owners_from, owner_at, owner_of}
use Rattle.layout.specs.Cells.{page_of}
use Rattle.promises.specs.TakeCell.{Took}
use Rattle.promises.proofs.TakeCell.{page-past}
use Rattle.pages.specs.Pages.{NoneFrom}

abbrev pub note_words : ℕ
note_words = most_regions

-- the first page that note 0 says is not free, and with it all that follow
abbrev pub passed_from : Sizes → List ℕ → ℕ
passed_from p notes = p.pages - get_or notes 0 0

pub record Noted (p : Sizes) (t notes : List ℕ) : Type 0 where
  pub long : note_words ≤ length notes
  pub passed : NoneFrom p t (passed_from p notes) p.pages

-- a block begins with notes of zero
pub noted-start : (p : Sizes) (t notes : List ℕ) → note_words ≤ length notes → get_or notes 0 0 ≡ 0 → Noted p t notes
noted-start p t notes l e = record { long = l; passed = λ x b m z. omega (arith, e) }

-- ---- they stay right

-- no page became free
pub record NoneFreed (p : Sizes) (t t' : List ℕ) : Type 0 where
  pub was : (page : ℕ) → page < p.pages → owner_of p t' page ≡ 0 → owner_of p t page ≡ 0

pub noted-kept : {p : Sizes} {t t' notes : List ℕ} → NoneFreed p t t' → Noted p t notes → Noted p t' notes
noted-kept e h = record { long = h.long; passed = λ x l m z. h.passed x l m (e.was x m z) }

-- every page has the owner that it had
pub none-freed : (p : Sizes) (t t' : List ℕ) → ((page : ℕ) → page < p.pages → owner_of p t' page ≡ owner_of p t page) → NoneFreed p t t'
none-freed p t t' e = record { was = λ page l z. sym (e page l) ∙ z }

pub none-freed-refl : (p : Sizes) (t : List ℕ) → NoneFreed p t t
none-freed-refl p t = record { was = λ page l z. z }

-- a word before the owners is set
pub none-freed-before : (p : Sizes) (t : List ℕ) (i x : ℕ) {t' : List ℕ} → i < owners_from p → t' ≡ set t i x → NoneFreed p t t'
none-freed-before p t i x {t'} l e =
    none-freed p t t' (λ page m. ap (λ (w : List ℕ). owner_of p w page) e ∙ get_or-set_other t i (owner_at p page) x 0 (λ (z : owner_at p page ≡ i). omega arith))

-- a cell is taken
pub took-none-freed : {p : Sizes} {t : List ℕ} {g cell n : ℕ} {t' : List ℕ} → 1 ≤ g → Took p t g cell n t' → NoneFreed p t t'
took-none-freed {p} {t} {g} {cell} {n} {t'} pos k =
    record { was = λ page l z. by_cases (ℕ_discrete page (page_of cell)) (λ e. absurd (let y : ⊥ = omega (arith, k.owner, ap (owner_of p t') e) in y)) (λ d. sym (page-past k page l d).owner ∙ z) }

-- the note of a region is set
pub noted-region : {p : Sizes} {t notes : List ℕ} (g page : ℕ) → 1 ≤ g → Noted p t notes → Noted p t (set notes g page)
noted-region {p} {t} {notes} g page pos h =
    record {
      long = omega (arith, h.long, length-set notes g page);
      passed = λ x l. h.passed x (omega (arith, get_or-set_other notes g 0 page 0 (λ (e : 0 ≡ g). omega arith)));
    }

-- ---- the search for a free page

-- so many pages lie above a page; all of them, where it is the number of pages
abbrev pub Above : ℕ → ℕ → ℕ → Type 0
Above pages page n = (page < pages → n + page + 1 ≡ pages) × (pages ≤ page → n ≡ pages)

pub above_within : (pages page n : ℕ) → Above pages page n → n ≤ pages
above_within pages page n a = by_cases (dec_lt page pages) (λ l. omega (arith, a.0 l)) (λ l. omega (arith, a.1 (omega arith)))

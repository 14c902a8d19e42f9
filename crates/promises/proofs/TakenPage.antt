-- The cell that a region takes is the one that the rules' pages give (02, W3): the page is determined by owners and cells in use.
use Rattle.std.specs.Prelude.{ℕ, suc, ◌+◌, ◌-◌, ◌≤◌, ◌<◌, ◌≡◌, refl, List, Bool, true, ◌&&◌, get_or, ltb, eqb}
use Rattle.std.proofs.Common.{arith, ◌∙◌, inl, inr, length-set, ext_get_or, get_or-set_same, get_or-set_other, lt-ltb, ltb-true, eq-eqb, eqb-true}
use Rattle.std.proofs.Math.Decide.{ℕ_discrete}
use Rattle.std.proofs.Math.Path.{sym, ap, ap₂}
use Rattle.std.proofs.Math.ListN.{set}
use Rattle.lists.specs.Tests.{both_true}
use Rattle.lists.specs.Counting.{bit, sum, sum_same}
use Rattle.rules.specs.declared.Sizes.{Sizes}
use Rattle.rules.specs.Terms.{first}
use Rattle.rules.specs.Pages.{Page, free_page, nth_page, highest, is_free, free_among, is_partial, page_for, Taken, take_on, take}
use Rattle.laws.specs.Highest.{highest-is, highest-none}
use Rattle.layout.specs.Places.{owner_of, used_of}
use Rattle.layout.specs.Cells.{page_cells, page_of, place_of}
use Rattle.layout.specs.Words.{page_in, pages_at, pages-count, page-there}
use Rattle.promises.specs.Whole.{Partial}
use Rattle.promises.specs.Regular.{Regular, SamePage, one}
use Rattle.promises.specs.OwnedPages.{owned_one, owned_in}
use Rattle.promises.specs.TakeCell.{Source, Took}
use Rattle.promises.proofs.TakeCell.{page-past}

-- ---- the tests, in words

module _ (s : Sizes) (t : List ℕ) (page : ℕ) (l : page < s.pages) where
  pub free-there : owner_of s t page ≡ 0 → is_free (pages_at s t) page ≡ true
  free-there e = ap (λ (q : Page). eqb q.owner 0) (page-there s t page l) ∙ eq-eqb (owner_of s t page) 0 e

  pub there-free : is_free (pages_at s t) page ≡ true → owner_of s t page ≡ 0
  there-free e = eqb-true (owner_of s t page) 0 (sym (ap (λ (q : Page). eqb q.owner 0) (page-there s t page l)) ∙ e)

  is-partial : (g : ℕ) → is_partial (pages_at s t) g page ≡ (eqb (owner_of s t page) g && ltb (used_of s t page) page_cells)
  is-partial g = ap (λ (q : Page). eqb q.owner g && ltb q.used page_cells) (page-there s t page l)

  pub partial_there : {g : ℕ} → Partial s t g page → is_partial (pages_at s t) g page ≡ true
  partial_there {g} x =
      is-partial g ∙ ap₂ (λ (a b : Bool). a && b) (eq-eqb (owner_of s t page) g x.owner) (lt-ltb (used_of s t page) page_cells x.part)

  pub there-partial : {g : ℕ} → is_partial (pages_at s t) g page ≡ true → Partial s t g page
  there-partial {g} e =
      let b = both_true (eqb (owner_of s t page) g) (ltb (used_of s t page) page_cells) (sym (is-partial g) ∙ e) in
      record { owner = eqb-true (owner_of s t page) g b.0; part = ltb-true (used_of s t page) page_cells b.1 }

-- ---- the page that a new object goes to

module _ (s : Sizes) (t : List ℕ) (g : ℕ) where
  page-for : {a b : ℕ} → highest (is_partial (pages_at s t) g) s.pages ≡ a → highest (is_free (pages_at s t)) s.pages ≡ b → page_for (pages_at s t) g ≡ first a b
  unfolding page_for
  page-for e f =
      ap (λ (n : ℕ). first (highest (is_partial (pages_at s t) g) n) (highest (is_free (pages_at s t)) n)) (pages-count s t) ∙ ap₂ first e f

  none-partial : ((q : ℕ) → q < s.pages → Partial s t g q → ⊥) → highest (is_partial (pages_at s t) g) s.pages ≡ 0
  none-partial none = highest-none (is_partial (pages_at s t) g) s.pages (λ q l e. none q l (there-partial s t q l e))

  pub page-for-partial : Regular s t → 1 ≤ g → (page : ℕ) → page < s.pages → Partial s t g page → page_for (pages_at s t) g ≡ suc page
  page-for-partial r pos page l x =
      page-for
      (highest-is (is_partial (pages_at s t) g) s.pages page l (partial_there s t page l x)
      (λ q m e. let z : q ≡ page = one r pos m l (there-partial s t q m e) x in omega arith)) refl

  pub page-for-free : (page : ℕ) → page < s.pages → owner_of s t page ≡ 0 → ((q : ℕ) → q < s.pages → Partial s t g q → ⊥)
      → ((q : ℕ) → q < s.pages → owner_of s t q ≡ 0 → q ≤ page) → page_for (pages_at s t) g ≡ suc page
  page-for-free page l e none top =
      page-for (none-partial none)
      (highest-is (is_free (pages_at s t)) s.pages page l (free-there s t page l e) (λ q m f. top q m (there-free s t q m f)))

  pub page-for-source : Regular s t → 1 ≤ g → (page : ℕ) → page < s.pages → used_of s t page < page_cells → Source s t g page → page_for (pages_at s t) g ≡ suc page
  page-for-source r pos page l u (inl e) = page-for-partial r pos page l (record { owner = e; part = u })
  page-for-source r pos page l u (inr e) = page-for-free page l e.0 e.1 e.2

-- ---- one page is changed

pub pages-changed : (s : Sizes) (t t' : List ℕ) (page o u : ℕ) → page < s.pages → owner_of s t' page ≡ o → used_of s t' page ≡ u
    → ((q : ℕ) → q < s.pages → (q ≡ page → ⊥) → SamePage s t t' q) → pages_at s t' ≡ set (pages_at s t) page record { owner = o; used = u }
pages-changed s t t' page o u l eo eu same =
    ext_get_or free_page (pages_at s t') (set (pages_at s t) page new) (pages-count s t' ∙ sym (length-set (pages_at s t) page new ∙ pages-count s t))
    (λ q m. let k : q < s.pages = omega (arith, pages-count s t') in page-there s t' q k ∙ at q k (ℕ_discrete q page))
  where
    new : Page
    new = record { owner = o; used = u }

    at : (q : ℕ) → q < s.pages → Dec (q ≡ page) → page_in s t' q ≡ get_or (set (pages_at s t) page new) q free_page
    at q k (yes e) =
        ap₂ (λ (x y : ℕ). record { owner = x; used = y }) (ap (owner_of s t') e ∙ eo) (ap (used_of s t') e ∙ eu)
        ∙ sym (ap (λ (i : ℕ). get_or (set (pages_at s t) page new) i free_page) e ∙ get_or-set_same (pages_at s t) page new free_page (omega (arith, pages-count s t)))
    at q k (no n) =
        let b = same q k n in
        ap₂ (λ (x y : ℕ). record { owner = x; used = y }) b.owner b.used ∙ sym (get_or-set_other (pages_at s t) page q new free_page n ∙ page-there s t q k)

-- ---- the free pages

pub free-among : (s : Sizes) (t : List ℕ) → owned_in s t 0 s.pages ≡ free_among (pages_at s t)
unfolding free_among owned_one
free-among s t =
    sum_same _ _ s.pages (λ page l. sym (ap (λ (q : Page). bit (eqb q.owner 0)) (page-there s t page l)))
    ∙ ap (sum (λ i. bit (is_free (pages_at s t) i))) (sym (pages-count s t))

-- ---- the cell and the pages after it is taken are the rules'

module _ {s : Sizes} {t : List ℕ} {g cell n : ℕ} {t' : List ℕ} (r : Regular s t) (pos : 1 ≤ g) (k : Took s t g cell n t') where
  pub took-page : page_for (pages_at s t) g ≡ suc (page_of cell)
  took-page = page-for-source s t g r pos (page_of cell) k.page (omega (arith, k.first)) k.source

  took-on : take (pages_at s t) g ≡ take_on (pages_at s t) g (page_of cell)
  took-on = ap (take_on (pages_at s t) g) (let z : page_for (pages_at s t) g - 1 ≡ page_of cell = omega (arith, took-page) in z)

  used-there : (nth_page (pages_at s t) (page_of cell)).used ≡ place_of cell
  used-there = ap (λ (q : Page). q.used) (page-there s t (page_of cell) k.page) ∙ k.first

  pub took-takes : (cell ≡ (take (pages_at s t) g).cell) × (pages_at s t' ≡ (take (pages_at s t) g).pages)
  unfolding take_on
  took-takes = (
    omega (arith, used-there, ap (λ (x : Taken). x.cell) took-on),
    pages-changed s t t' (page_of cell) g (place_of cell + 1) k.page k.owner k.used (page-past k)
        ∙ sym (ap (λ (x : Taken). x.pages) took-on ∙ ap (λ (u : ℕ). set (pages_at s t) (page_of cell) record { owner = g; used = u + 1 }) used-there),
  )

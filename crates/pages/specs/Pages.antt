-- The page that a region's next object goes to, and the words after it took its cell there.
use Rattle.std.specs.Prelude.{◌≡◌, ◌≢◌, ◌⊎◌, List, Bool, true, eqb, ℕ, ◌+◌, ◌-◌, ◌≤◌, ◌<◌, set, Option, unwrap_or}
use Rattle.std.proofs.Common.{sym, ap, ◌∙◌, subst, inl, inr, eqb-true, arith}
use Rattle.std.proofs.Math.Decide.{dec_lt, ℕ_discrete}
use Rattle.lists.specs.Below.{upto}
use Rattle.rules.specs.Regions.{regions}
use Rattle.rules.specs.declared.Sizes.{Sizes}
use Rattle.layout.specs.Places.{owner_at, used_at, count_at, owner_of, used_of, count_of}
use Rattle.layout.specs.Cells.{page_cells, place_of}
use Rattle.promises.specs.Whole.{Partial}
use Rattle.promises.specs.Regular.{Regular}
use Rattle.promises.proofs.OwnedPages.{partly-filled}

-- the page that a search found; the number of pages if it found none
abbrev pub page_or : Sizes → Option ℕ → ℕ
page_or p found = unwrap_or found p.pages

-- the partly filled page of region g
pub record Partly (p : Sizes) (t : List ℕ) (g page : ℕ) : Type 0 where
  pub low : page < p.pages
  pub partial : Partial p t g page

-- where a page below n is free, the page given is one, and no free page below n has a higher number
abbrev pub NoneHigher : Sizes → List ℕ → ℕ → ℕ → Type 0
NoneHigher p t n page = (x : ℕ) → x < n → owner_of p t x ≡ 0 → (x ≤ page) × (page < p.pages)

-- g has no partly filled page below n; the page is the highest-numbered free one, the number of pages if none below n is free
pub record Fresh (p : Sizes) (t : List ℕ) (g n page : ℕ) : Type 0 where
  pub none : (x : ℕ) → x < n → owner_of p t x ≡ g → page_cells ≤ used_of p t x
  pub some : NoneHigher p t n page
  pub free : page < p.pages → owner_of p t page ≡ 0
  pub within : page ≤ p.pages

abbrev pub Found : Sizes → List ℕ → ℕ → ℕ → Type 0
Found p t g page = Partly p t g page ⊎ Fresh p t g p.pages page

-- the highest-numbered free page below n, the number of pages if there is none
pub record Free (p : Sizes) (t : List ℕ) (n page : ℕ) : Type 0 where
  pub some : NoneHigher p t n page
  pub free : page < p.pages → owner_of p t page ≡ 0
  pub within : page ≤ p.pages

-- the page of the next object is a page or the number of pages
pub found_within : {p : Sizes} {t : List ℕ} {g page : ℕ} → Found p t g page → page ≤ p.pages
found_within (inl f) = omega (arith, f.low)
found_within (inr f) = f.within

-- whether so many objects fill their pages
abbrev pub fills_pages : ℕ → Bool
fills_pages n = eqb (place_of n) 0

-- a region whose objects fill their pages has no partly filled page
abbrev pub Filled : Sizes → List ℕ → ℕ → Type 0
Filled p t g = fills_pages (count_of p t g) ≡ true → (page : ℕ) → page < p.pages → Partial p t g page → ⊥

pub regular-filled : {p : Sizes} {t : List ℕ} → Regular p t → (g : ℕ) → 1 ≤ g → g ≤ regions p → Filled p t g
regular-filled r g pos low full page l u = partly-filled r g pos page l u (ap place_of (sym (r.counts g pos low)) ∙ eqb-true _ 0 full)

-- the tables after an object of region g took the first unused cell of a page
abbrev pub taken : Sizes → List ℕ → ℕ → ℕ → List ℕ
taken p t page g = set (set (set t (owner_at p page) g) (used_at p page) (used_of p t page + 1)) (count_at p g) (count_of p t g + 1)

-- ---- a page for a new object

-- no page from n on and below high is free
abbrev pub NoneFrom : Sizes → List ℕ → ℕ → ℕ → Type 0
NoneFrom p t n high = (x : ℕ) → n ≤ x → x < high → owner_of p t x ≡ 0 → ⊥

pub none_from : (p : Sizes) (t : List ℕ) {n high : ℕ} → 0 < n → (owner_of p t (n - 1) ≡ 0 → ⊥) → NoneFrom p t n high → NoneFrom p t (n - 1) high
none_from p t {n} pos used none x l m e = go (ℕ_discrete x (n - 1))
  where
    go : Dec (x ≡ n - 1) → ⊥
    go (yes d) = used (subst (λ (y : ℕ). owner_of p t y ≡ 0) d e)
    go (no d) = none x (omega arith) m e

pub free-found : (p : Sizes) (t : List ℕ) {n high : ℕ} → 0 < n → n ≤ high → high ≤ p.pages → owner_of p t (n - 1) ≡ 0 → NoneFrom p t n high → Free p t high (n - 1)
free-found p t {n} {high} pos l h e none = record { some = λ x m d. (go x m d (dec_lt x n), omega arith); free = λ k. e; within = omega arith }
  where
    go : (x : ℕ) → x < high → owner_of p t x ≡ 0 → Dec (x < n) → x ≤ n - 1
    go x m d (yes k) = omega arith
    go x m d (no k) = absurd (none x (omega arith) m d)

pub free-none : {p : Sizes} {t : List ℕ} {n high : ℕ} → n ≤ 0 → NoneFrom p t n high → Free p t high p.pages
free-none {p} {t} {n} {high} z none =
    record { some = λ x l e. absurd (none x (omega arith) l e); free = λ l. absurd (let f : ⊥ = omega arith in f); within = omega arith }

-- none is free from the bound on
pub free_all : {p : Sizes} {t : List ℕ} {n page : ℕ} → NoneFrom p t n p.pages → Free p t n page → Free p t p.pages page
free_all {p} {t} {n} {page} none h = record { some = λ x l e. go x l e (dec_lt x n); free = h.free; within = h.within }
  where
    go : (x : ℕ) → x < p.pages → owner_of p t x ≡ 0 → Dec (x < n) → (x ≤ page) × (page < p.pages)
    go x l e (yes m) = h.some x m e
    go x l e (no m) = absurd (none x (omega arith) l e)

pub fresh-filled : (p : Sizes) (t : List ℕ) (g : ℕ) {page : ℕ} → Filled p t g → fills_pages (count_of p t g) ≡ true → Free p t p.pages page → Found p t g page
fresh-filled p t g none full h =
    inr (record {
      none = λ x l e. go x l e (dec_lt (used_of p t x) page_cells);
      some = h.some;
      free = h.free;
      within = h.within;
    })
  where
    go : (x : ℕ) → x < p.pages → owner_of p t x ≡ g → Dec (used_of p t x < page_cells) → page_cells ≤ used_of p t x
    go x l e (yes u) = absurd (none full x l (record { owner = e; part = u }))
    go x l e (no u) = omega arith

-- ---- a turn of the search

pub fresh_start : (p : Sizes) (t : List ℕ) (g : ℕ) → Fresh p t g 0 p.pages
fresh_start p t g =
    record {
      none = λ x l. absurd (let z : ⊥ = omega arith in z);
      some = λ x l. absurd (let z : ⊥ = omega arith in z);
      free = λ l. absurd (let z : ⊥ = omega arith in z);
      within = omega arith;
    }

-- past a page that is not g's, or is full; w is its owner as the code read it
pub fresh-next : {p : Sizes} {t : List ℕ} {g n page page' : ℕ} (w : ℕ) → w ≡ owner_of p t n → n < p.pages → (w ≡ g → page_cells ≤ used_of p t n)
    → ((w ≡ 0) × (page' ≡ n)) ⊎ ((w ≢ 0) × (page' ≡ page)) → Fresh p t g n page → Fresh p t g (n + 1) page'
fresh-next {p} {t} {g} {n} {page} {page'} w is low full (inl e) h =
    record {
      none = upto n {X = λ x. owner_of p t x ≡ g → page_cells ≤ used_of p t x} h.none (λ z. full (is ∙ z));
      some = λ x l z. (omega (arith, e.1), omega (arith, e.1));
      free = λ l. subst (λ (x : ℕ). owner_of p t x ≡ 0) (sym e.1) (sym is ∙ e.0);
      within = omega (arith, e.1);
    }
fresh-next {p} {t} {g} {n} {page} {page'} w is low full (inr e) h =
    subst (λ (x : ℕ). Fresh p t g (n + 1) x) (sym e.1)
    (record {
      none = upto n {X = λ x. owner_of p t x ≡ g → page_cells ≤ used_of p t x} h.none (λ z. full (is ∙ z));
      some = upto n {X = λ x. owner_of p t x ≡ 0 → (x ≤ page) × (page < p.pages)} h.some (λ z. absurd (e.0 (is ∙ z)));
      free = h.free;
      within = h.within;
    })

-- the three stores one after the other, with the words as the code has them
pub took : (p : Sizes) (t : List ℕ) (page : ℕ) {t₁ t₂ t₃ : List ℕ} {g n used objects : ℕ} → n ≡ g → used ≡ used_of p t page → objects ≡ count_of p t n
    → t₁ ≡ set t (owner_at p page) g → t₂ ≡ set t₁ (used_at p page) (used + 1) → t₃ ≡ set t₂ (count_at p n) (objects + 1) → t₃ ≡ taken p t page g
took p t page {t₁} {t₂} {t₃} {g} {n} {used} {objects} en eu eo e₁ e₂ e₃ =
    e₃ ∙ ap (λ (l : List ℕ). set l (count_at p n) (objects + 1)) (e₂ ∙ ap (λ (l : List ℕ). set l (used_at p page) (used + 1)) e₁)
    ∙ ap (λ (u : ℕ). set (set (set t (owner_at p page) g) (used_at p page) (u + 1)) (count_at p n) (objects + 1)) eu
    ∙ ap (λ (k : ℕ). set (set (set t (owner_at p page) g) (used_at p page) (used_of p t page + 1)) (count_at p n) (k + 1)) eo
    ∙ ap (λ (k : ℕ). set (set (set t (owner_at p page) g) (used_at p page) (used_of p t page + 1)) (count_at p k) (count_of p t k + 1)) en

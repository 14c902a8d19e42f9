-- Pages and counts as whole tables have them, also where the regions of the pages need not be open.
use Rattle.std.specs.Prelude.{ℕ, ◌≤◌, ◌<◌, ◌≡◌, List, Bool, cond, eqb}
use Rattle.std.proofs.Common.{arith, sym, ap, ap₂, ◌∙◌, eq-eqb, ne_eqb}
use Rattle.std.proofs.Math.Decide.{dec_lt}
use Rattle.std.proofs.Math.Logic.{by_cases}
use Rattle.lists.specs.Counting.{sum_same}
use Rattle.lists.specs.Listed.{listed_same}
use Rattle.rules.specs.declared.Sizes.{Sizes}
use Rattle.rules.specs.Regions.{regions}
use Rattle.layout.specs.Places.{owner_of, used_of, count_of}
use Rattle.layout.specs.Words.{Words, tables_only, page_in, pages_at}
use Rattle.promises.specs.Whole.{PageFilled, Partial, objects_on, objects_of, OnePartial, CountsWhole, WholeFor}

pub record Regular (s : Sizes) (t : List ℕ) : Type 0 where
  pub pages : (page : ℕ) → page < s.pages → PageFilled s t page
  pub partial : OnePartial s (tables_only t)
  pub counts : CountsWhole s (tables_only t)

pub whole-regular : {s : Sizes} {w : Words} → WholeFor s w → Regular s w.tables
whole-regular k = record { pages = λ page l. (k.pages page l).filled; partial = k.partial; counts = k.counts }

-- two partly filled pages of a region are one
pub one : {s : Sizes} {t : List ℕ} {g a b : ℕ} → Regular s t → 1 ≤ g → a < s.pages → b < s.pages → Partial s t g a → Partial s t g b → a ≡ b
one {a = a} {b} r pos l m x y =
    by_cases (dec_lt a b) (λ h. absurd (r.partial _ pos a b h m x y)) (λ h. by_cases (dec_lt b a) (λ d. absurd (r.partial _ pos b a d l y x)) (λ d. omega arith))

-- ---- the objects of a page

pub objects-yes : (s : Sizes) (t : List ℕ) (g page : ℕ) → owner_of s t page ≡ g → objects_on s t g page ≡ used_of s t page
objects-yes s t g page e = ap (λ (b : Bool). cond b (used_of s t page) 0) (eq-eqb (owner_of s t page) g e)

pub objects-no : (s : Sizes) (t : List ℕ) (g page : ℕ) → (owner_of s t page ≡ g → ⊥) → objects_on s t g page ≡ 0
objects-no s t g page n = ap (λ (b : Bool). cond b (used_of s t page) 0) (ne_eqb (owner_of s t page) g n)

-- ---- pages whose words are the same

pub record SamePage (s : Sizes) (t t' : List ℕ) (page : ℕ) : Type 0 where
  pub owner : owner_of s t' page ≡ owner_of s t page
  pub used : used_of s t' page ≡ used_of s t page

-- so the rules' pages are
pub pages-alike : (s : Sizes) (t t' : List ℕ) → ((page : ℕ) → page < s.pages → SamePage s t t' page) → pages_at s t' ≡ pages_at s t
unfolding pages_at
pages-alike s t t' same =
    listed_same (page_in s t') (page_in s t) s.pages (λ q l. ap₂ (λ (x y : ℕ). record { owner = x; used = y }) (same q l).owner (same q l).used)

module _ {s : Sizes} {t t' : List ℕ} {page : ℕ} (e : SamePage s t t' page) where
  pub filled-same : PageFilled s t page → PageFilled s t' page
  filled-same o =
      record {
        free = λ z. e.used ∙ o.free (sym e.owner ∙ z);
        taken = λ z. omega (arith, e.used, o.taken (omega (arith, e.owner)));
        cells = omega (arith, e.used, o.cells);
      }

  pub partial-same : {g : ℕ} → Partial s t' g page → Partial s t g page
  partial-same x = record { owner = sym e.owner ∙ x.owner; part = omega (arith, x.part, e.used) }

  pub on_same : (g : ℕ) → objects_on s t' g page ≡ objects_on s t g page
  on_same g = ap₂ (λ (o u : ℕ). cond (eqb o g) u 0) e.owner e.used

module _ {s : Sizes} {t t' : List ℕ} (e : (page : ℕ) → page < s.pages → SamePage s t t' page) where
  pub objects-same : (g : ℕ) → objects_of s t' g ≡ objects_of s t g
  objects-same g = sum_same (objects_on s t' g) (objects_on s t g) s.pages (λ page l. on_same (e page l) g)

  pub regular-same : ((g : ℕ) → 1 ≤ g → g ≤ regions s → count_of s t' g ≡ count_of s t g) → Regular s t → Regular s t'
  regular-same c r =
      record {
        pages = λ page l. filled-same (e page l) (r.pages page l);
        partial = λ g pos a b l m x y. r.partial g pos a b l m (partial-same (e a (omega arith)) x) (partial-same (e b m) y);
        counts = λ g pos low. c g pos low ∙ r.counts g pos low ∙ sym (objects-same g);
      }

-- A region of n objects owns n / 16 pages, rounded up, and the pages that no region owns are the rules' free pages.
use Prim.Native.Nat.{ℕ, zero, suc, ◌+◌, ◌-◌, ◌*◌, ◌^◌, ◌≤◌, ◌<◌}
use native.Mathlib.Omega.{arith}
use Rattle.std.proofs.Common.{div-lt_iff_lt-mul, ap₂, ◌∙◌, lt-ltb, eq-eqb, ne_eqb, ltb-true}
use Rattle.std.proofs.Math.Decide.{dec_lt, ℕ_discrete}
use Rattle.std.proofs.Math.Logic.{by_cases}
use Rattle.std.specs.Prelude.{◌≡◌, List, Bool, ltb, eqb}
use Rattle.std.proofs.Math.Path.{refl, sym, ap}
use Rattle.std.proofs.Math.Bool.{true, false, cond}
use Rattle.lists.specs.Counting.{bit, bit-le-one, sum, count, positive, sum_same, sum-none, sum-high, sum-part, sum-pos, sum-blocks, sum_first, count-owners}
use Rattle.lists.specs.Pigeonhole.{no-two}
use Rattle.lists.specs.Tests.{cond-zero}
use Rattle.rules.specs.declared.Sizes.{Sizes}
use Rattle.rules.specs.Regions.{regions}
use Rattle.rules.specs.Graph.{pages_of, objects_in, free_pages}
use Rattle.rules.specs.Rules.{Regioned, graph}
use Rattle.laws.specs.Counters.{living, living-regions}
use Rattle.layout.specs.Places.{owner_of, used_of, count_of}
use Rattle.layout.specs.Cells.{page_cells, page_of, place_of, cell_on, page-on}
use Rattle.layout.specs.Words.{Words, owner_in, used_in, home_in, graph_of, home_at, cell_count}
use Rattle.layout.specs.Objects.{begins_at, begins-on}
use Rattle.promises.specs.Whole.{WholeFor, Open, Partial, objects_on, objects_of, live_of}
use Rattle.promises.specs.Regular.{Regular, whole-regular, objects-yes, objects-no, SamePage}
use Rattle.promises.specs.StandsFor.{StandsFor}
use Rattle.promises.specs.Agreed.{free-agree}

-- 1 for a page of g, and the pages of g among the first n; the free pages are those of 0
unfoldable pub owned_one : Sizes → List ℕ → ℕ → ℕ → ℕ
owned_one p t g page = bit (eqb (owner_of p t page) g)

abbrev pub owned_in : Sizes → List ℕ → ℕ → ℕ → ℕ
owned_in p t g n = sum (owned_one p t g) n

-- all pages of region q
abbrev pub pages_owned : Sizes → Words → ℕ → ℕ
pages_owned s w q = owned_in s w.tables q s.pages

module _ (p : Sizes) (t : List ℕ) (g page : ℕ) where
  pub owned-yes : owner_of p t page ≡ g → 1 ≡ owned_one p t g page
  unfolding owned_one
  owned-yes e = sym (ap bit (eq-eqb (owner_of p t page) g e))

  pub owned-no : (owner_of p t page ≡ g → ⊥) → 0 ≡ owned_one p t g page
  unfolding owned_one
  owned-no n = sym (ap bit (ne_eqb (owner_of p t page) g n))

  pub owned-is : 0 < owned_one p t g page → owner_of p t page ≡ g
  owned-is h = by_cases (ℕ_discrete (owner_of p t page) g) (λ e. e) (λ n. absurd (let z : ⊥ = omega (arith, owned-no n) in z))

  pub owned-le : owned_one p t g page ≤ 1
  unfolding owned_one
  owned-le = bit-le-one (eqb (owner_of p t page) g)

pub owned-few : (p : Sizes) (t : List ℕ) (g n : ℕ) → owned_in p t g n ≤ n
owned-few p t g n = omega (arith, sum-high (owned_one p t g) 1 n (λ page l. owned-le p t g page))

pub owned-same : {p : Sizes} {t t' : List ℕ} {page : ℕ} → SamePage p t t' page → (g : ℕ) → owned_one p t' g page ≡ owned_one p t g page
unfolding owned_one
owned-same e g = ap (λ (o : ℕ). bit (eqb o g)) e.owner

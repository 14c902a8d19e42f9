-- The page that a region's next object goes to, and the pages that one more object uses.
use Rattle.std.specs.Prelude.{◌≡◌, ◌⊎◌, List, ℕ, ◌+◌, ◌≤◌, ◌<◌}
use Rattle.std.proofs.Common.{sym, subst, inl, inr, arith}
use Rattle.std.proofs.Math.Decide.{ℕ_discrete}
use Rattle.lists.specs.Counting.{sum-change, sum-pos}
use Rattle.rules.specs.Graph.{pages_of}
use Rattle.rules.specs.declared.Sizes.{Sizes}
use Rattle.layout.specs.Places.{Room, owner_of, used_of}
use Rattle.layout.specs.Cells.{page_of, place_of, page_cells}
use Rattle.promises.specs.Whole.{Partial, objects_of}
use Rattle.promises.specs.Regular.{Regular}
use Rattle.promises.specs.OwnedPages.{owned_one, owned_in, owned-yes, owned-no, owned-is, owned-same}
use Rattle.promises.proofs.OwnedPages.{owned, some-partly}
use Rattle.promises.specs.TakeCell.{Source, Took}
use Rattle.promises.proofs.TakeCell.{page-past, took-regular}
use Rattle.pages.specs.Pages.{Found}

-- g has a page with room, or there is a free page
pub record Usable (p : Sizes) (g : ℕ) (T : List ℕ) : Type 0 where
  pub at : ℕ
  pub low : at < p.pages
  pub why : (owner_of p T at ≡ 0) ⊎ Partial p T g at

-- page q is the one that the next object of g goes to, and has room
pub record Next (p : Sizes) (g q : ℕ) (T : List ℕ) : Type 0 where
  pub low : q < p.pages
  pub found : Found p T g q
  pub part : used_of p T q < page_cells

pub usable : {p : Sizes} {T : List ℕ} → Regular p T → (g : ℕ) → 1 ≤ g → (m : ℕ) → 1 ≤ m
    → pages_of (objects_of p T g + m) ≤ pages_of (objects_of p T g) + owned_in p T 0 p.pages → Usable p g T
usable {p} {T} r g real m pos le = go (ℕ_discrete (place_of (objects_of p T g)) 0)
  where
    go : Dec (place_of (objects_of p T g) ≡ 0) → Usable p g T
    go (yes e) = let s = sum-pos (owned_one p T 0) p.pages (omega arith) in record { at = s.0; low = s.1; why = inl (owned-is p T 0 s.0 s.2) }
    go (no n) = let s = some-partly r g real n in record { at = s.0; low = s.1; why = inr s.2 }

-- taking a cell uses exactly the pages that one more object needs
pub took-needs : {p : Sizes} {T : List ℕ} {g c n : ℕ} {T' : List ℕ} → Regular p T → 1 ≤ g → Took p T g c n T'
    → pages_of (objects_of p T' g) + owned_in p T' 0 p.pages ≡ pages_of (objects_of p T g) + owned_in p T 0 p.pages
took-needs {p} {T} {g} {c} {n} {T'} r real t = omega (arith, both t.source, owned r g real, owned (took-regular r t real) g real)
  where
    q : ℕ
    q = page_of c

    change : (h : ℕ) → owned_in p T' h p.pages + owned_one p T h q ≡ owned_in p T h p.pages + owned_one p T' h q
    change h = sum-change (owned_one p T' h) (owned_one p T h) q p.pages t.page (λ x l n. owned-same (page-past t x l n) h)

    -- g's pages and the free pages together stay
    both : Source p T g q → owned_in p T' g p.pages + owned_in p T' 0 p.pages ≡ owned_in p T g p.pages + owned_in p T 0 p.pages
    both (inl e) =
        omega (arith, change g, change 0, owned-yes p T' g q t.owner, owned-no p T' 0 q (λ z. omega (arith, t.owner)), owned-yes p T g q e, owned-no p T 0 q (λ z. omega arith))
    both (inr e) =
        omega (arith, change g, change 0, owned-yes p T' g q t.owner, owned-no p T' 0 q (λ z. omega (arith, t.owner)), owned-no p T g q (λ z. omega (arith, e.0)), owned-yes p T 0 q e.0)

-- the room stays where the length does
pub room-same : {p : Sizes} {m n : ℕ} → m ≡ n → Room p n → Room p m
room-same {p} e r = subst (λ (k : ℕ). Room p k) (sym e) r

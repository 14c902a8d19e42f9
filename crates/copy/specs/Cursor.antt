-- The page that a pass is at: the target's next object goes there while it has room, and else to the page that is found for it.
use Rattle.std.specs.Prelude.{◌≡◌, ◌⊎◌, List, ℕ, ◌≤◌, ◌<◌, length}
use Rattle.std.proofs.Common.{sym, ◌∙◌, inl, inr, ⊎_elim, arith}
use Rattle.std.proofs.Math.Decide.{dec_lt}
use Rattle.rules.specs.declared.Sizes.{Sizes}
use Rattle.rules.specs.Regions.{regions}
use Rattle.layout.specs.Places.{Room, owner_of, used_of}
use Rattle.layout.specs.Cells.{page_of, page_cells}
use Rattle.pages.specs.Pages.{Found}
use Rattle.promises.specs.Regular.{Regular, SamePage}
use Rattle.promises.specs.Whole.{Partial}
use Rattle.promises.specs.TakeCell.{Took}
use Rattle.copy.specs.Taking.{Usable, Next}

-- page q has no room
pub record Full (p : Sizes) (T : List ℕ) (q : ℕ) : Type 0 where
  pub low : q < p.pages
  pub full : page_cells ≤ used_of p T q

abbrev pub Points : (p : Sizes) (T : List ℕ) (g page : ℕ) → Type 0
Points p T g page = Found p T g page ⊎ Full p T page

-- the pass is at this page, and one more object of g finds a page
pub record Seeking (p : Sizes) (g : ℕ) (T : List ℕ) (page : ℕ) : Type 0 where
  pub room : Room p (length T)
  pub regular : Regular p T
  pub real : 1 ≤ g
  pub low : g ≤ regions p
  pub usable : Usable p g T
  pub points : Points p T g page

pub found-next : {p : Sizes} {T : List ℕ} {g page : ℕ} → Regular p T → Usable p g T → Found p T g page → Next p g page T
found-next r u (inl h) = record { low = h.low; found = inl h; part = h.partial.part }
found-next {p} {T} {g} {page} r u (inr h) = go u.why
  where
    go : (owner_of p T u.at ≡ 0) ⊎ Partial p T g u.at → Next p g page T
    go (inl z) =
        let l : page < p.pages = (h.some u.at u.low z).1 in
        record { low = l; found = inr h; part = omega (arith, (r.pages page l).free (h.free l)) }
    go (inr z) = absurd (let y : ⊥ = omega (arith, z.part, h.none u.at u.low z.owner) in y)

module _ {p : Sizes} {T : List ℕ} {g page : ℕ} (a : Seeking p g T page) where
  pub points-low : page < p.pages
  points-low = ⊎_elim (λ h. (found-next a.regular a.usable h).low) (λ h. h.low) a.points

  -- the page has room
  pub points-next : used_of p T page < page_cells → Next p g page T
  points-next l = ⊎_elim (found-next a.regular a.usable) (λ h. absurd (let z : ⊥ = omega (arith, h.full) in z)) a.points

-- after a cell of the page is taken
pub took-points : {p : Sizes} {T : List ℕ} {g c n : ℕ} {T' : List ℕ} → Took p T g c n T' → Points p T' g (page_of c)
took-points {p} {T} {g} {c} {n} {T'} t = at (dec_lt (used_of p T' (page_of c)) page_cells)
  where
    at : Dec (used_of p T' (page_of c) < page_cells) → Points p T' g (page_of c)
    at (yes m) = inl (inl (record { low = t.page; partial = record { owner = t.owner; part = m } }))
    at (no m) = inr (record { low = t.page; full = omega arith })

-- pages that stay
pub points-same : {p : Sizes} {g page : ℕ} {T T' : List ℕ} → ((x : ℕ) → x < p.pages → SamePage p T T' x) → Points p T g page → Points p T' g page
points-same {p} {g} {page} {T} {T'} e = ⊎_elim (λ h. inl (found' h)) (λ h. inr (record { low = h.low; full = omega (arith, (e page h.low).used, h.full) }))
  where
    found' : Found p T g page → Found p T' g page
    found' (inl h) =
        let b = e page h.low in
        inl (record { low = h.low; partial = record { owner = b.owner ∙ h.partial.owner; part = omega (arith, b.used, h.partial.part) } })
    found' (inr h) =
        inr (record {
          none = λ x l z. omega (arith, (e x l).used, h.none x l (sym (e x l).owner ∙ z));
          some = λ x l z. h.some x l (sym (e x l).owner ∙ z);
          free = λ l. (e page l).owner ∙ h.free l;
          within = h.within;
        })

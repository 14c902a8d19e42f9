-- The survivors of a collection have in word 1 the references to their places on the control space's own pages. So each object that lives on has a
-- cell: the one that it had outside the control space, and a survivor its place.
use Rattle.std.specs.Prelude.{◌≡◌, ◌≢◌, ◌⊎◌, List, ℕ, ◌/◌, ◌%◌, ◌<◌, length, get_or}
use Rattle.std.proofs.Common.{sym, ap, subst, ◌∙◌, inl, inr, ⊎_elim, add-one, arith}
use Rattle.std.proofs.Math.Decide.{ℕ_discrete, dec_lt}
use Rattle.lists.specs.Part.{Off, Lists}
use Rattle.rules.specs.declared.Sizes.{Sizes}
use Rattle.rules.specs.Regions.{control}
use Rattle.laws.specs.Collected.{kept_target}
use Rattle.laws.specs.RulesLaws.{control-pos}
use Rattle.layout.specs.Places.{Room}
use Rattle.layout.specs.Cells.{work_at, work_of, page_of, place_of, page_cells}
use Rattle.layout.specs.Objects.{begins-page}
use Rattle.layout.specs.Words.{Words, owner_in, graph_of}
use Rattle.promises.specs.Whole.{WholeFor}
use Rattle.promises.specs.Ends.{Part, part_of, Outside, Survivor, Lives, lives-how}
use Rattle.mark.specs.Survivors.{Marked}
use Rattle.mark.specs.MarkedWords.{marked-survivor, unlisted, outside-work}
use Rattle.slide.specs.Ranks.{rank, new_place, KeptCell, MarksListed, seek, place-listed, place-page, place-place, place-in, place-rises, rank_below}
use Rattle.slide.specs.Numbered.{Numbered}
use Rattle.ended.specs.Living.{KeepsNamed, region-keeps}
use Rattle.ending.specs.Copied.{placed, placed-still, placed-moved}

-- the part that a collection ends and keeps
abbrev pub space : Sizes → Words → Part
space s w = part_of s w control

-- w is whole, and what a collection keeps of it is marked in w₁
pub record Keeping (s : Sizes) (w w₁ : Words) : Type 0 where
  pub whole : WholeFor s w
  pub room : Room s (length w.tables)
  pub marks : Marked s w (space s w) w₁

-- and the first n of l are the pages of the control space, and the K survivors are numbered in W₂
pub record Numbering (s : Sizes) (w w₁ : Words) (n : ℕ) (l W₂ : List ℕ) (K : ℕ) : Type 0 where
  pub keeping : Keeping s w w₁
  pub list : Lists (λ page. owner_in s w page ≡ control) s.pages n l
  pub numbered : Numbered s l w₁.tables w₁.cells W₂ K

module _ {s : Sizes} {w w₁ : Words} {n : ℕ} {l W₂ : List ℕ} {K : ℕ} (a : Numbering s w w₁ n l W₂ K) where
  pub keeps : KeepsNamed s w (space s w)
  keeps = region-keeps s w a.keeping.whole control control-pos

  pub marks-listed : MarksListed s n l w₁.tables
  marks-listed = record { rises = a.list.rises; small = a.keeping.marks.small; none = unlisted a.keeping.marks a.list }

  -- a page is listed, or another region's
  pub which : (page : ℕ) → page < s.pages → ((j : ℕ) × (j < n) × (get_or l j 0 ≡ page)) ⊎ (owner_in s w page ≢ control)
  which page low = go (ℕ_discrete (owner_in s w page) control) (seek l n page)
    where
      go : Dec (owner_in s w page ≡ control) → ((j : ℕ) × (j < n) × (get_or l j 0 ≡ page)) ⊎ Off l n page → ((j : ℕ) × (j < n) × (get_or l j 0 ≡ page)) ⊎ (owner_in s w page ≢ control)
      go (no z) d = inr z
      go (yes e) (inl q) = inl q
      go (yes e) (inr off) = absurd (a.list.all page low e off)

  -- and not both
  pub other-page : (page : ℕ) → owner_in s w page ≢ control → (j : ℕ) → j < n → get_or l j 0 ≢ page
  other-page page z j h e = z (ap (owner_in s w) (sym e) ∙ a.list.each j h)

  pub survivor-kept : (c : ℕ) → Survivor s w (space s w) c → KeptCell s w₁.tables c
  survivor-kept c v = (begins-page s w.cells w.tables c v.used, a.keeping.marks.survives c v.used v.within v.goes)

  pub kept-survivor : (c : ℕ) → KeptCell s w₁.tables c → Survivor s w (space s w) c
  kept-survivor c k = marked-survivor a.keeping.marks c k.0 k.1

  -- survivors stay in the control space
  pub survivor-goes : (c : ℕ) → Survivor s w (space s w) c → (space s w).goes c ≡ control
  survivor-goes c v = kept_target s (graph_of s w) c v.goes

  module _ (c : ℕ) (o : Outside s w (space s w) c) where
    pub outside-idle : work_of W₂ c ≡ 0
    outside-idle =
        a.numbered.same (work_at c)
        (λ d k z. o.out (subst (λ (x : ℕ). owner_in s w (page_of x) ≡ control) (let q : d ≡ c = omega arith in q) (kept-survivor d k).within))
        ∙ outside-work a.keeping.marks a.keeping.whole c o

    pub outside-still : placed W₂ c ≡ c
    outside-still = placed-still W₂ c outside-idle

  -- the place of a survivor
  abbrev pub place_for : ℕ → ℕ
  place_for c = new_place s l w₁.tables c

  module _ (c : ℕ) (v : Survivor s w (space s w) c) where
    pub survivor-placed : placed W₂ c ≡ place_for c
    survivor-placed = placed-moved W₂ c (place_for c) (a.numbered.kept c (survivor-kept c v) ∙ add-one (place_for c))

    abbrev pub number : ℕ
    number = rank s w₁.tables c

    pub page-listed : number / page_cells < n
    page-listed = place-listed marks-listed c (survivor-kept c v)

    pub page-is : page_of (place_for c) ≡ get_or l (number / page_cells) 0
    page-is = place-page marks-listed c (survivor-kept c v)

    pub place_is : place_of (place_for c) ≡ number % page_cells
    place_is = place-place marks-listed c (survivor-kept c v)

    pub page-low : page_of (place_for c) < s.pages
    page-low = place-in marks-listed c (survivor-kept c v)

    pub number-low : number < K
    number-low = omega (arith, rank_below marks-listed c (survivor-kept c v), a.numbered.count)

    -- it is on a page of the control space
    pub page-own : owner_in s w (page_of (place_for c)) ≡ control
    page-own = ap (owner_in s w) page-is ∙ a.list.each (number / page_cells) page-listed

  -- what holds of the cells of both kinds
  pub by_kind : (X : ℕ → Type 0) (c : ℕ) → (Outside s w (space s w) c → X c) → (Survivor s w (space s w) c → X (place_for c)) → Lives s w (space s w) c → X (placed W₂ c)
  by_kind X c f g q = ⊎_elim (λ o. subst X (sym (outside-still c o)) (f o)) (λ v. subst X (sym (survivor-placed c v)) (g v)) (lives-how q)

  survivors-apart : (b c : ℕ) → Survivor s w (space s w) b → Survivor s w (space s w) c → place_for b ≡ place_for c → b ≡ c
  survivors-apart b c u v e = go (dec_lt b c) (dec_lt c b)
    where
      go : Dec (b < c) → Dec (c < b) → b ≡ c
      go (yes h) d = absurd (let z : ⊥ = omega (arith, place-rises marks-listed c (survivor-kept c v) b (survivor-kept b u).1 h) in z)
      go (no h) (yes d) = absurd (let z : ⊥ = omega (arith, place-rises marks-listed b (survivor-kept b u) c (survivor-kept c v).1 d) in z)
      go (no h) (no d) = omega arith

  -- no two objects that live on have one cell
  pub placed-apart : (b c : ℕ) → Lives s w (space s w) b → Lives s w (space s w) c → placed W₂ b ≡ placed W₂ c → b ≡ c
  placed-apart b c k m z = go (lives-how k) (lives-how m)
    where
      go : Outside s w (space s w) b ⊎ Survivor s w (space s w) b → Outside s w (space s w) c ⊎ Survivor s w (space s w) c → b ≡ c
      go (inl o) (inl q) = sym (outside-still b o) ∙ z ∙ outside-still c q
      go (inl o) (inr v) = absurd (o.out (ap (λ (x : ℕ). owner_in s w (page_of x)) (sym (outside-still b o) ∙ z ∙ survivor-placed c v) ∙ page-own c v))
      go (inr v) (inl o) = absurd (o.out (ap (λ (x : ℕ). owner_in s w (page_of x)) (sym (outside-still c o) ∙ sym z ∙ survivor-placed b v) ∙ page-own b v))
      go (inr u) (inr v) = survivors-apart b c u v (sym (survivor-placed b u) ∙ z ∙ survivor-placed c v)

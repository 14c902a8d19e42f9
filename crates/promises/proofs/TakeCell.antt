-- A region takes the first unused cell of its partly filled page or, if it has none, of the highest-numbered free page (02, W3): what becomes of
-- pages and counts.
use Rattle.std.specs.Prelude.{ℕ, suc, ◌+◌, ◌-◌, ◌≤◌, ◌<◌, ◌≡◌, refl, ◌⊎◌, List, [], ◌∷◌, length, get_or, set}
use Rattle.std.proofs.Common.{arith, sym, ap, subst, ◌∙◌, inl, inr, ⊎_elim, length-set}
use Rattle.std.proofs.Math.Decide.{ℕ_discrete}
use Rattle.std.proofs.Math.Logic.{by_cases}
use Rattle.lists.specs.Counting.{sum_same, sum-change}
use Rattle.lists.specs.Stores.{put, past}
use Rattle.rules.specs.declared.Sizes.{Sizes}
use Rattle.rules.specs.Regions.{regions}
use Rattle.layout.specs.Places.{owner_at, owner_of, used_at, used_of, count_at, count_of, made_at, made_of, count_room, used-is, count-is}
use Rattle.layout.specs.Cells.{page_of, place_of, cell_of, cell_on, page_cells, page-on, place-on}
use Rattle.layout.specs.Objects.{NotInUse, Covers, covers-cell, covers_low}
use Rattle.layout.specs.Words.{Words, InUse}
use Rattle.promises.specs.Whole.{Open, PageFilled, Partial, objects_on, objects_of, live_of, PagesWhole, WholeFor}
use Rattle.promises.specs.Regular.{Regular, whole-regular, one, objects-yes, objects-no, SamePage, filled-same, partial-same, on_same}
use Rattle.promises.specs.Changes.{with_tables}
use Rattle.promises.specs.Areas.{owner_words, used_words, count_words, made_words, Only, among-both, arrays-apart, tables-only, starts}
use Rattle.promises.proofs.Frames.{open-frame}
use Rattle.promises.specs.TakeCell.{Source, Took}

-- ---- the words after it: those of the page, then its used cells and the region's count

module _ (s : Sizes) (t : List ℕ) (g page : ℕ) (low : page < s.pages) (room : count_at s g < length t) (real : (1 ≤ g) × (g ≤ regions s)) where
  -- t₁ is t with the page's owner set, or t itself
  taken : (t₁ : List ℕ) (u : ℕ) → length t₁ ≡ length t → used_of s t page ≡ u → u < page_cells → Source s t g page → owner_of s t₁ page ≡ g → ((j : ℕ) → (j ≡ owner_at s page → ⊥) → get_or t₁ j 0 ≡ get_or t j 0)
      → Took s t g (cell_on page u) (made_of s t) (set (set t₁ (used_at s page) (u + 1)) (count_at s g) (count_of s t g + 1))
  taken t₁ u l₁ first few source o kept =
      let e : page_of (cell_on page u) ≡ page = page-on page u few in
      let f : place_of (cell_on page u) ≡ u = place-on page u few in
      let t₂ = set t₁ (used_at s page) (u + 1) in
      let l₂ : length t₂ ≡ length t = length-set t₁ (used_at s page) (u + 1) ∙ l₁ in
      record {
        page = omega arith;
        first = ap (used_of s t) e ∙ first ∙ sym f;
        source = subst (Source s t g) (sym e) source;
        long = length-set t₂ (count_at s g) (count_of s t g + 1) ∙ l₂;
        owner =
            ap (owner_of s (set t₂ (count_at s g) (count_of s t g + 1))) e
            ∙ past t₂ (count_at s g) (count_of s t g + 1) (owner_at s page) 0 (λ (z : owner_at s page ≡ count_at s g). omega (arith, count-is s))
            ∙ past t₁ (used_at s page) (u + 1) (owner_at s page) 0 (λ (z : owner_at s page ≡ used_at s page). omega (arith, used-is s)) ∙ o;
        used =
            ap (used_of s (set t₂ (count_at s g) (count_of s t g + 1))) e
            ∙ past t₂ (count_at s g) (count_of s t g + 1) (used_at s page) 0 (λ (z : used_at s page ≡ count_at s g). omega (arith, used-is s, count-is s))
            ∙ put t₁ (used_at s page) (u + 1) 0 (omega (arith, used-is s, count-is s)) ∙ omega arith;
        count = put t₂ (count_at s g) (count_of s t g + 1) 0 (omega arith);
        made =
            past t₂ (count_at s g) (count_of s t g + 1) (made_at s) 0 (λ (z : made_at s ≡ count_at s g). omega (arith, count_room s))
            ∙ past t₁ (used_at s page) (u + 1) (made_at s) 0 (λ (z : made_at s ≡ used_at s page). omega (arith, count_room s, count-is s, used-is s))
            ∙ kept (made_at s) (λ (z : made_at s ≡ owner_at s page). omega (arith, count_room s, count-is s));
        others = λ j a b c d. past t₂ (count_at s g) (count_of s t g + 1) j 0 c ∙ past t₁ (used_at s page) (u + 1) j 0 (λ (z : j ≡ used_at s page). b (omega arith)) ∙ kept j (λ (z : j ≡ owner_at s page). a (omega arith));
      }

  -- a cell of the region's own page
  pub took-own : owner_of s t page ≡ g → used_of s t page < page_cells
      → Took s t g (cell_on page (used_of s t page)) (made_of s t) (set (set t (used_at s page) (used_of s t page + 1)) (count_at s g) (count_of s t g + 1))
  took-own o few = taken t (used_of s t page) refl refl few (inl o) o (λ j n. refl)

  -- the first cell of the highest-numbered free page
  pub took-free : owner_of s t page ≡ 0 → used_of s t page ≡ 0 → ((q : ℕ) → q < s.pages → Partial s t g q → ⊥) → ((q : ℕ) → q < s.pages → owner_of s t q ≡ 0 → q ≤ page)
      → Took s t g (cell_on page 0) (made_of s t) (set (set (set t (owner_at s page) g) (used_at s page) 1) (count_at s g) (count_of s t g + 1))
  took-free o z none highest =
      taken (set t (owner_at s page) g) 0 (length-set t (owner_at s page) g) z (omega arith) (inr (o, none, highest)) (put t (owner_at s page) g 0 (omega (arith, count-is s))) (λ j. past t (owner_at s page) g j 0)

-- ---- what it leaves as it was

module _ {s : Sizes} {t : List ℕ} {g cell n : ℕ} {t' : List ℕ} (k : Took s t g cell n t') where
  pub page-past : (page : ℕ) → page < s.pages → (page ≡ page_of cell → ⊥) → SamePage s t t' page
  page-past page l d =
      record {
        owner =
            k.others (owner_at s page) (λ (e : owner_at s page ≡ owner_at s (page_of cell)). d (omega arith)) (λ (e : owner_at s page ≡ used_at s (page_of cell)). omega (arith, used-is s))
            (λ (e : owner_at s page ≡ count_at s g). omega (arith, count-is s)) (λ (e : owner_at s page ≡ made_at s). omega (arith, count_room s, count-is s));
        used =
            k.others (used_at s page) (λ (e : used_at s page ≡ owner_at s (page_of cell)). omega (arith, used-is s, k.page)) (λ (e : used_at s page ≡ used_at s (page_of cell)). d (omega arith))
            (λ (e : used_at s page ≡ count_at s g). omega (arith, used-is s, count-is s)) (λ (e : used_at s page ≡ made_at s). omega (arith, count_room s, used-is s, count-is s));
      }

  pub count_past : (q : ℕ) → 1 ≤ q → q ≤ regions s → 1 ≤ g → (q ≡ g → ⊥) → count_of s t' q ≡ count_of s t q
  count_past q a l b d =
      k.others (count_at s q) (λ (e : count_at s q ≡ owner_at s (page_of cell)). omega (arith, count-is s, k.page)) (λ (e : count_at s q ≡ used_at s (page_of cell)). omega (arith, used-is s, count-is s, k.page))
      (λ (e : count_at s q ≡ count_at s g). d (omega arith)) (λ (e : count_at s q ≡ made_at s). omega (arith, count_room s))

  -- ---- cells in use

  pub took-used : InUse s t' cell
  took-used = record { page = k.page; place = omega (arith, k.used) }

  pub took-unused : InUse s t cell → ⊥
  took-unused u = omega (arith, u.place, k.first)

  -- so with each of its words
  pub took-covers : (head q : ℕ) → Covers cell head q → InUse s t' (cell_of q)
  took-covers head q e = subst (InUse s t') (sym (covers-cell cell head q e)) took-used

  pub took-not-in-use : (head q : ℕ) → Covers cell head q → NotInUse s t q
  took-not-in-use head q e = record { low = covers_low s cell head q k.page e; unused = λ u. took-unused (subst (InUse s t) (covers-cell cell head q e) u) }

  pub still-used : (c : ℕ) → InUse s t c → InUse s t' c
  still-used c u =
      by_cases (ℕ_discrete (page_of c) (page_of cell))
      (λ e. record { page = u.page; place = omega (arith, u.place, k.first, k.used, ap (used_of s t) e, ap (used_of s t') e) })
      (λ d. record { page = u.page; place = omega (arith, u.place, (page-past (page_of c) u.page d).used) })

  pub used-split : (c : ℕ) → InUse s t' c → (c ≡ cell) ⊎ InUse s t c
  used-split c u =
      by_cases (ℕ_discrete c cell) inl (λ n. inr (by_cases (ℕ_discrete (page_of c) (page_of cell))
      (λ e. record { page = u.page; place = omega (arith, u.place, k.first, k.used, ap (used_of s t) e, ap (used_of s t') e) })
      (λ d. record { page = u.page; place = omega (arith, u.place, (page-past (page_of c) u.page d).used) })))

-- only owners, cells in use, counts and the counter of objects made change
pub took-only : (s : Sizes) (w : Words) (g cell n : ℕ) (t' : List ℕ) → Took s w.tables g cell n t' → 1 ≤ g → g ≤ regions s
    → Only (owner_words ∷ used_words ∷ count_words ∷ made_words ∷ []) s w (with_tables w t')
took-only s w g cell n t' k pos low =
    tables-only s w t' (owner_words ∷ used_words ∷ count_words ∷ made_words ∷ []) k.long
    (λ a n j x.
    let m = among-both a (owner_words ∷ []) (used_words ∷ count_words ∷ made_words ∷ []) n in
    let o = among-both a (used_words ∷ []) (count_words ∷ made_words ∷ []) m.1 in
    let q = among-both a (count_words ∷ []) (made_words ∷ []) o.1 in
    k.others j (arrays-apart s a owner_words j _ m.0 x (omega (arith, starts s, k.page))) (arrays-apart s a used_words j _ o.0 x (omega (arith, starts s, k.page)))
    (arrays-apart s a count_words j _ q.0 x (omega (arith, starts s))) (arrays-apart s a made_words j _ q.1 x (omega (arith, starts s))))
    (λ j l. k.others j (λ (e : j ≡ owner_at s (page_of cell)). omega (arith, k.page, count_room s, count-is s)) (λ (e : j ≡ used_at s (page_of cell)). omega (arith, k.page, count_room s, count-is s, used-is s))
    (λ (e : j ≡ count_at s g). omega (arith, count_room s)) (λ (e : j ≡ made_at s). omega (arith, count_room s)))

-- the objects of all regions are one more
pub took-live : (s : Sizes) (t : List ℕ) (g cell n : ℕ) (t' : List ℕ) → Took s t g cell n t' → 1 ≤ g → g ≤ regions s → live_of s t' ≡ live_of s t + 1
took-live s t g cell n t' k pos low =
    let e : suc (g - 1) ≡ g = omega arith in
    omega (
      arith,
      k.count,
      ap (count_of s t') e,
      ap (count_of s t) e,
      sum-change (λ i. count_of s t' (suc i)) (λ i. count_of s t (suc i)) (g - 1) (regions s) (omega arith) (λ i l d. count_past k (suc i) (omega arith) (omega arith) pos (λ (z : suc i ≡ g). d (omega arith))),
    )

-- the counter is set: a new object
pub took-made : {s : Sizes} {t : List ℕ} {g cell n : ℕ} (m : ℕ) {t' : List ℕ} → Took s t g cell n t' → 1 ≤ g → g ≤ regions s → made_at s < length t' → Took s t g cell m (set t' (made_at s) m)
took-made {s} {t} {g} {cell} {n} m {t'} k pos low long =
    let kept : (j : ℕ) → (j ≡ made_at s → ⊥) → get_or (set t' (made_at s) m) j 0 ≡ get_or t' j 0 = λ j. past t' (made_at s) m j 0 in
    record {
      page = k.page;
      first = k.first;
      source = k.source;
      long = length-set t' (made_at s) m ∙ k.long;
      owner = kept (owner_at s (page_of cell)) (λ (e : owner_at s (page_of cell) ≡ made_at s). omega (arith, k.page, count_room s, count-is s)) ∙ k.owner;
      used = kept (used_at s (page_of cell)) (λ (e : used_at s (page_of cell) ≡ made_at s). omega (arith, k.page, count_room s, count-is s, used-is s)) ∙ k.used;
      count = kept (count_at s g) (λ (e : count_at s g ≡ made_at s). omega (arith, count_room s)) ∙ k.count;
      made = put t' (made_at s) m 0 long;
      others = λ j a b c d. kept j d ∙ k.others j a b c d;
    }

-- ---- pages and counts are regular

module _ {s : Sizes} {t : List ℕ} {g cell n : ℕ} {t' : List ℕ} (r : Regular s t) (k : Took s t g cell n t') where
  -- the region of a cell that was in use
  pub owner-used : (c : ℕ) → InUse s t c → owner_of s t' (page_of c) ≡ owner_of s t (page_of c)
  owner-used c u =
      by_cases (ℕ_discrete (page_of c) (page_of cell))
      (λ e.
      let was : owner_of s t (page_of cell) ≡ g = ⊎_elim (λ o. o) (λ o. absurd (let z : ⊥ = omega (arith, u.place, (r.pages (page_of c) u.page).free (ap (owner_of s t) e ∙ o.0)) in z)) k.source in
      ap (owner_of s t') e ∙ k.owner ∙ sym was ∙ sym (ap (owner_of s t) e))
      (λ d. (page-past k (page_of c) u.page d).owner)

  module _ (pos : 1 ≤ g) where
    took-filled : (page : ℕ) → page < s.pages → PageFilled s t' page
    took-filled page l =
        by_cases (ℕ_discrete page (page_of cell))
        (λ e.
        let a : owner_of s t' page ≡ g = ap (owner_of s t') e ∙ k.owner in
        let b : used_of s t' page ≡ place_of cell + 1 = ap (used_of s t') e ∙ k.used in
        record { free = λ z. absurd (let q : ⊥ = omega arith in q); taken = λ z. omega arith; cells = omega arith })
        (λ d. filled-same (page-past k page l d) (r.pages page l))

    -- a page of another region that is partly filled was; of the region, only the cell's page is
    was-partial : (q page : ℕ) → page < s.pages → (q ≡ g → ⊥) → Partial s t' q page → Partial s t q page
    was-partial q page l n x = partial-same (page-past k page l (λ e. n (sym x.owner ∙ ap (owner_of s t') e ∙ k.owner))) x

    alone : (page : ℕ) → page < s.pages → Partial s t' g page → page ≡ page_of cell
    alone page l x =
        by_cases (ℕ_discrete page (page_of cell)) (λ e. e)
        (λ d. let y = partial-same (page-past k page l d) x in
        ⊎_elim (λ o. one r pos l k.page y (record { owner = o; part = omega (arith, k.first) })) (λ o. absurd (o.1 page l y)) k.source)

    took-partial : (q : ℕ) → 1 ≤ q → (a b : ℕ) → a < b → b < s.pages → Partial s t' q a → Partial s t' q b → ⊥
    took-partial q z a b l h x y =
        by_cases (ℕ_discrete q g)
        (λ e. omega (arith, alone a (omega arith) (subst (λ (i : ℕ). Partial s t' i a) e x), alone b h (subst (λ (i : ℕ). Partial s t' i b) e y)))
        (λ n. r.partial q z a b l h (was-partial q a (omega arith) n x) (was-partial q b h n y))

    -- the objects on the cell's page
    on-page : Source s t g (page_of cell) → objects_on s t' g (page_of cell) ≡ objects_on s t g (page_of cell) + 1
    on-page (inl o) = omega (arith, k.first, k.used, objects-yes s t' g (page_of cell) k.owner, objects-yes s t g (page_of cell) o)
    on-page (inr o) =
        omega (
          arith,
          k.first,
          k.used,
          objects-yes s t' g (page_of cell) k.owner,
          (r.pages (page_of cell) k.page).free o.0,
          objects-no s t g (page_of cell) (λ (e : owner_of s t (page_of cell) ≡ g). omega (arith, o.0)),
        )

    pub took-objects : objects_of s t' g ≡ objects_of s t g + 1
    took-objects =
        omega (arith, on-page k.source, sum-change (objects_on s t' g) (objects_on s t g) (page_of cell) s.pages k.page (λ page l d. on_same (page-past k page l d) g))

    pub took-objects-other : (q : ℕ) → 1 ≤ q → (q ≡ g → ⊥) → objects_of s t' q ≡ objects_of s t q
    took-objects-other q z n =
        sum_same (objects_on s t' q) (objects_on s t q) s.pages
        (λ page l. by_cases (ℕ_discrete page (page_of cell))
        (λ e. objects-no s t' q page (λ x. n (sym x ∙ ap (owner_of s t') e ∙ k.owner)) ∙ sym (objects-no s t q page (λ x. was k.source (ap (owner_of s t) (sym e) ∙ x))))
        (λ d. on_same (page-past k page l d) q))
      where
        was : Source s t g (page_of cell) → owner_of s t (page_of cell) ≡ q → ⊥
        was (inl o) x = n (sym x ∙ o)
        was (inr o) x = omega (arith, o.0)

    pub took-regular : Regular s t'
    took-regular =
        record {
          pages = took-filled;
          partial = took-partial;
          counts = λ q z l. by_cases (ℕ_discrete q g)
              (λ e. subst (λ (i : ℕ). count_of s t' i ≡ objects_of s t' i) (sym e) (omega (arith, k.count, r.counts g pos (omega arith), took-objects)))
              (λ n. count_past k q z l pos n ∙ r.counts q z l ∙ sym (took-objects-other q z n));
        }

-- and pages are whole, where the region is open
pub took-pages : {s : Sizes} {w : Words} {g cell n : ℕ} {t' : List ℕ} → WholeFor s w → Took s w.tables g cell n t' → 1 ≤ g → g ≤ regions s → (1 < g → Open s w.tables g)
    → PagesWhole s (with_tables w t')
took-pages {s} {w} {g} {cell} {n} {t'} whole k pos low open' page l =
    let open-past : (q : ℕ) → Open s w.tables q → Open s t' q = open-frame (took-only s w g cell n t' k pos low) refl in
    record {
      filled = (took-regular (whole-regular whole) k pos).pages page l;
      region = λ z. by_cases (ℕ_discrete page (page_of cell))
          (λ e. let a : owner_of s t' page ≡ g = ap (owner_of s t') e ∙ k.owner in subst (Open s t') (sym a) (open-past g (open' (omega arith))))
          (λ d. let a = (page-past k page l d).owner in subst (Open s t') (sym a) (open-past (owner_of s w.tables page) ((whole.pages page l).region (omega arith))));
    }

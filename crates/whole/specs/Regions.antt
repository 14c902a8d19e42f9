-- The objects and the partly filled pages of all regions, counted in one pass over the pages.
use Rattle.std.specs.Prelude.{◌≡◌, ℕ, ◌+◌, ◌*◌, ◌<◌, ◌≤◌, Bool, true, false, List, length, get_or, replicate, slice_index, slice_index_or, slice_set}
use Rattle.std.proofs.Common.{sym, ap, subst, ◌∙◌, ⊎_elim, arith, not-suc-le-zero, length-set, get_or-set_same, get_or-set_other}
use Rattle.std.proofs.Math.Decide.{ℕ_discrete, dec_lt}
use Rattle.std.proofs.lemmas.List.{length-replicate}
use Rattle.lists.specs.Below.{split}
use Rattle.lists.specs.Zeros.{replicate-at}
use Rattle.lists.specs.Says.{true-not-false}
use Rattle.lists.specs.Counting.{sum, sum_more, sum-high}
use Rattle.rules.specs.declared.Sizes.{Sizes}
use Rattle.layout.specs.Places.{Room, most_regions, regions-few, owner_of, used_of}
use Rattle.layout.specs.Cells.{page_cells}
use Rattle.promises.specs.Whole.{Partial, objects_on, OnePartial, CountsWhole}
use Rattle.promises.proofs.OwnedPages.{open-high}
use Rattle.promises.specs.Regular.{objects-yes, objects-no}
use Rattle.layout.specs.Words.{tables_only}
use Rattle.whole.specs.Pages.{PageChecked, PagesChecked}

-- at most one of the pages below n is a partly filled page of a region
abbrev pub PartialWhole : Sizes → List ℕ → ℕ → Type 0
PartialWhole p t n = (g : ℕ) → 1 ≤ g → (a b : ℕ) → a < b → b < n → Partial p t g a → Partial p t g b → ⊥

pub record RegionsWhole (p : Sizes) (t : List ℕ) : Type 0 where
  pub pages : PagesChecked p t
  pub partial : OnePartial p (tables_only t)
  pub counts : CountsWhole p (tables_only t)

-- what a pass over the pages below n knows of each region: its objects there, and whether one of its pages there is partly filled
pub record Tallied (p : Sizes) (t : List ℕ) (objects : List ℕ) (partly : List Bool) (n : ℕ) : Type 0 where
  pub places : length objects ≡ most_regions
  pub flags : length partly ≡ most_regions
  pub counted : (g : ℕ) → 1 ≤ g → g < most_regions → slice_index objects g ≡ sum (objects_on p t g) n
  pub marked : (g a : ℕ) → 1 ≤ g → g < most_regions → a < n → Partial p t g a → slice_index_or partly g false ≡ true
  pub only : (g : ℕ) → slice_index_or partly g false ≡ true → (a : ℕ) × (a < n) × (1 ≤ g) × Partial p t g a
  pub once : PartialWhole p t n

pub tallied-none : (p : Sizes) (t : List ℕ) → Tallied p t (replicate most_regions 0) (replicate most_regions false) 0
tallied-none p t = record {
  places = length-replicate {A = ℕ} most_regions 0;
  flags = length-replicate most_regions false;
  counted = λ g l m. replicate-at most_regions g 0;
  marked = λ g a l m k. absurd (not-suc-le-zero k);
  only = λ g e. absurd (true-not-false (sym (replicate-at most_regions g false) ∙ e));
  once = λ g l a b k m. absurd (not-suc-le-zero m);
}

-- a turn of the pass: o and u are the owner and the cells in use of page n, as the code read them
module _ (p : Sizes) (t : List ℕ) (objects : List ℕ) (partly : List Bool) (n o u : ℕ) (w : Tallied p t objects partly n) (e : o ≡ owner_of p t n) (f : u ≡ used_of p t n) where
  later : (g a : ℕ) → (Partial p t g n → ⊥) → a < n + 1 → Partial p t g a → a < n
  later g a h l q = ⊎_elim (λ z. absurd (h (subst (λ (x : ℕ). Partial p t g x) z q))) (λ z. z) (split l)

  unseen : ((g : ℕ) → 1 ≤ g → Partial p t g n → ⊥) → (objects' : List ℕ) → length objects' ≡ most_regions
      → ((g : ℕ) → 1 ≤ g → g < most_regions → slice_index objects' g ≡ sum (objects_on p t g) (n + 1)) → Tallied p t objects' partly (n + 1)
  unseen h objects' l k = record {
    places = l;
    flags = w.flags;
    counted = k;
    marked = λ g a i j m q. w.marked g a i j (later g a (h g i) m q) q;
    only = λ g z. let r = w.only g z in (r.0, omega (arith, r.1), r.2, r.3);
    once = λ g i a b l m x y. w.once g i a b l (later g b (h g i) m y) x y;
  }

  -- a free page
  pub tallied-free : o ≡ 0 → Tallied p t objects partly (n + 1)
  tallied-free z =
      unseen (λ g l q. omega (arith, q.owner)) objects w.places
      (λ g l m. omega (arith, w.counted g l m, sum_more (objects_on p t g) n, objects-no p t g n (λ (q : owner_of p t n ≡ g). omega arith)))

  counted-more : (g : ℕ) → 1 ≤ o → o < most_regions → 1 ≤ g → g < most_regions → slice_index (slice_set objects o (slice_index objects o + u)) g ≡ sum (objects_on p t g) (n + 1)
  counted-more g i j l m = go (ℕ_discrete g o)
    where
      go : Dec (g ≡ o) → slice_index (slice_set objects o (slice_index objects o + u)) g ≡ sum (objects_on p t g) (n + 1)
      go (yes z) =
          let s : get_or (slice_set objects o (slice_index objects o + u)) o 0 ≡ slice_index objects o + u = get_or-set_same objects o (slice_index objects o + u) 0 (omega (arith, w.places)) in
          let r : get_or (slice_set objects o (slice_index objects o + u)) g 0 ≡ get_or (slice_set objects o (slice_index objects o + u)) o 0 = ap (λ (x : ℕ). slice_index (slice_set objects o (slice_index objects o + u)) x) z in
          let v : get_or objects g 0 ≡ get_or objects o 0 = ap (λ (x : ℕ). slice_index objects x) z in
          omega (arith, w.counted g l m, sum_more (objects_on p t g) n, objects-yes p t g n (omega arith))
      go (no d) =
          omega (arith, get_or-set_other objects o g (slice_index objects o + u) 0 d, w.counted g l m, sum_more (objects_on p t g) n, objects-no p t g n (λ q. d (sym (e ∙ q))))

  -- a full page
  pub tallied-full : 1 ≤ o → o < most_regions → page_cells ≤ u → Tallied p t (slice_set objects o (slice_index objects o + u)) partly (n + 1)
  tallied-full i j h =
      unseen (λ g l q. omega (arith, q.part)) (slice_set objects o (slice_index objects o + u)) (length-set objects o (slice_index objects o + u) ∙ w.places) (λ g. counted-more g i j)

  -- the first partly filled page of its region
  pub tallied-part : 1 ≤ o → o < most_regions → u < page_cells → slice_index_or partly o false ≡ false → Tallied p t (slice_set objects o (slice_index objects o + u)) (slice_set partly o true) (n + 1)
  tallied-part i j h z = record {
    places = length-set objects o (slice_index objects o + u) ∙ w.places;
    flags = length-set partly o true ∙ w.flags;
    counted = λ g. counted-more g i j;
    marked = λ g a l m k q. ⊎_elim (λ y. at g (sym (subst (λ (x : ℕ). Partial p t g x) y q).owner ∙ sym e)) (λ y. there g (w.marked g a l m y q)) (split k);
    only = λ g q. go g q (ℕ_discrete g o);
    once = λ g l a b k m x y. ⊎_elim (λ v. fresh g l a (omega arith) (subst (λ (c : ℕ). Partial p t g c) v y) x) (λ v. w.once g l a b k v x y) (split m);
  }
    where
      here : get_or (slice_set partly o true) o false ≡ true
      here = get_or-set_same partly o true false (omega (arith, w.flags))

      at : (g : ℕ) → g ≡ o → slice_index_or (slice_set partly o true) g false ≡ true
      at g y = ap (λ (x : ℕ). get_or (slice_set partly o true) x false) y ∙ here

      there : (g : ℕ) → slice_index_or partly g false ≡ true → slice_index_or (slice_set partly o true) g false ≡ true
      there g y = get_or-set_other partly o g true false (λ v. true-not-false (sym z ∙ (ap (λ (x : ℕ). get_or partly x false) (sym v) ∙ y))) ∙ y

      fresh : (g : ℕ) → 1 ≤ g → (a : ℕ) → a < n → Partial p t g n → Partial p t g a → ⊥
      fresh g l a k y x =
          let v : g ≡ o = sym y.owner ∙ sym e in
          true-not-false (sym z ∙ (ap (λ (x : ℕ). get_or partly x false) (sym v) ∙ w.marked g a l (omega arith) k x))

      go : (g : ℕ) → slice_index_or (slice_set partly o true) g false ≡ true → Dec (g ≡ o) → (a : ℕ) × (a < n + 1) × (1 ≤ g) × Partial p t g a
      go g q (yes y) = (n, omega arith, omega arith, record { owner = sym e ∙ sym y; part = omega arith })
      go g q (no d) = let r = w.only g (sym (get_or-set_other partly o g true false d) ∙ q) in (r.0, omega (arith, r.1), r.2, r.3)

  -- a second partly filled page
  pub twice : o < most_regions → n < p.pages → u < page_cells → slice_index_or partly o false ≡ true → OnePartial p (tables_only t) → ⊥
  twice j m h z all =
      let r = w.only o z in
      all o r.2 r.0 n r.1 m r.3 (record { owner = sym e; part = omega arith })

-- no page has more objects of a region than cells
pub on-low : (p : Sizes) (t : List ℕ) (g k : ℕ) → used_of p t k ≤ page_cells → objects_on p t g k ≤ page_cells
on-low p t g k b = go (ℕ_discrete (owner_of p t k) g)
  where
    go : Dec (owner_of p t k ≡ g) → objects_on p t g k ≤ page_cells
    go (yes q) = omega (arith, objects-yes p t g k q)
    go (no q) = omega (arith, objects-no p t g k q)

-- the objects counted are no more than the cells passed
pub objects-low : (p : Sizes) (t : List ℕ) (objects : List ℕ) (partly : List Bool) (n o : ℕ) → Tallied p t objects partly n
    → ((k : ℕ) → k < n → used_of p t k ≤ page_cells) → 1 ≤ o → o < most_regions → slice_index objects o ≤ page_cells * n
objects-low p t objects partly n o w h l m =
    omega (arith, w.counted o l m, sum-high (objects_on p t o) page_cells n (λ k i. on-low p t o k (h k i)))

-- every owner is one of the regions; o is the owner of a whole page as the code read it
pub owner-room : (p : Sizes) (t : List ℕ) (n page : ℕ) {o : ℕ} → Room p n → PageChecked p t page → o ≡ owner_of p t page → o < most_regions
owner-room p t n page {o} r w e = go (dec_lt 1 (owner_of p t page))
  where
    go : Dec (1 < owner_of p t page) → o < most_regions
    go (yes l) = omega (arith, open-high p t (owner_of p t page) r.depth_low (w.whole.region l), regions-few r)
    go (no l) = omega arith

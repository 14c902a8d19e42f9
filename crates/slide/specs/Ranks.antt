-- The places of the listed pages, counted through all of them, and which of them a kept cell goes to: as many kept cells as lie below it
-- take the places before. A kept cell is one that is marked.
use Rattle.std.specs.Prelude.{◌≡◌, ◌⊎◌, List, ℕ, zero, suc, ◌+◌, ◌*◌, ◌/◌, ◌%◌, ◌≤◌, ◌<◌, get_or}
use Rattle.std.proofs.Math.Path.{refl}
use Rattle.std.proofs.Common.{sym, ap, ◌∙◌, subst, inl, inr, arith}
use Rattle.std.proofs.Math.Decide.{ℕ_discrete, dec_lt}
use Rattle.lists.specs.Bits.{bit_at, bit-lt, bit-zero}
use Rattle.lists.specs.Counting.{sum, sum-add, sum-high, sum_mono, sum_more, sum-none}
use Rattle.lists.specs.Part.{Rises, Off, Through, cut-here, through-start, through-turn, through-end}
use Rattle.rules.specs.declared.Sizes.{Sizes}
use Rattle.rules.specs.Pages.{place_in}
use Rattle.layout.specs.Places.{mark_of}
use Rattle.layout.specs.Cells.{page_of, place_of, first_on, page_cells}
use Rattle.layout.specs.Marks.{marked, mark?}
use Rattle.mark.specs.Marks.{Small}

-- how many cells below c are kept
unfoldable pub rank : Sizes → List ℕ → ℕ → ℕ
rank p T c = sum (marked p T) c

-- the place that a kept cell goes to
abbrev pub new_place : Sizes → List ℕ → List ℕ → ℕ → ℕ
new_place p l T c = place_in l (rank p T c)

-- c is kept
abbrev pub KeptCell : Sizes → List ℕ → ℕ → Type 0
KeptCell p T c = (page_of c < p.pages) × (marked p T c ≡ 1)

-- the first n of the list are pages in rising number, and no other page has marks
pub record MarksListed (p : Sizes) (n : ℕ) (l T : List ℕ) : Type 0 where
  pub rises : Rises p.pages n l
  pub small : Small p T
  pub none : (page : ℕ) → page < p.pages → Off l n page → mark_of p T page ≡ 0

-- ---- counting

module _ (p : Sizes) (T : List ℕ) where
  pub rank-zero : rank p T 0 ≡ 0
  unfolding rank
  rank-zero = refl

  pub rank-next : (c : ℕ) → rank p T (c + 1) ≡ rank p T c + marked p T c
  unfolding rank
  rank-next c = sum_more (marked p T) c

  pub rank_mono : (b c : ℕ) → b ≤ c → rank p T b ≤ rank p T c
  unfolding rank
  rank_mono b c l = sum_mono (marked p T) b c l

  -- k cells more, of which no more than k are kept
  pub rank-span : (a k : ℕ) → rank p T (a + k) ≤ rank p T a + k
  unfolding rank
  rank-span a k = omega (arith, sum-add (marked p T) a k, sum-high (λ j. marked p T (a + j)) 1 k (λ j l. omega (arith, bit-lt (place_of (a + j)) (mark_of p T (page_of (a + j))))))

  pub rank-few : (c : ℕ) → rank p T c ≤ c
  rank-few c = omega (arith, rank-span 0 c, rank-zero, ap (rank p T) (let e : 0 + c ≡ c = omega arith in e))

  -- and none where none is marked
  pub rank-skip : (a k : ℕ) → ((j : ℕ) → j < k → marked p T (a + j) ≡ 0) → rank p T (a + k) ≡ rank p T a
  unfolding rank
  rank-skip a k none = omega (arith, sum-add (marked p T) a k, sum-none (λ j. marked p T (a + j)) k none)

  -- a page without marks
  pub rank-page : (q : ℕ) → mark_of p T q ≡ 0 → rank p T (first_on (q + 1)) ≡ rank p T (first_on q)
  rank-page q z =
      ap (rank p T) (let e : first_on (q + 1) ≡ first_on q + page_cells = omega arith in e)
      ∙ rank-skip (first_on q) page_cells
      (λ j l.
      let e : page_of (first_on q + j) ≡ q = omega arith in
      ap (λ (x : ℕ). bit_at (mark_of p T x) (place_of (first_on q + j))) e ∙ ap (λ (x : ℕ). bit_at x (place_of (first_on q + j))) z ∙ bit-zero (place_of (first_on q + j)))

  -- kept cells are counted one by one
  pub rank_rises : (b c : ℕ) → b < c → marked p T b ≡ 1 → rank p T b < rank p T c
  rank_rises b c l on = omega (arith, rank-next b, rank_mono (b + 1) c (omega arith))

  -- and every number below the count is the rank of one
  pub rank-onto : (b k : ℕ) → k < rank p T b → (c : ℕ) × (c < b) × (marked p T c ≡ 1) × (rank p T c ≡ k)
  rank-onto zero k l = absurd (let z : ⊥ = omega (arith, rank-zero) in z)
  rank-onto (suc b) k l = go (dec_lt k (rank p T b)) (mark? p T b) (rank-onto b k)
    where
      more : rank p T (suc b) ≡ rank p T b + marked p T b
      more = ap (rank p T) (let e : suc b ≡ b + 1 = omega arith in e) ∙ rank-next b

      go : Dec (k < rank p T b) → (marked p T b ≡ 0) ⊎ (marked p T b ≡ 1) → (k < rank p T b → (c : ℕ) × (c < b) × (marked p T c ≡ 1) × (rank p T c ≡ k))
          → (c : ℕ) × (c < suc b) × (marked p T c ≡ 1) × (rank p T c ≡ k)
      go (yes h) m rest = let q = rest h in (q.0, omega (arith, q.1), q.2, q.3)
      go (no h) (inl z) rest = absurd (let y : ⊥ = omega (arith, more) in y)
      go (no h) (inr on) rest = (b, omega arith, on, omega (arith, more))

-- ---- places rise with their number

pub places-rise : {P n : ℕ} {l : List ℕ} (k m : ℕ) → Rises P n l → k < m → m / page_cells < n → place_in l k < place_in l m
places-rise {l = l} k m r h low = go (dec_lt (k / page_cells) (m / page_cells))
  where
    go : Dec (k / page_cells < m / page_cells) → place_in l k < place_in l m
    go (yes d) = omega (arith, r.rising (k / page_cells) (m / page_cells) d low)
    go (no d) =
        let e : k / page_cells ≡ m / page_cells = omega arith in
        omega (arith, ap (λ (x : ℕ). get_or l x 0) e)

-- a number is listed or not
pub seek : (l : List ℕ) (n q : ℕ) → ((j : ℕ) × (j < n) × (get_or l j 0 ≡ q)) ⊎ Off l n q
seek l zero q = inr (λ i h e. absurd (let z : ⊥ = omega arith in z))
seek l (suc n) q = go (ℕ_discrete (get_or l n 0) q) (seek l n q)
  where
    go : Dec (get_or l n 0 ≡ q) → ((j : ℕ) × (j < n) × (get_or l j 0 ≡ q)) ⊎ Off l n q → ((j : ℕ) × (j < suc n) × (get_or l j 0 ≡ q)) ⊎ Off l (suc n) q
    go (yes e) rest = inl (n, omega arith, e)
    go (no ne) (inl f) = inl (f.0, omega (arith, f.1), f.2)
    go (no ne) (inr off) = inr (λ i h e. last i h e (ℕ_discrete i n))
      where
        last : (i : ℕ) → i < suc n → get_or l i 0 ≡ q → Dec (i ≡ n) → ⊥
        last i h e (yes s) = ne (subst (λ (x : ℕ). get_or l x 0 ≡ q) s e)
        last i h e (no s) = off i (omega arith) e

-- ---- the places of kept cells

module _ {p : Sizes} {n : ℕ} {l T : List ℕ} (m : MarksListed p n l T) where
  -- below the cells of listed page number i and those of the pages before it no more are kept than the first i pages have room for
  rank-through : (i : ℕ) → i ≤ n → Through p.pages n l i (λ b. rank p T (first_on b) ≤ page_cells * i)
  rank-through zero h =
      through-start p.pages n l (λ b. rank p T (first_on b) ≤ page_cells * 0) (λ q lq off r. omega (arith, rank-page p T q (m.none q lq off)))
      (omega (arith, rank-zero p T))
  rank-through (suc i) h =
      let e : i + 1 ≡ suc i = omega arith in
      subst (λ (x : ℕ). Through p.pages n l x (λ b. rank p T (first_on b) ≤ page_cells * suc i)) e
      (through-turn p.pages n l (λ b. rank p T (first_on b) ≤ page_cells * i) (λ b. rank p T (first_on b) ≤ page_cells * suc i) i (get_or l i 0) m.rises (omega arith) refl (rank-through i (omega arith))
      (λ r. omega (arith, rank-span p T (first_on (get_or l i 0)) page_cells, ap (rank p T) (let s : first_on (get_or l i 0 + 1) ≡ first_on (get_or l i 0) + page_cells = omega arith in s)))
      (λ q lq off r. omega (arith, rank-page p T q (m.none q lq off))))

  -- so a cell of listed page number j has at most so many below it
  pub rank-low : (c j : ℕ) → j < n → get_or l j 0 ≡ page_of c → rank p T c ≤ page_cells * j + place_of c
  rank-low c j h e =
      let r : rank p T (first_on (page_of c)) ≤ page_cells * j = rank-through j (omega arith) (page_of c) (cut-here j (page_of c) m.rises h (sym e)) in
      let s : c ≡ first_on (page_of c) + place_of c = omega arith in
      omega (arith, rank-span p T (first_on (page_of c)) (place_of c), ap (rank p T) s)

  -- all kept cells fit on the listed pages
  pub rank_room : rank p T (first_on p.pages) ≤ page_cells * n
  rank_room = through-end p.pages n l (λ b. rank p T (first_on b) ≤ page_cells * n) n m.rises (omega arith) (omega arith) (rank-through n (omega arith))

  -- a kept cell is on one of them
  pub kept-listed : (c : ℕ) → KeptCell p T c → (j : ℕ) × (j < n) × (get_or l j 0 ≡ page_of c)
  kept-listed c k = go (seek l n (page_of c))
    where
      go : ((j : ℕ) × (j < n) × (get_or l j 0 ≡ page_of c)) ⊎ Off l n (page_of c) → (j : ℕ) × (j < n) × (get_or l j 0 ≡ page_of c)
      go (inl f) = f
      go (inr off) =
          absurd (let z : ⊥ = omega (arith, k.1, ap (λ (x : ℕ). bit_at x (place_of c)) (m.none (page_of c) k.0 off), bit-zero (place_of c)) in z)

  module _ (c : ℕ) (k : KeptCell p T c) where
    -- its place is on a listed page
    pub place-listed : rank p T c / page_cells < n
    place-listed = let f = kept-listed c k in omega (arith, f.1, rank-low c f.0 f.1 f.2)

    pub place-page : page_of (new_place p l T c) ≡ get_or l (rank p T c / page_cells) 0
    place-page = omega arith

    pub place-place : place_of (new_place p l T c) ≡ rank p T c % page_cells
    place-place = omega arith

    pub place-in : page_of (new_place p l T c) < p.pages
    place-in = omega (arith, m.rises.low (rank p T c / page_cells) place-listed)

    -- not above it
    pub place-not-above : new_place p l T c ≤ c
    place-not-above = go (dec_lt (rank p T c / page_cells) j)
      where
        j : ℕ
        j = (kept-listed c k).0

        at : get_or l j 0 ≡ page_of c
        at = (kept-listed c k).2

        few : rank p T c ≤ page_cells * j + place_of c
        few = rank-low c j (kept-listed c k).1 at

        go : Dec (rank p T c / page_cells < j) → new_place p l T c ≤ c
        go (yes d) = omega (arith, at, m.rises.rising (rank p T c / page_cells) j d (kept-listed c k).1)
        go (no d) =
            let e : rank p T c / page_cells ≡ j = omega (arith, few) in
            omega (arith, at, few, ap (λ (x : ℕ). get_or l x 0) e)

    -- fewer than all are before it
    pub rank_below : rank p T c < rank p T (first_on p.pages)
    rank_below = rank_rises p T c (first_on p.pages) (omega (arith, k.0)) k.1

    -- and above the places of those before it
    pub place-rises : (b : ℕ) → marked p T b ≡ 1 → b < c → new_place p l T b < new_place p l T c
    place-rises b on h = places-rise (rank p T b) (rank p T c) m.rises (rank_rises p T b c h on) place-listed

  -- every place before the last is taken
  pub place-taken : (k : ℕ) → k < rank p T (first_on p.pages) → (c : ℕ) × KeptCell p T c × (rank p T c ≡ k)
  place-taken k h = let q = rank-onto p T (first_on p.pages) k h in (q.0, (omega (arith, q.1), q.2), q.3)

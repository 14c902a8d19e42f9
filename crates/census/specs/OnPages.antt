-- How many entries are of slots on a page, and on the pages of a region. Entries stand by rising slot, so those of a page stand together.
use Rattle.std.specs.Prelude.{ℕ, zero, suc, ◌+◌, ◌*◌, ◌≤◌, ◌<◌, Bool, cond, List, [], ◌∷◌, ◌⊎◌, ◌≡◌, refl, eqb, ltb, length, get_or}
use Rattle.std.proofs.Common.{inl, inr, sym, ap, ◌∙◌, arith, eq-eqb, ne_eqb, lt-ltb, le-ltb}
use Rattle.std.proofs.Math.Decide.{ℕ_discrete, dec_lt}
use Rattle.lists.specs.Counting.{bit, sum, count, but, but_same, but-other, sum-but, sum_same, sum-none, sum-plus, sum-shift, sum-high, bit-le-one}
use Rattle.lists.specs.Part.{Rises, Lists}
use Rattle.lists.specs.Pigeonhole.{found}
use Rattle.rules.specs.declared.Sizes.{Sizes}
use Rattle.layout.specs.Places.{owner_of, entries_used, slot_in, page_words}
use Rattle.layout.specs.Cells.{page_at}
use Rattle.remember.specs.Table.{Entry, slot, nth_slot, Ascending, entries_in, place_of, Table}
use Rattle.remember.specs.TableWords.{to-long, to_at, to-ascending}

-- the entries of slots on a page
unfoldable pub slots_on : List ℕ → ℕ → ℕ
slots_on m page = count (λ i. eqb (page_at (slot_in m i)) page) (entries_used m)

-- on the first n pages of a list
abbrev pub slots_listed : List ℕ → List ℕ → ℕ → ℕ
slots_listed m l n = sum (λ j. slots_on m (get_or l j 0)) n

-- on the pages of r
unfoldable pub entries_own : Sizes → List ℕ → List ℕ → ℕ → ℕ
entries_own p m T r = count (λ i. eqb (owner_of p T (page_at (slot_in m i))) r) (entries_used m)

pub slots-few : (m : List ℕ) (page : ℕ) → slots_on m page ≤ entries_used m
unfolding slots_on
slots-few m page =
    omega (arith, sum-high (λ i. bit (eqb (page_at (slot_in m i)) page)) 1 (entries_used m) (λ i l. bit-le-one (eqb (page_at (slot_in m i)) page)))

-- ---- a page

-- the place of a slot counts the entries below it
place-count : (s : ℕ) (es : List Entry) → Ascending es → place_of s es ≡ count (λ i. ltb (nth_slot es i) s) (length es)
unfolding place_of
place-count s [] r = refl
place-count s (e ∷ es) r = go (dec_lt e.slot s) (place-count s es (λ i j l h. r (suc i) (suc j) (omega arith) (omega arith)))
  where
    all : count (λ i. ltb (nth_slot (e ∷ es) i) s) (suc (length es)) ≡ bit (ltb e.slot s) + count (λ i. ltb (nth_slot es i) s) (length es)
    all = sum-shift (λ i. bit (ltb (nth_slot (e ∷ es) i) s)) (length es)

    go : Dec (e.slot < s) → place_of s es ≡ count (λ i. ltb (nth_slot es i) s) (length es)
        → cond (ltb e.slot s) (suc (place_of s es)) 0 ≡ count (λ i. ltb (nth_slot (e ∷ es) i) s) (suc (length es))
    go (yes l) rest =
        ap (λ (b : Bool). cond b (suc (place_of s es)) 0) (lt-ltb e.slot s l) ∙ omega (arith, all, ap bit (lt-ltb e.slot s l))
    go (no l) rest =
        let none =
        sum-none (λ i. bit (ltb (nth_slot es i) s)) (length es) (λ i h. ap bit (le-ltb (nth_slot es i) s (omega (arith, r 0 (suc i) (omega arith) (omega arith))))) in
        ap (λ (b : Bool). cond b (suc (place_of s es)) 0) (le-ltb e.slot s (omega arith)) ∙ omega (arith, all, none, ap bit (le-ltb e.slot s (omega arith)))

-- how many of the table's entries are of slots below s
abbrev slots_below : List ℕ → ℕ → ℕ
slots_below m s = count (λ i. ltb (slot_in m i) s) (entries_used m)

place-below : {N : ℕ} {m : List ℕ} → Table N m → (s : ℕ) → place_of s (entries_in N m) ≡ slots_below m s
place-below {N} {m} t s =
    place-count s (entries_in N m) (to-ascending N m (entries_used m) t.rising)
    ∙ ap (count (λ i. ltb (nth_slot (entries_in N m) i) s)) (to-long N m (entries_used m))
    ∙ sum_same (λ i. bit (ltb (nth_slot (entries_in N m) i) s)) (λ i. bit (ltb (slot_in m i) s)) (entries_used m)
    (λ i l. ap (λ (x : ℕ). bit (ltb x s)) (ap slot (to_at N m (entries_used m) i l)))

-- a slot below the end of a page lies on it or before it
page-split : (q page : ℕ) → bit (eqb (page_at q) page) + bit (ltb q (page_words * page)) ≡ bit (ltb q (page_words * page + page_words))
page-split q page = go (dec_lt q (page_words * page)) (dec_lt q (page_words * page + page_words))
  where
    go : Dec (q < page_words * page) → Dec (q < page_words * page + page_words) → bit (eqb (page_at q) page) + bit (ltb q (page_words * page)) ≡ bit (ltb q (page_words * page + page_words))
    go (yes l) (no h) = absurd (let z : ⊥ = omega arith in z)
    go (yes l) (yes h) =
        omega (arith, ap bit (ne_eqb (page_at q) page (λ (e : page_at q ≡ page). omega arith)), ap bit (lt-ltb q (page_words * page) l), ap bit (lt-ltb q (page_words * page + page_words) h))
    go (no l) (yes h) =
        omega (arith, ap bit (eq-eqb (page_at q) page (omega arith)), ap bit (le-ltb q (page_words * page) (omega arith)), ap bit (lt-ltb q (page_words * page + page_words) h))
    go (no l) (no h) =
        omega (arith, ap bit (ne_eqb (page_at q) page (λ (e : page_at q ≡ page). omega arith)), ap bit (le-ltb q (page_words * page) (omega arith)), ap bit (le-ltb q (page_words * page + page_words) (omega arith)))

page-slots : (m : List ℕ) (page : ℕ) → slots_on m page + slots_below m (page_words * page) ≡ slots_below m (page_words * page + page_words)
unfolding slots_on
page-slots m page =
    sym (sum-plus (λ i. bit (eqb (page_at (slot_in m i)) page)) (λ i. bit (ltb (slot_in m i) (page_words * page))) (entries_used m))
    ∙ sum_same _ (λ i. bit (ltb (slot_in m i) (page_words * page + page_words))) (entries_used m) (λ i l. page-split (slot_in m i) page)

-- found as the code found them: the first entry from the page's first word on, and from its end on
pub page-found : {N : ℕ} {m : List ℕ} → Table N m → (page : ℕ) {a b low high : ℕ} → low ≡ place_of a (entries_in N m) → high ≡ place_of b (entries_in N m)
    → a ≡ page_words * page → b ≡ page_words * page + page_words → slots_on m page + low ≡ high
page-found {N} {m} t page el eh ea eb =
    let x = el ∙ ap (λ (s : ℕ). place_of s (entries_in N m)) ea ∙ place-below t (page_words * page) in
    let y = eh ∙ ap (λ (s : ℕ). place_of s (entries_in N m)) eb ∙ place-below t (page_words * page + page_words) in
    omega (arith, x, y, page-slots m page)

-- ---- the pages of a region

-- a list of pages that rise is no longer than there are pages
pub listed-few : {P n : ℕ} {l : List ℕ} → Rises P n l → (i : ℕ) → i < n → i < P
listed-few {P} {n} {l} h i k = omega (arith, h.low i k, above i k)
  where
    above : (i : ℕ) → i < n → i ≤ get_or l i 0
    above zero k = omega arith
    above (suc i) k = omega (arith, h.rising i (suc i) (omega arith) k, above i (omega arith))

module _ (own : ℕ → ℕ) (r P n : ℕ) (l : List ℕ) (h : Lists (λ q. own q ≡ r) P n l) where
  -- a page is listed once if it is r's, else not at all
  listed-once : (q : ℕ) → q < P → sum (λ j. bit (eqb q (get_or l j 0))) n ≡ bit (eqb (own q) r)
  listed-once q low = go (ℕ_discrete (own q) r) (found (λ j. get_or l j 0) q n)
    where
      other : (j x : ℕ) → j < n → x < n → get_or l j 0 ≡ q → Dec (x ≡ j) → Dec (x < j) → but j (λ i. bit (eqb q (get_or l i 0))) x ≡ 0
      other j x k a s (yes e) b = ap (but j (λ i. bit (eqb q (get_or l i 0)))) e ∙ but_same j (λ i. bit (eqb q (get_or l i 0)))
      other j x k a s (no e) (yes b) =
          but-other j (λ i. bit (eqb q (get_or l i 0))) x e ∙ ap bit (ne_eqb q (get_or l x 0) (λ (z : q ≡ get_or l x 0). omega (arith, h.rises.rising x j b k)))
      other j x k a s (no e) (no b) =
          but-other j (λ i. bit (eqb q (get_or l i 0))) x e ∙ ap bit (ne_eqb q (get_or l x 0) (λ (z : q ≡ get_or l x 0). omega (arith, h.rises.rising j x (omega arith) a)))

      go : Dec (own q ≡ r) → ((j : ℕ) × (j < n) × (get_or l j 0 ≡ q)) ⊎ ((j : ℕ) → j < n → get_or l j 0 ≡ q → ⊥) → sum (λ j. bit (eqb q (get_or l j 0))) n ≡ bit (eqb (own q) r)
      go (yes e) (inr none) = absurd (h.all q low e none)
      go (yes e) (inl (j, k, s)) =
          sum-but (λ i. bit (eqb q (get_or l i 0))) j n k
          ∙ omega (
            arith,
            ap bit (eq-eqb q (get_or l j 0) (sym s)),
            sum-none (but j (λ i. bit (eqb q (get_or l i 0)))) n (λ x a. other j x k a s (ℕ_discrete x j) (dec_lt x j)),
            ap bit (eq-eqb (own q) r e),
          )
      go (no e) some =
          sum-none (λ j. bit (eqb q (get_or l j 0))) n (λ j k. ap bit (ne_eqb q (get_or l j 0) (λ z. e (ap own z ∙ h.each j k)))) ∙ sym (ap bit (ne_eqb (own q) r e))

  listed-all : (at : ℕ → ℕ) (u : ℕ) → ((i : ℕ) → i < u → at i < P) → sum (λ j. count (λ i. eqb (at i) (get_or l j 0)) u) n ≡ count (λ i. eqb (own (at i)) r) u
  listed-all at zero low = sum-none (λ j. 0) n (λ j k. refl)
  listed-all at (suc u) low =
      sum-plus (λ j. count (λ i. eqb (at i) (get_or l j 0)) u) (λ j. bit (eqb (at u) (get_or l j 0))) n
      ∙ omega (arith, listed-all at u (λ i k. low i (omega arith)), listed-once (at u) (low u (omega arith)))

pub own-listed : (p : Sizes) (m T : List ℕ) (r n : ℕ) (l : List ℕ) → Lists (λ page. owner_of p T page ≡ r) p.pages n l
    → ((i : ℕ) → i < entries_used m → page_at (slot_in m i) < p.pages) → slots_listed m l n ≡ entries_own p m T r
unfolding slots_on entries_own
own-listed p m T r n l h low = listed-all (owner_of p T) r p.pages n l h (λ i. page_at (slot_in m i)) (entries_used m) low

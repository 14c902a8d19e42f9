-- The pages of a region are listed from the last one down: what stands at the end of the list is rising and complete above the page reached.
use Rattle.std.specs.Prelude.{ℕ, ◌+◌, ◌-◌, ◌≤◌, ◌<◌, ◌≡◌, List, length, get_or, set}
use Rattle.std.proofs.Common.{sym, ap, ◌∙◌, arith, length-set, get_or-set_same, get_or-set_other}
use Rattle.std.proofs.Math.Decide.{ℕ_discrete, dec_lt}
use Rattle.lists.specs.Counting.{sum_more, sum-part}
use Rattle.lists.specs.Part.{Off, Lists}
use Rattle.rules.specs.declared.Sizes.{Sizes}
use Rattle.layout.specs.Places.{owner_of}
use Rattle.promises.specs.OwnedPages.{owned_one, owned_in, owned-yes, owned-no, owned-few}

-- the pages of g from `page` on stand at the places from `left` on and below n
pub record Listing (p : Sizes) (t : List ℕ) (g n left page : ℕ) (l : List ℕ) : Type 0 where
  pub rest : left ≡ owned_in p t g page
  pub few : left ≤ n
  pub room : n ≤ length l
  pub within : page ≤ p.pages
  pub low : (i : ℕ) → left ≤ i → i < n → (page ≤ get_or l i 0) × (get_or l i 0 < p.pages)
  pub rising : (i j : ℕ) → left ≤ i → i < j → j < n → get_or l i 0 < get_or l j 0
  pub each : (i : ℕ) → left ≤ i → i < n → owner_of p t (get_or l i 0) ≡ g
  pub all : (q : ℕ) → page ≤ q → q < p.pages → owner_of p t q ≡ g → ((i : ℕ) → left ≤ i → i < n → get_or l i 0 ≡ q → ⊥) → ⊥

-- n is the number of the region's pages
pub listing_start : (p : Sizes) (t : List ℕ) (g n : ℕ) (l : List ℕ) → n ≡ owned_in p t g p.pages → p.pages ≤ length l → Listing p t g n n p.pages l
listing_start p t g n l e room =
    record {
      rest = e;
      few = omega arith;
      room = omega (arith, owned-few p t g p.pages);
      within = omega arith;
      low = λ i a b. absurd (let z : ⊥ = omega arith in z);
      rising = λ i j a b c. absurd (let z : ⊥ = omega arith in z);
      each = λ i a b. absurd (let z : ⊥ = omega arith in z);
      all = λ q a b e f. omega arith;
    }

module _ {p : Sizes} {t : List ℕ} {g n left page : ℕ} {l : List ℕ} (h : Listing p t g n left page l) (some : 0 < left) where
  -- where pages are left, there is one below
  pub listing-pos : 0 < page
  listing-pos = go (dec_lt 0 page)
    where
      go : Dec (0 < page) → 0 < page
      go (yes m) = m
      go (no m) =
          let e : left ≡ 0 = h.rest ∙ ap (owned_in p t g) (let z : page ≡ 0 = omega arith in z) in
          absurd (let z : ⊥ = omega arith in z)

  before : owned_in p t g page ≡ owned_in p t g (page - 1) + owned_one p t g (page - 1)
  before =
      let e : page - 1 + 1 ≡ page = omega (arith, listing-pos) in
      ap (owned_in p t g) (sym e) ∙ sum_more (owned_one p t g) (page - 1)

  -- o is the owner of the page below as the code read it
  pub listing-skip : (o : ℕ) → o ≡ owner_of p t (page - 1) → (o ≡ g → ⊥) → Listing p t g n left (page - 1) l
  listing-skip o e ne =
      record {
        rest = omega (arith, h.rest, before, owned-no p t g (page - 1) (λ z. ne (e ∙ z)));
        few = h.few;
        room = h.room;
        within = omega (arith, h.within);
        low = λ i a b. (omega (arith, (h.low i a b).0), (h.low i a b).1);
        rising = h.rising;
        each = h.each;
        all = λ q a b d f. go q a b d f (ℕ_discrete q (page - 1));
      }
    where
      go : (q : ℕ) → page - 1 ≤ q → q < p.pages → owner_of p t q ≡ g → ((i : ℕ) → left ≤ i → i < n → get_or l i 0 ≡ q → ⊥) → Dec (q ≡ page - 1) → ⊥
      go q a b d f (yes z) = ne (e ∙ ap (owner_of p t) (sym z) ∙ d)
      go q a b d f (no z) = h.all q (omega arith) b d f

  pub listing-take : (o : ℕ) → o ≡ owner_of p t (page - 1) → o ≡ g → Listing p t g n (left - 1) (page - 1) (set l (left - 1) (page - 1))
  listing-take o e eg =
      record {
        rest = omega (arith, h.rest, before, owned-yes p t g (page - 1) (sym e ∙ eg), h.few);
        few = omega (arith, h.few);
        room = omega (arith, h.room, length-set l (left - 1) (page - 1));
        within = omega (arith, h.within);
        low = λ i a b. low' i a b (ℕ_discrete i (left - 1));
        rising = λ i j a b c. rising' i j a b c (ℕ_discrete i (left - 1));
        each = λ i a b. each' i a b (ℕ_discrete i (left - 1));
        all = λ q a b d f. all' q a b d f (ℕ_discrete q (page - 1));
      }
    where
      l' : List ℕ
      l' = set l (left - 1) (page - 1)

      here : get_or (set l (left - 1) (page - 1)) (left - 1) 0 ≡ page - 1
      here = get_or-set_same l (left - 1) (page - 1) 0 (omega (arith, some, h.few, h.room))

      at : (i : ℕ) → i ≡ left - 1 → get_or (set l (left - 1) (page - 1)) i 0 ≡ page - 1
      at i z = ap (λ (k : ℕ). get_or (set l (left - 1) (page - 1)) k 0) z ∙ here

      off : (i : ℕ) → (i ≡ left - 1 → ⊥) → get_or (set l (left - 1) (page - 1)) i 0 ≡ get_or l i 0
      off i z = get_or-set_other l (left - 1) i (page - 1) 0 z

      low' : (i : ℕ) → left - 1 ≤ i → i < n → Dec (i ≡ left - 1)
          → (page - 1 ≤ get_or (set l (left - 1) (page - 1)) i 0) × (get_or (set l (left - 1) (page - 1)) i 0 < p.pages)
      low' i a b (yes z) = (omega (arith, at i z), omega (arith, at i z, h.within, listing-pos))
      low' i a b (no z) = let k = h.low i (omega (arith, some)) b in (omega (arith, off i z, k.0), omega (arith, off i z, k.1))

      rising' : (i j : ℕ) → left - 1 ≤ i → i < j → j < n → Dec (i ≡ left - 1)
          → get_or (set l (left - 1) (page - 1)) i 0 < get_or (set l (left - 1) (page - 1)) j 0
      rising' i j a b c (yes z) =
          let other : j ≡ left - 1 → ⊥ = (λ (y : j ≡ left - 1). omega arith) in
          omega (arith, at i z, off j other, (h.low j (omega (arith, some)) c).0, listing-pos)
      rising' i j a b c (no z) =
          let other : j ≡ left - 1 → ⊥ = (λ (y : j ≡ left - 1). omega arith) in
          omega (arith, off i z, off j other, h.rising i j (omega (arith, some)) b c)

      each' : (i : ℕ) → left - 1 ≤ i → i < n → Dec (i ≡ left - 1) → owner_of p t (get_or (set l (left - 1) (page - 1)) i 0) ≡ g
      each' i a b (yes z) = ap (owner_of p t) (at i z) ∙ sym e ∙ eg
      each' i a b (no z) = ap (owner_of p t) (off i z) ∙ h.each i (omega (arith, some)) b

      all' : (q : ℕ) → page - 1 ≤ q → q < p.pages → owner_of p t q ≡ g
          → ((i : ℕ) → left - 1 ≤ i → i < n → get_or (set l (left - 1) (page - 1)) i 0 ≡ q → ⊥) → Dec (q ≡ page - 1) → ⊥
      all' q a b d f (yes z) = f (left - 1) (omega arith) (omega (arith, some, h.few)) (here ∙ sym z)
      all' q a b d f (no z) =
          h.all q (omega arith) b d (λ i u v y. f i (omega arith) v (off i (λ (x : i ≡ left - 1). omega (arith, some)) ∙ y))

-- none is left: the whole list
pub listing-end : {p : Sizes} {t : List ℕ} {g n left page : ℕ} {l : List ℕ} → left ≡ 0 → Listing p t g n left page l → Lists (λ q. owner_of p t q ≡ g) p.pages n l
listing-end {p} {t} {g} {n} {left} {page} {l} z h =
    record {
      rises =
          record {
            few = h.room;
            low = λ i a. (h.low i (omega arith) a).1;
            rising = λ i j a b. h.rising i j (omega arith) a b;
          };
      each = λ i a. h.each i (omega arith) a;
      all = λ q a e f. go q a e f (dec_lt q page);
    }
  where
    go : (q : ℕ) → q < p.pages → owner_of p t q ≡ g → Off l n q → Dec (q < page) → ⊥
    go q a e f (yes b) = omega (arith, h.rest, sum-part (owned_one p t g) q page b, owned-yes p t g q e)
    go q a e f (no b) = h.all q (omega arith) a e (λ i u v y. f i v y)

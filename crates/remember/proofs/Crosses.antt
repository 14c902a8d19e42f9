-- When the word at a position crosses, and into which region, from the words that the code read.
use Rattle.std.specs.Prelude.{ℕ, ◌-◌, ◌≤◌, ◌<◌, List, ◌≡◌, refl, Bool, not, ◌&&◌, ltb, eqb, get_or}
use Rattle.std.proofs.Common.{sym, ap₂, subst₂, ◌∙◌, arith, lt-ltb, le-ltb, le-leb, eq-eqb, ne_eqb}
use Rattle.std.proofs.Math.Path.{ap}
use Rattle.std.proofs.Math.Logic.{by_cases}
use Rattle.std.proofs.Math.Bool.{cond, and-false}
use Rattle.std.proofs.Math.Decide.{ℕ_discrete, dec_lt}
use Rattle.std.proofs.lemmas.Bool.{lt-leb}
use Rattle.lists.specs.Counting.{bit}
use Rattle.rules.specs.declared.Sizes.{Sizes}
use Rattle.layout.specs.Places.{cells_words, owner_of, used_of}
use Rattle.layout.specs.Cells.{head_of, refs_of, room_for, field_at, field_of, IsReference, cell_named, page_of, place_of, cell_of, word_of}
use Rattle.layout.specs.Objects.{Begins, Slot, slot?, slot-true, no_slot, slot-page, slot-word, word-slot}
use Rattle.remember.specs.Crossing.{other, region_of, crosses_from, crosses_to, crosses_at, cross_to}

module _ (p : Sizes) (c t : List ℕ) (at : ℕ) where
  pub slot-cross : Slot p c t at → cross_to p c t at ≡ crosses_at p c t at
  unfolding cross_to
  slot-cross o = ap (λ (b : Bool). cond b (crosses_at p c t at) 0) (slot-true p c t at o)

  -- by its object and its field
  pub slot-crosses : (o : Slot p c t at) → cross_to p c t at ≡ crosses_to p t o.object (field_of c o.object o.field)
  slot-crosses o = slot-cross o ∙ ap₂ (λ (page y : ℕ). crosses_from p t (owner_of p t page) (get_or c y 0)) (slot-page p c t at o) (sym o.at)

  -- nothing else crosses
  pub no-cross : (Slot p c t at → ⊥) → cross_to p c t at ≡ 0
  unfolding cross_to
  no-cross n = ap (λ (b : Bool). cond b (crosses_at p c t at) 0) (no_slot p c t at n)

  pub cross-slot : 0 < cross_to p c t at → Slot p c t at
  cross-slot l = go (slot? p c t at)
    where
      go : Dec (Slot p c t at) → Slot p c t at
      go (yes o) = o
      go (no n) = absurd (let z : ⊥ = omega (arith, no-cross n) in z)

  -- the words of the slot at a position, as the code read them: the ways in which none crosses there, and the slot that may
  module _ (cell : ℕ) (e : cell ≡ cell_of at) where
    pub cross-unused : {page used place : ℕ} → page ≡ page_of cell → place ≡ place_of cell → used ≡ used_of p t page → used ≤ place → 0 ≡ cross_to p c t at
    cross-unused {page} {used} {place} f g h l =
        let q : page_of (cell_of at) ≡ page = omega arith in
        sym (no-cross (λ o. omega (arith, (slot-word p c t at o).0.place, ap (used_of p t) q)))

    -- the word is none of the cell's reference fields
    pub cross-other : {word head : ℕ} → word ≡ word_of at → head ≡ head_of c cell → (IsReference head word → ⊥) → 0 ≡ cross_to p c t at
    cross-other f g n = sym (no-cross (λ o. n (subst₂ IsReference (sym (g ∙ ap (head_of c) e)) (sym f) (slot-word p c t at o).1)))

    pub cross-read : {page used place word head owner region r : ℕ} → page ≡ page_of cell → place ≡ place_of cell → used ≡ used_of p t page
        → word ≡ word_of at → head ≡ head_of c cell → owner ≡ owner_of p t page → region ≡ region_of p t (get_or c at 0) → r ≡ other owner region
        → at < cells_words p → place < used → IsReference head word → r ≡ cross_to p c t at
    cross-read {page} {used} {place} {word} {head} {owner} {region} f g h i j k l m low u v =
        let q : page_of (cell_of at) ≡ page = omega arith in
        m ∙ ap₂ other (k ∙ ap (owner_of p t) (sym q)) l
        ∙ sym (slot-cross (word-slot p c t at (record { page = omega arith; place = omega (arith, ap (used_of p t) q) }) (subst₂ IsReference (j ∙ ap (head_of c) e) i v)))

-- a reference field of an object crosses as its word does from there
pub field-cross : (p : Sizes) (c t : List ℕ) (k f : ℕ) → Begins p c t k → f < room_for (head_of c k) → f < refs_of c k → cross_to p c t (field_at k f) ≡ crosses_to p t k (field_of c k f)
field-cross p c t k f b l m = slot-crosses p c t (field_at k f) (record { object = k; field = f; begins = b; room = l; low = m; at = refl })

-- the region of a reference, as the code read its page
module _ (p : Sizes) (t : List ℕ) (x : ℕ) where
  pub region-null : x ≡ 0 → 0 ≡ region_of p t x
  region-null e = simp (eq-eqb x 0 e)

  module _ {cell page : ℕ} (n : x ≡ 0 → ⊥) (e : cell ≡ x - 1) (f : page ≡ page_of cell) where
    page-is : page_of (x - 1) ≡ page
    page-is = ap page_of (sym e) ∙ sym f

    pub region-out : p.pages ≤ page → 0 ≡ region_of p t x
    region-out l = simp (ne_eqb x 0 n, page-is, le-ltb page p.pages l)

    pub region-there : page < p.pages → {r : ℕ} → r ≡ owner_of p t page → r ≡ region_of p t x
    region-there l g = simp (ne_eqb x 0 n, page-is, lt-ltb page p.pages l) g

-- ---- another region than w, and not the control space

pub other-control : (w h : ℕ) → h ≤ 1 → 0 ≡ other w h
other-control w h l = rw (le-leb h 1 l)

pub other-same : (w h : ℕ) → 1 < h → h ≡ w → 0 ≡ other w h
other-same w h l e = rw (lt-leb h 1 l, eq-eqb h w e)

pub other-yes : (w h : ℕ) → 1 < h → (h ≡ w → ⊥) → h ≡ other w h
other-yes w h l n = rw (lt-leb h 1 l, ne_eqb h w n)

-- which is the rules' test of a crossing slot
pub other_test : (w h : ℕ) → 0 < h → bit (ltb 0 (other w h)) ≡ cond (not (eqb w h) && not (eqb h 1)) 1 0
other_test w h pos =
    by_cases (ℕ_discrete h 1) (λ e. rw (le-leb h 1 (omega arith), eq-eqb h 1 e, and-false (not (eqb w h))))
    (λ n. by_cases (ℕ_discrete h w) (λ e. rw (lt-leb h 1 (omega arith), eq-eqb h w e, eq-eqb w h (sym e)))
    (λ m. rw (lt-leb h 1 (omega arith), ne_eqb h w m, lt-ltb 0 h pos, ne_eqb w h (λ q. m (sym q)), ne_eqb h 1 n)))

-- ---- a reference from a slot of an object in region w

module _ (p : Sizes) (t : List ℕ) (w x : ℕ) where
  -- g is the region that the code found there
  pub crosses-by : {g r : ℕ} → g ≡ region_of p t x → r ≡ other w g → r ≡ crosses_from p t w x
  crosses-by e f = f ∙ ap (other w) e

  pub crosses-null : x ≡ 0 → 0 ≡ crosses_from p t w x
  crosses-null z = crosses-by (region-null p t x z) (other-control w 0 (omega arith))

  pub crosses-named : (x ≡ 0 → ⊥) → page_of (cell_named x) < p.pages → other w (owner_of p t (page_of (cell_named x))) ≡ crosses_from p t w x
  crosses-named n l = crosses-by (region-there p t x n refl refl l refl) refl

  -- the reference crosses into h
  pub record Into (h : ℕ) : Type 0 where
    pub real : x ≡ 0 → ⊥
    pub page : page_of (cell_named x) < p.pages
    pub region : h ≡ owner_of p t (page_of (cell_named x))
    pub high : 1 < h
    pub other : h ≡ w → ⊥

  pub crosses-into : (h : ℕ) → h ≡ crosses_from p t w x → (h ≡ 0 → ⊥) → Into h
  crosses-into h e ne = go (ℕ_discrete x 0) (dec_lt (page_of (cell_named x)) p.pages) (dec_lt 1 g) (ℕ_discrete g w)
    where
      g : ℕ
      g = owner_of p t (page_of (cell_named x))

      go : Dec (x ≡ 0) → Dec (page_of (cell_named x) < p.pages) → Dec (1 < g) → Dec (g ≡ w) → Into h
      go (yes z) u l d = absurd (ne (e ∙ sym (crosses-null z)))
      go (no z) (no u) l d = absurd (ne (e ∙ sym (crosses-by (region-out p t x z refl refl (omega arith)) (other-control w 0 (omega arith)))))
      go (no z) (yes u) (no l) d = absurd (ne (e ∙ sym (crosses-named z u) ∙ sym (other-control w g (omega arith))))
      go (no z) (yes u) (yes l) (yes d) = absurd (ne (e ∙ sym (crosses-named z u) ∙ sym (other-same w g l d)))
      go (no z) (yes u) (yes l) (no d) =
          let v : h ≡ g = e ∙ sym (crosses-named z u) ∙ sym (other-yes w g l d) in
          record { real = z; page = u; region = v; high = omega arith; other = λ q. d (sym v ∙ q) }

  pub into-crosses : (h : ℕ) → Into h → h ≡ crosses_from p t w x
  into-crosses h v =
      v.region ∙ other-yes w (owner_of p t (page_of (cell_named x))) (omega (arith, v.high, v.region)) (λ z. v.other (v.region ∙ z))
      ∙ crosses-named v.real v.page

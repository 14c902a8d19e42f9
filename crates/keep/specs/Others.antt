-- The slots of objects in other regions than the control space, position by position through all pages: what each holds, and how a pass over
-- the pages, the cells in use and their references pushes it.
use Rattle.std.specs.Prelude.{◌≡◌, Bool, ◌&&◌, List, ℕ, ◌+◌, ◌-◌, ◌≤◌, ◌<◌, ltb, length, get_or}
use Rattle.std.proofs.Math.Path.{refl, sym, ap}
use Rattle.std.proofs.Common.{ap₂, ◌∙◌, subst, arith, lt-ltb, le-ltb, ltb-true}
use Rattle.std.proofs.Math.Bool.{true, false, cond}
use Rattle.std.proofs.Math.Decide.{dec_lt}
use Rattle.lists.specs.Says.{true-not-false}
use Rattle.lists.specs.Tests.{both_true}
use Rattle.rules.specs.declared.Sizes.{Sizes}
use Rattle.layout.specs.Places.{Room, owner_of, used_of, used_at, page_words}
use Rattle.layout.specs.Cells.{head_at, head_of, field_at, field_of, refs_of, most_fields, most-is, room_for, room_most, page_cells, page_of, cell_on, first_on, cell_of, page_at, page-on, field-page}
use Rattle.layout.specs.Objects.{Begins, begins-there, Slot, is_slot, slot-true, true-slot, slot-on, slot-word, field-slot, none_before, none_after, none-past}
use Rattle.promises.specs.Whole.{IsRef}
use Rattle.mark.specs.Marks.{Shaped, shaped-few, Kept, kept-head, kept-refs, kept_field, kept-owner, kept-in-use}
use Rattle.mark.specs.Pushes.{Pushing, pushing-kept, pushing-shaped}
use Rattle.keep.specs.PushRuns.{pushing-past, pushing-join}

-- position q is a slot of an object in another region
pub record OtherSlot (p : Sizes) (W T : List ℕ) (q : ℕ) : Type 0 where
  pub slot : Slot p W T q
  pub region : 1 < owner_of p T (page_at q)

abbrev is_other : Sizes → List ℕ → List ℕ → ℕ → Bool
is_other p W T q = is_slot p W T q && ltb 1 (owner_of p T (page_at q))

-- what it holds, null of any other position
unfoldable pub other_held : Sizes → List ℕ → List ℕ → ℕ → ℕ
other_held p W T q = cond (is_other p W T q) (get_or W q 0) 0

-- the same, counted from the first word of a page
abbrev pub page_held : Sizes → List ℕ → List ℕ → ℕ → ℕ → ℕ
page_held p W T page k = other_held p W T (head_at (first_on page) + k)

module _ (p : Sizes) (W T : List ℕ) (q : ℕ) where
  other-true : OtherSlot p W T q → is_other p W T q ≡ true
  other-true o = ap₂ ◌&&◌ (slot-true p W T q o.slot) (lt-ltb 1 (owner_of p T (page_at q)) o.region)

  true-other : is_other p W T q ≡ true → OtherSlot p W T q
  true-other e = let r = both_true _ _ e in record { slot = true-slot p W T q r.0; region = ltb-true _ _ r.1 }

  other? : Dec (OtherSlot p W T q)
  other? = go (is_other p W T q) refl
    where
      go : (b : Bool) → is_other p W T q ≡ b → Dec (OtherSlot p W T q)
      go true e = yes (true-other e)
      go false e = no (λ o. true-not-false (sym e ∙ other-true o))

  pub other-some : OtherSlot p W T q → other_held p W T q ≡ get_or W q 0
  unfolding other_held
  other-some o = ap (λ (b : Bool). cond b (get_or W q 0) 0) (other-true o)

  pub other_none : (OtherSlot p W T q → ⊥) → other_held p W T q ≡ 0
  unfolding other_held
  other_none n = go (is_other p W T q) refl
    where
      go : (b : Bool) → is_other p W T q ≡ b → cond b (get_or W q 0) 0 ≡ 0
      go true e = absurd (n (true-other e))
      go false e = refl

  -- so a position where a reference is held is such a slot
  pub held-other : (x : ℕ) → other_held p W T q ≡ 1 + x → OtherSlot p W T q × (get_or W q 0 ≡ 1 + x)
  held-other x e = go other?
    where
      go : Dec (OtherSlot p W T q) → OtherSlot p W T q × (get_or W q 0 ≡ 1 + x)
      go (yes o) = (o, sym (other-some o) ∙ e)
      go (no n) = absurd (let z : ⊥ = omega (arith, other_none n) in z)

  pub other-ref : Shaped p W T → IsRef p W T (other_held p W T q)
  other-ref s = go other?
    where
      go : Dec (OtherSlot p W T q) → IsRef p W T (other_held p W T q)
      go (yes o) =
          let d = o.slot in
          subst (IsRef p W T) (sym (other-some o)) (subst (λ (z : ℕ). IsRef p W T (get_or W z 0)) d.at ((s.objects d.object d.begins).references d.field d.low))
      go (no n) = λ l. absurd (let z : ⊥ = omega (arith, other_none n) in z)

-- ---- a marking changes none of it

kept_back : {p : Sizes} {W T W' T' : List ℕ} → Kept p W T W' T' → Kept p W' T' W T
kept_back k =
    record {
      cells-length = sym k.cells-length;
      tables-length = sym k.tables-length;
      cells = λ q n. sym (k.cells q n);
      tables = λ q n. sym (k.tables q n);
      high = λ q i h. sym (k.high q i h);
    }

kept_slot : {p : Sizes} {W T W' T' : List ℕ} → Kept p W T W' T' → Room p (length T) → (q : ℕ) → OtherSlot p W T q → OtherSlot p W' T' q
kept_slot {p} {W} {T} k room q o =
    let d = o.slot in
    record {
      slot = record {
        object = d.object;
        field = d.field;
        begins = kept-in-use k room d.object d.begins;
        room = subst (λ (h : ℕ). d.field < room_for h) (sym (kept-head k d.object)) d.room;
        low = omega (arith, d.low, kept-refs k d.object);
        at = d.at;
      };
      region = omega (arith, o.region, kept-owner k room (cell_of q) (slot-on p W T q d));
    }

pub kept-other : {p : Sizes} {W T W' T' : List ℕ} → Kept p W T W' T' → Room p (length T) → (q : ℕ) → other_held p W' T' q ≡ other_held p W T q
kept-other {p} {W} {T} {W'} {T'} k room q = go (other? p W T q)
  where
    go : Dec (OtherSlot p W T q) → other_held p W' T' q ≡ other_held p W T q
    go (yes o) =
        other-some p W' T' q (kept_slot k room q o) ∙ k.cells q (λ c b e. omega (arith, (slot-word p W T q o.slot).1)) ∙ sym (other-some p W T q o)
    go (no n) =
        other_none p W' T' q (λ o. n (kept_slot (kept_back k) (subst (Room p) (sym k.tables-length) room) q o)) ∙ sym (other_none p W T q n)

pub kept-used : {p : Sizes} {W T W' T' : List ℕ} → Kept p W T W' T' → Room p (length T) → (page : ℕ) → page < p.pages → used_of p T' page ≡ used_of p T page
kept-used {p} k room page l = k.tables (used_at p page) (λ q b e. omega (arith, room))

-- ---- a page

-- how many of its cells are in use by another region
unfoldable pub other_cells : Sizes → List ℕ → ℕ → ℕ
other_cells p T page = cond (ltb 1 (owner_of p T page)) (used_of p T page) 0

module _ (p : Sizes) (T : List ℕ) (page : ℕ) where
  -- n and o are its cells in use and its owner, as the code read them
  pub cells-some : {n o : ℕ} → o ≡ owner_of p T page → 1 < o → n ≡ used_of p T page → n ≡ other_cells p T page
  unfolding other_cells
  cells-some e l f = f ∙ sym (ap (λ (b : Bool). cond b (used_of p T page) 0) (lt-ltb 1 (owner_of p T page) (omega arith)))

  pub cells-none : {o : ℕ} → o ≡ owner_of p T page → o ≤ 1 → 0 ≡ other_cells p T page
  unfolding other_cells
  cells-none e l = sym (ap (λ (b : Bool). cond b (used_of p T page) 0) (le-ltb 1 (owner_of p T page) (omega arith)))

  cell-there : (place : ℕ) → place < other_cells p T page → (1 < owner_of p T page) × (place < used_of p T page)
  cell-there place l = go (dec_lt 1 (owner_of p T page))
    where
      go : Dec (1 < owner_of p T page) → (1 < owner_of p T page) × (place < used_of p T page)
      go (yes m) = (m, omega (arith, cells-some refl m refl))
      go (no n) = absurd (let z : ⊥ = omega (arith, cells-none refl (omega arith)) in z)

  pub cells-few : used_of p T page ≤ page_cells → other_cells p T page ≤ page_cells
  cells-few f = go (dec_lt 1 (owner_of p T page))
    where
      go : Dec (1 < owner_of p T page) → other_cells p T page ≤ page_cells
      go (yes m) = omega (arith, cells-some refl m refl)
      go (no n) = omega (arith, cells-none refl (omega arith))

  -- no such slot comes after them
  none_left : (W : List ℕ) (place q : ℕ) → other_cells p T page ≤ place → place ≤ page_cells → head_at (cell_on page place) ≤ q → q < head_at (cell_on (page + 1) 0) → OtherSlot p W T q → ⊥
  none_left W place q h i l m o =
      let e : page_at q ≡ page = omega arith in
      let own : 1 < owner_of p T page = subst (λ (z : ℕ). 1 < owner_of p T z) e o.region in
      none-past p W T q page place (omega (arith, cells-some refl own refl)) i l m o.slot

module _ {p : Sizes} {W T W' T' : List ℕ} {top t page place : ℕ} (s : Shaped p W T) (low : page < p.pages) (few : used_of p T page ≤ page_cells)
    (h : Pushing p 1 (page_held p W T page) W T top W' T' t (head_at place)) where
  -- a turn, of the cell b as the code has it
  module _ (b : ℕ) (e : b ≡ cell_on page place) (l : place < other_cells p T page) where
    there : Begins p W T b
    there = let u = (cell-there p T page place l).1 in subst (Begins p W T) (sym e) (begins-there p W T page place low (omega arith) u)

    pub cell-asks : Shaped p W' T' × Begins p W' T' b
    cell-asks = let k = pushing-kept s h in (pushing-shaped s h, kept-in-use k s.room b there)

    held-there : (f : ℕ) → f < refs_of W b → field_of W b f ≡ other_held p W T (field_at b f)
    held-there f m =
        let c = cell-there p T page place l in
        let few' : f < most_fields = omega (arith, shaped-few s b there) in
        let on : page_at (field_at b f) ≡ page = field-page b f few' ∙ ap page_of e ∙ page-on page place (omega (arith, c.1)) in
        sym
        (other-some p W T (field_at b f)
        (record { slot = field-slot p W T b f there (omega (arith, room_most (head_of W b))) m; region = subst (λ (z : ℕ). 1 < owner_of p T z) (sym on) c.0 }))

    pub cell-read : {W'' T'' : List ℕ} {t'' : ℕ} → Pushing p 1 (field_of W' b) W' T' t W'' T'' t'' (refs_of W' b)
        → Pushing p 1 (page_held p W T page) W T top W'' T'' t'' (head_at (place + 1))
    cell-read {W''} {T''} {t''} i =
        let k = pushing-kept s h in
        let n : ℕ = refs_of W' b in
        let same : n ≡ refs_of W b = kept-refs k b in
        let most : n ≤ 14 = omega (arith, shaped-few s b there, most-is) in
        let first = pushing-past (head_at place) 2 (λ j a m. other_none p W T _ (λ o. none_before p W T _ b (omega arith) (omega arith) o.slot)) h in
        let second =
        pushing-join (head_at place + 2) s first
        (λ j m.
        kept_field k b j (omega (arith, most-is)) ∙ held-there j (omega arith)
        ∙ ap (other_held p W T) (let z : field_at b j ≡ head_at (first_on page) + (head_at place + 2 + j) = omega arith in z)) i in
        subst (Pushing p 1 (page_held p W T page) W T top W'' T'' t'') (let z : head_at place + 2 + n + (14 - n) ≡ head_at (place + 1) = omega arith in z)
        (pushing-past (head_at place + 2 + n) (14 - n) (λ j a m. other_none p W T _ (λ o. none_after p W T _ b n (omega arith) (omega arith) (omega arith) o.slot)) second)

  -- and the end
  pub page-read : other_cells p T page ≤ place → place ≤ page_cells → Pushing p 1 (page_held p W T page) W T top W' T' t page_words
  page-read l m =
      subst (Pushing p 1 (page_held p W T page) W T top W' T' t) (let z : head_at place + (page_words - head_at place) ≡ page_words = omega arith in z)
      (pushing-past (head_at place) (page_words - head_at place) (λ j a b. other_none p W T _ (none_left p T page W place _ l m (omega arith) (omega arith))) h)

-- ---- all pages

module _ {p : Sizes} {W T W' T' : List ℕ} {top t : ℕ} (page : ℕ) (s : Shaped p W T) (h : Pushing p 1 (other_held p W T) W T top W' T' t (head_at (first_on page))) where
  pub page-asks : page < p.pages → used_of p T page ≤ page_cells → Shaped p W' T' × ((page < p.pages) × (used_of p T' page ≤ page_cells))
  page-asks l f = (pushing-shaped s h, (l, omega (arith, kept-used (pushing-kept s h) s.room page l)))

  pub pages-read : {W'' T'' : List ℕ} {t'' : ℕ} → Pushing p 1 (page_held p W' T' page) W' T' t W'' T'' t'' page_words → Pushing p 1 (other_held p W T) W T top W'' T'' t'' (head_at (first_on (page + 1)))
  pages-read {W''} {T''} {t''} i =
      subst (Pushing p 1 (other_held p W T) W T top W'' T'' t'') (let z : head_at (first_on page) + page_words ≡ head_at (first_on (page + 1)) = omega arith in z)
      (pushing-join (head_at (first_on page)) s h (λ j m. kept-other (pushing-kept s h) s.room (head_at (first_on page) + j)) i)

-- Which entries will not cross after the end of r: those of its own slots, and some of those into r. Every other crosses afterwards as it
-- does now, so those that cross are all entries less these.
use Rattle.std.specs.Prelude.{ℕ, zero, suc, ◌+◌, ◌-◌, ◌≤◌, ◌<◌, Bool, cond, List, ◌≡◌, refl, eqb, get_or}
use Rattle.std.proofs.Math.Path.{sym}
use Rattle.std.proofs.Common.{ap, ◌∙◌, arith, eq-eqb, ne_eqb}
use Rattle.std.proofs.Math.Decide.{ℕ_discrete}
use Rattle.lists.specs.Counting.{bit, sum, sum_same, sum-none, sum-plus, sum-add, sum_more, sum-high}
use Rattle.rules.specs.declared.Sizes.{Sizes}
use Rattle.layout.specs.Places.{owner_of, entries_used, slot_in, slot_region_in}
use Rattle.layout.specs.Cells.{work_of, page_of, page_at, cell_named}
use Rattle.layout.specs.Objects.{Begins}
use Rattle.remember.specs.Table.{Table}
use Rattle.remember.proofs.Crosses.{cross-slot, slot-cross, Into, crosses-into, other-yes}
use Rattle.chains.proofs.Walking.{Leads}
use Rattle.mark.specs.Marks.{Shaped, owner}
use Rattle.mark.specs.Holders.{Holding, slot-ref}
use Rattle.census.specs.After.{after-still, cross-out, slot_crosses, slot-le, slot-in, slot-out, entries_cross}
use Rattle.census.specs.OnPages.{entries_own}

-- the objects outside r stay: their word 1 is zero
abbrev pub OthersStay : Sizes → List ℕ → List ℕ → ℕ → Type 0
OthersStay p W T r = (c : ℕ) → Begins p W T c → (owner p T c ≡ r → ⊥) → work_of W c ≡ 0

-- 1 if entry i is into r and its slot will not cross, else 0
abbrev pub entry_goes : Sizes → List ℕ → List ℕ → List ℕ → ℕ → ℕ → ℕ
entry_goes p W m T r i = cond (eqb (slot_region_in p.entries m i) r) (1 - slot_crosses p W T r (slot_in m i)) 0

unfoldable pub entries_go : Sizes → List ℕ → List ℕ → List ℕ → ℕ → ℕ
entries_go p W m T r = sum (entry_goes p W m T r) (entries_used m)

-- the table of the entries
pub holding-table : {p : Sizes} {W m T : List ℕ} → Holding p W m T → Table p.entries m
holding-table h =
    let e = h.remember.entries in
    record { long = h.long; few = omega arith; room = e.room; rest = e.rest; rising = e.rising }

module _ (p : Sizes) (W m T : List ℕ) (r : ℕ) where
  goes-into : (i : ℕ) → slot_region_in p.entries m i ≡ r → entry_goes p W m T r i ≡ 1 - slot_crosses p W T r (slot_in m i)
  goes-into i e = ap (λ (b : Bool). cond b (1 - slot_crosses p W T r (slot_in m i)) 0) (eq-eqb (slot_region_in p.entries m i) r e)

  goes_other : (i : ℕ) → (slot_region_in p.entries m i ≡ r → ⊥) → entry_goes p W m T r i ≡ 0
  goes_other i n = ap (λ (b : Bool). cond b (1 - slot_crosses p W T r (slot_in m i)) 0) (ne_eqb (slot_region_in p.entries m i) r n)

  goes-le : (i : ℕ) → entry_goes p W m T r i ≤ 1
  goes-le i = go (ℕ_discrete (slot_region_in p.entries m i) r)
    where
      go : Dec (slot_region_in p.entries m i ≡ r) → entry_goes p W m T r i ≤ 1
      go (yes e) = omega (arith, goes-into i e)
      go (no e) = omega (arith, goes_other i e)

  go-few : (k : ℕ) → sum (entry_goes p W m T r) k ≤ k
  go-few k = omega (arith, sum-high (entry_goes p W m T r) 1 k (λ i l. goes-le i))

  -- ---- the walk along the chain of r, at word x: n of the entries before go
  pub record Walked (x n : ℕ) : Type 0 where
    pub from : ℕ
    pub low : from ≤ entries_used m
    pub leads : Leads r p.entries m from x
    pub goes : n ≡ sum (entry_goes p W m T r) from

  -- entries of other regions are passed over
  pass : (a b : ℕ) → a ≤ b → ((j : ℕ) → a ≤ j → j < b → slot_region_in p.entries m j ≡ r → ⊥) → sum (entry_goes p W m T r) b ≡ sum (entry_goes p W m T r) a
  pass a b l h =
      let e : b ≡ a + (b - a) = omega arith in
      ap (sum (entry_goes p W m T r)) e ∙ sum-add (entry_goes p W m T r) a (b - a)
      ∙ omega (arith, sum-none (λ j. entry_goes p W m T r (a + j)) (b - a) (λ j k. goes_other (a + j) (h (a + j) (omega arith) (omega arith))))

  pub walk_begins : {x : ℕ} → Leads r p.entries m 0 x → Walked x 0
  walk_begins l = record { from = 0; low = omega arith; leads = l; goes = refl }

  pub walk-few : {x n : ℕ} → Walked x n → (n ≤ entries_used m) × (0 < x → n < x)
  walk-few a = (omega (arith, go-few a.from, a.goes, a.low), λ l. omega (arith, go-few a.from, a.goes, a.leads.later l))

  -- k is whether the slot of the entry at hand will cross, y the next word
  pub walk-on : {x n n' y k : ℕ} → Walked x n → 0 < x → Leads r p.entries m x y → k ≡ slot_crosses p W T r (slot_in m (x - 1)) → n' ≡ n + (1 - k) → Walked y n'
  walk-on {x} a l next e f =
      record {
        from = x;
        low = a.leads.low;
        leads = next;
        goes =
            let q : x - 1 + 1 ≡ x = omega arith in
            let s = ap (sum (entry_goes p W m T r)) (sym q) ∙ sum_more (entry_goes p W m T r) (x - 1) in
            omega (arith, s, a.goes, pass a.from (x - 1) (omega (arith, a.leads.later l)) (a.leads.between l), goes-into (x - 1) (a.leads.region l));
      }

  pub walk_ends : {x n : ℕ} → Walked x n → x ≡ 0 → n ≡ entries_go p W m T r
  unfolding entries_go
  walk_ends a z = a.goes ∙ sym (pass a.from (entries_used m) a.low (a.leads.none z))

-- ---- all entries

module _ {p : Sizes} {W m T : List ℕ} {r : ℕ} (s : Shaped p W T) (h : Holding p W m T) (stay : OthersStay p W T r) where
  module _ (i : ℕ) (l : i < entries_used m) where
    abbrev q : ℕ
    q = slot_in m i

    into : Into p T (owner_of p T (page_at q)) (get_or W q 0) (slot_region_in p.entries m i)
    into =
        let n = h.remember.entries.named i l in
        crosses-into p T (owner_of p T (page_at q)) (get_or W q 0) (slot_region_in p.entries m i)
        (sym n.right ∙ slot-cross p W T q (cross-slot p W T q (omega (arith, n.region, n.right)))) (λ z. omega (arith, n.region))

    -- an entry of r's own slots is not into r
    own-elsewhere : owner_of p T (page_at q) ≡ r → slot_region_in p.entries m i ≡ r → ⊥
    own-elsewhere o g = into.other (g ∙ sym o)

    -- one of other slots into another region: what it points to stays, and it crosses
    crosses-on : (owner_of p T (page_at q) ≡ r → ⊥) → (slot_region_in p.entries m i ≡ r → ⊥) → slot_crosses p W T r q ≡ 1
    crosses-on o g =
        let v = into in
        let c : ℕ = cell_named (get_or W q 0) in
        let e : slot_region_in p.entries m i ≡ owner p T c = v.region in
        let idle = stay c (slot-ref h s i l (let n = v.real in omega arith)) (λ z. g (e ∙ z)) in
        let home = after-still p W T c (page_of c) (owner p T c) (work_of W c) refl idle refl refl in
        let high : 1 < owner p T c = omega (arith, v.high, e) in
        sym
        (slot-out p W T r q (page_at q) (owner_of p T (page_at q)) (get_or W q 0) 1 refl refl o refl
        (cross-out p W T (owner_of p T (page_at q)) (get_or W q 0) c (owner p T c) (owner p T c) v.real refl home (other-yes (owner_of p T (page_at q)) (owner p T c) high (λ z. v.other (e ∙ z))) (λ (z : owner p T c ≡ 0). omega arith)))

    one : slot_crosses p W T r q + (bit (eqb (owner_of p T (page_at q)) r) + entry_goes p W m T r i) ≡ 1
    one = go (ℕ_discrete (owner_of p T (page_at q)) r) (ℕ_discrete (slot_region_in p.entries m i) r)
      where
        go : Dec (owner_of p T (page_at q) ≡ r) → Dec (slot_region_in p.entries m i ≡ r)
            → slot_crosses p W T r q + (bit (eqb (owner_of p T (page_at q)) r) + entry_goes p W m T r i) ≡ 1
        go (yes o) (yes g) = absurd (own-elsewhere o g)
        go (yes o) (no g) =
            omega (arith, slot-in p W T r q (page_at q) (owner_of p T (page_at q)) refl refl o, ap bit (eq-eqb (owner_of p T (page_at q)) r o), goes_other p W m T r i g)
        go (no o) (yes g) = omega (arith, slot-le p W T r q, ap bit (ne_eqb (owner_of p T (page_at q)) r o), goes-into p W m T r i g)
        go (no o) (no g) = omega (arith, crosses-on o g, ap bit (ne_eqb (owner_of p T (page_at q)) r o), goes_other p W m T r i g)

  sum_ones : (n : ℕ) → sum (λ i. 1) n ≡ n
  sum_ones zero = refl
  sum_ones (suc n) = omega (arith, sum_ones n)

  pub all-entries : entries_cross p W m T r + (entries_own p m T r + entries_go p W m T r) ≡ entries_used m
  unfolding entries_own entries_go
  all-entries =
      let a = sum-plus (λ i. slot_crosses p W T r (slot_in m i)) (λ i. bit (eqb (owner_of p T (page_at (slot_in m i))) r) + entry_goes p W m T r i) (entries_used m) in
      let b = sum-plus (λ i. bit (eqb (owner_of p T (page_at (slot_in m i))) r)) (entry_goes p W m T r) (entries_used m) in
      let c = sum_same _ (λ i. 1) (entries_used m) one in
      omega (arith, a, b, c, sum_ones (entries_used m))

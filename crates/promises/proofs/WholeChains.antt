-- The entries of whole tables can be chained: their regions are among those that there are.
use Rattle.std.specs.Prelude.{ℕ, ◌-◌, ◌≤◌, ◌<◌, ◌≡◌, refl, List, Bool, true, false, cond, get_or, ltb, leb, eqb}
use Rattle.std.proofs.Common.{arith, sym, ap, subst, ltb-true}
use Rattle.rules.specs.declared.Sizes.{Sizes}
use Rattle.rules.specs.Regions.{regions}
use Rattle.layout.specs.Places.{sizes_at, owner_of, entries_used, slot_in}
use Rattle.layout.specs.Cells.{page_of, cell_of}
use Rattle.layout.specs.Objects.{is_slot}
use Rattle.layout.specs.Words.{Words, words}
use Rattle.remember.specs.Table.{region}
use Rattle.remember.specs.TableWords.{to-long, to_at}
use Rattle.remember.specs.Crossing.{other, region_of, cross_to}
use Rattle.chains.specs.Chains.{Chainable, ChainsWhole}
use Rattle.promises.specs.Whole.{WholeFor, WholeWords}
use Rattle.promises.specs.Slices.{slices, WholeSlices}
use Rattle.promises.proofs.OwnedPages.{owner-low}

cond-low : {x y n : ℕ} (b : Bool) → x ≤ n → y ≤ n → cond b x y ≤ n
cond-low true l h = l
cond-low false l h = h

-- a slot crosses into no region above all owners
module _ (p : Sizes) (t : List ℕ) (n : ℕ) (owners : (page : ℕ) → page < p.pages → owner_of p t page ≤ n) where
  region-low : (x : ℕ) → region_of p t x ≤ n
  region-low x = cond-low (eqb x 0) (omega arith) (go (ltb (page_of (x - 1)) p.pages) refl)
    where
      go : (b : Bool) → ltb (page_of (x - 1)) p.pages ≡ b → cond b (owner_of p t (page_of (x - 1))) 0 ≤ n
      go true e = owners (page_of (x - 1)) (ltb-true _ _ e)
      go false e = omega arith

  pub other-low : (o x : ℕ) → other o (region_of p t x) ≤ n
  other-low o x = cond-low (leb (region_of p t x) 1) (omega arith) (cond-low (eqb (region_of p t x) o) (omega arith) (region-low x))

  pub cross-low : (c : List ℕ) (q : ℕ) → cross_to p c t q ≤ n
  unfolding cross_to
  cross-low c q = cond-low (is_slot p c t q) (other-low (owner_of p t (page_of (cell_of q))) (get_or c q 0)) (omega arith)

pub whole-chainable : {s : Sizes} {w : Words} → WholeFor s w → Chainable s w.remember
whole-chainable {s} {w} k =
    record {
      threads = k.sized.range.threads-high;
      depth = k.sized.range.depth-high;
      entries = k.sized.range.entries-high;
      long = k.sized.remember;
      room = k.remember.entries.room;
      among = λ i l.
          let h : i < entries_used w.remember = omega (arith, to-long s.entries w.remember (entries_used w.remember)) in
          let e = k.remember.entries.named i h in
          let g = ap region (to_at s.entries w.remember (entries_used w.remember) i h) in
          let low = cross-low s w.tables (regions s) (owner-low s w k) w.cells (slot_in w.remember i) in
          (omega (arith, g, e.region), omega (arith, g, e.right, low));
    }

-- with the sizes as read from the tables
module _ {c m t : List ℕ} {p : Sizes} (k : WholeWords (words c m t)) (e : p ≡ sizes_at t) where
  pub read-chainable : Chainable p m
  read-chainable = subst (λ (q : Sizes). Chainable q m) (sym e) (whole-chainable k)

  pub found-whole : {x : List ℕ} → ChainsWhole p m x → WholeSlices (slices c m t x)
  found-whole {x} w = record { words = k; chains = subst (λ (q : Sizes). ChainsWhole q m x) e w }

pub read-other : {p q : Sizes} {m x : List ℕ} → p ≡ q → (ChainsWhole p m x → ⊥) → ChainsWhole q m x → ⊥
read-other {m = m} {x = x} e n w = n (subst (λ (s : Sizes). ChainsWhole s m x) (sym e) w)

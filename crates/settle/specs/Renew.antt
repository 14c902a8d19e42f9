-- The chains after an end: the new table can be chained, and where nothing came and no own slot went it is the old one with its last entries gone,
-- all of which pointed into the region.
use Rattle.std.specs.Prelude.{◌≡◌, refl, ◌≢◌, List, ℕ, zero, suc, ◌+◌, ◌-◌, ◌≤◌, ◌<◌, get_or}
use Rattle.std.proofs.Common.{ap, ◌∙◌, subst, inl, inr, arith}
use Rattle.std.proofs.Math.Decide.{dec_lt, ℕ_discrete}
use Rattle.lists.specs.Part.{Lists}
use Rattle.rules.specs.declared.Sizes.{Sizes}
use Rattle.rules.specs.Regions.{regions}
use Rattle.layout.specs.Places.{owner_of, entries_used, slot_in, slot_region_in, first_in}
use Rattle.layout.specs.Cells.{page_at, at-page}
use Rattle.remember.specs.Table.{region}
use Rattle.remember.specs.TableWords.{to-long, to_at}
use Rattle.remember.specs.Entries.{Rising}
use Rattle.remember.specs.Filtered.{Unchanged}
use Rattle.remember.specs.Staying.{new_region, new-stays, new-bound}
use Rattle.chains.specs.Chains.{Chainable, ChainsWhole}
use Rattle.chains.specs.Cutting.{CutsTo}
use Rattle.promises.proofs.WholeChains.{other-low}
use Rattle.settle.specs.Update.{Settles, Updated, NewEntry}
use Rattle.settle.specs.Touched.{NotOwn, Chained, not_own, others, untouched}

-- ---- what the renewing asks

-- of the chains K of a table M with u entries, which became M'. k entries were not touched, and o is the place of the first that was of an own slot.
pub record ChainsRenewed (p : Sizes) (r k o u : ℕ) (M M' K : List ℕ) : Type 0 where
  pub whole : ChainsWhole p M K
  pub room : entries_used M ≤ p.entries
  pub counted : u ≡ entries_used M
  pub after : Chainable p M'
  pub low : 1 ≤ r
  pub high : r ≤ regions p
  pub few : k ≤ u
  pub cut : o ≡ u → entries_used M' ≡ k → CutsTo r p.entries k M M'

-- ---- as many entries as stay: each keeps its place

-- entry i of M stands at place e of M', which has k
record StandsAt (N k : ℕ) (M M' : List ℕ) (i e : ℕ) : Type 0 where
  low : e < k
  slot : slot_in M' e ≡ slot_in M i
  region : slot_region_in N M' e ≡ slot_region_in N M i

module _ {N k u : ℕ} {M M' : List ℕ} (rise : Rising M u) (rise' : Rising M' k) (few : k ≤ u) (all : (i : ℕ) → i < k → (e : ℕ) × StandsAt N k M M' i e) where
  later : (i j a b : ℕ) → i < j → j < u → StandsAt N k M M' i a → StandsAt N k M M' j b → a < b
  later i j a b l h x y = go (dec_lt a b) (ℕ_discrete a b)
    where
      go : Dec (a < b) → Dec (a ≡ b) → a < b
      go (yes z) s = z
      go (no z) (yes s) = absurd (let w : ⊥ = omega (arith, rise i j l h, x.slot, y.slot, ap (slot_in M') s) in w)
      go (no z) (no s) = absurd (let w : ⊥ = omega (arith, rise i j l h, x.slot, y.slot, rise' b a (omega arith) x.low) in w)

  not-before : (i e : ℕ) → i < u → i ≤ k → StandsAt N k M M' i e → i ≤ e
  not-before zero e l h x = omega arith
  not-before (suc i) e l h x = let y = all i (omega arith) in omega (arith, later i (suc i) y.0 e (omega arith) l y.1 x, not-before i y.0 (omega arith) (omega arith) y.1)

  -- of the last n
  not_after : (n i e : ℕ) → i + suc n ≡ k → StandsAt N k M M' i e → e ≤ i
  not_after zero i e q x = omega (arith, x.low)
  not_after (suc n) i e q x =
      let y = all (suc i) (omega arith) in
      omega (arith, later i (suc i) e y.0 (omega arith) (omega arith) x y.1, not_after n (suc i) y.0 (omega arith) y.1)

  keeps-place : (i : ℕ) → i < k → slot_region_in N M' i ≡ slot_region_in N M i
  keeps-place i l =
      let y = all i l in
      let e : i ≡ y.0 = omega (arith, not-before i y.0 (omega arith) (omega arith) y.1, not_after (k - suc i) i y.0 (omega arith) y.1) in
      ap (slot_region_in N M') e ∙ y.1.region

  -- and no entry after them is there
  no_more : (i e : ℕ) → k ≤ i → i < u → StandsAt N k M M' i e → ⊥
  no_more i e l h x = go (ℕ_discrete k 0)
    where
      go : Dec (k ≡ 0) → ⊥
      go (yes z) = omega (arith, x.low)
      go (no z) =
          let y = all (k - 1) (omega arith) in
          omega (arith, x.low, later (k - 1) i y.0 e (omega arith) h y.1 x, not-before (k - 1) y.0 (omega arith) (omega arith) y.1)

-- ---- after an end

above-none : {h : ℕ} → h ≢ 0 → 1 ≤ h
above-none {h} z = go (ℕ_discrete h 0)
  where
    go : Dec (h ≡ 0) → 1 ≤ h
    go (yes e) = absurd (z e)
    go (no e) = omega arith

module _ {p : Sizes} {r : ℕ} {W M T M' K : List ℕ} (c : Chained p r M T K) (up : Updated p r p.entries (entries_used M) W M T M') where
  bounded : (x h : ℕ) → NewEntry p r p.entries (entries_used M) W M T x h → (1 ≤ h) × (h ≤ regions p)
  bounded x h (inl q) =
      let v = c.chainable.among q.entry (omega (arith, to-long p.entries M (entries_used M), q.low)) in
      let g = ap region (to_at p.entries M (entries_used M) q.entry q.low) in (
        above-none q.kept,
        omega (
          arith,
          q.region,
          new-bound p r W T (slot_in M q.entry) (slot_region_in p.entries M q.entry) (regions p) (omega (arith, v.1, g))
              (other-low p T (regions p) c.owners (owner_of p T (page_at (slot_in M q.entry))) (get_or W (slot_in M q.entry) 0)),
        ),
      )
  bounded x h (inr q) = (above-none q.kept, omega (arith, q.region, other-low p T (regions p) c.owners (owner_of p T (page_at x)) (get_or W x 0)))

  pub chainable-after : Chainable p M'
  chainable-after =
      record {
        threads = c.chainable.threads;
        depth = c.chainable.depth;
        entries = c.chainable.entries;
        long = omega (arith, c.chainable.long, up.edited.long);
        room = up.entries.room;
        among = λ i l.
            let h : i < entries_used M' = omega (arith, to-long p.entries M' (entries_used M')) in
            let g = ap region (to_at p.entries M' (entries_used M') i h) in
            let b = bounded (slot_in M' i) (slot_region_in p.entries M' i) (up.entries.named i h) in
            (omega (arith, g, b.0), omega (arith, g, b.1));
      }

  -- the first k entries are not touched, and no slot is own; as many entries are left
  module _ {k : ℕ} (rise : Rising M (entries_used M)) (few : k ≤ entries_used M) (others : (i : ℕ) → i < k → slot_region_in p.entries M i ≢ r)
      (own : (i : ℕ) → i < entries_used M → owner_of p T (page_at (slot_in M i)) ≢ r) (left : entries_used M' ≡ k) where
    stands : (i : ℕ) → i < entries_used M → slot_region_in p.entries M i ≢ r → (e : ℕ) × StandsAt p.entries k M M' i e
    stands i l d =
        let g = ap region (to_at p.entries M (entries_used M) i l) in
        let v = c.chainable.among i (omega (arith, to-long p.entries M (entries_used M))) in
        let y = up.every (slot_in M i) (slot_region_in p.entries M i)
        (inl (record { entry = i; low = l; slot = refl; region = new-stays p r W T (slot_in M i) (slot_region_in p.entries M i) (own i l) d; kept = λ z. omega (arith, v.0, g) })) in
        (y.entry, record { low = omega (arith, y.low); slot = y.slot; region = y.region })

    rise' : Rising M' k
    rise' = subst (Rising M') left up.entries.rising

    all : (i : ℕ) → i < k → (e : ℕ) × StandsAt p.entries k M M' i e
    all i l = stands i (omega arith) (others i l)

    pub cuts : CutsTo r p.entries k M M'
    cuts =
        record {
          low = few;
          used = left;
          same = keeps-place rise rise' few all;
          others = others;
          gone = λ i l h. go i l h (ℕ_discrete (slot_region_in p.entries M i) r);
        }
      where
        go : (i : ℕ) → k ≤ i → i < entries_used M → Dec (slot_region_in p.entries M i ≡ r) → slot_region_in p.entries M i ≡ r
        go i l h (yes e) = e
        go i l h (no d) = let y = stands i h d in absurd (no_more rise rise' few all i y.0 l h y.1)

-- as the code has it: o is the first place of an own slot, k the first that is touched
module _ {p : Sizes} {r n k o : ℕ} {l W₀ M T K : List ℕ} (s : Settles p r p.entries (entries_used M) W₀ M T) (c : Chained p r M T K)
    (h : Lists (λ page. owner_of p T page ≡ r) p.pages n l) (most : o ≤ entries_used M) (own : NotOwn l n o M) (le : k ≤ o) (before : 0 < first_in K r → k < first_in K r) where
  on-pages : (i : ℕ) → i < entries_used M → page_at (slot_in M i) < p.pages
  on-pages i v = at-page p (slot_in M i) (s.entries.low i v)

  pub passed : (W : List ℕ) → Unchanged (new_region p r W T) p.entries k M
  passed = untouched c h (λ i v. on-pages i (omega arith)) (omega arith) (λ i v. own i (omega arith)) before

  pub renew-ask : {u : ℕ} {W M' : List ℕ} → u ≡ entries_used M → Updated p r p.entries (entries_used M) W M T M' → ChainsRenewed p r k o u M M' K
  renew-ask e up =
      record {
        whole = c.whole;
        room = c.chainable.room;
        counted = e;
        after = chainable-after c up;
        low = c.low;
        high = c.high;
        few = omega arith;
        cut = λ q z.
            cuts c up s.entries.rising (omega arith) (others c h (λ i v. on-pages i (omega arith)) (omega arith) (λ i v. own i (omega arith)) before)
            (not_own c h on-pages (omega arith) (λ i v. own i (omega arith))) z;
      }

-- Which entries an end touches: those of slots on the ending region's pages, and those into the region. The pages are listed in rising number and
-- the slots rise, so the first listed page with an entry has the first of the own ones.
use Rattle.std.specs.Prelude.{◌≡◌, refl, ◌≢◌, List, ℕ, ◌+◌, ◌*◌, ◌≤◌, ◌<◌, get_or}
use Rattle.std.proofs.Common.{sym, ap, ◌∙◌, arith}
use Rattle.std.proofs.Math.Decide.{dec_lt, ℕ_discrete}
use Rattle.lists.specs.Part.{Rises, Off, Lists, cut-here}
use Rattle.rules.specs.declared.Sizes.{Sizes}
use Rattle.rules.specs.Regions.{regions}
use Rattle.layout.specs.Places.{owner_of, entries_used, slot_in, slot_region_in, first_in}
use Rattle.layout.specs.Cells.{page_at, cell_words, first_on}
use Rattle.remember.specs.Table.{region}
use Rattle.remember.specs.TableWords.{to-long, to_at}
use Rattle.remember.specs.Finding.{Between}
use Rattle.remember.specs.Filtered.{Unchanged}
use Rattle.remember.specs.Staying.{new_region, new-stays}
use Rattle.chains.specs.Chains.{Chainable, ChainsWhole}
use Rattle.chains.proofs.Walking.{Leads, first-leads}

-- ---- own slots

-- no entry's slot lies on one of the first a listed pages
abbrev pub PagesPassed : List ℕ → ℕ → List ℕ → Type 0
PagesPassed l a M = (b : ℕ) → b < a → (i : ℕ) → i < entries_used M → page_at (slot_in M i) ≢ get_or l b 0

-- the slots of the first k entries lie on other pages
abbrev pub NotOwn : List ℕ → ℕ → ℕ → List ℕ → Type 0
NotOwn l n k M = (i : ℕ) → i < k → Off l n (page_at (slot_in M i))

-- x is the listed page a, and i the place of its first word
module _ {P n a x i : ℕ} {l M : List ℕ} (r : Rises P n l) (lt : a < n) (e : x ≡ get_or l a 0) (b : Between M (cell_words * first_on x) i i) (h : PagesPassed l a M) where
  pub own-from : NotOwn l n i M
  own-from j u c v q = go (dec_lt c a)
    where
      go : Dec (c < a) → ⊥
      go (yes z) = h c z j (omega (arith, b.within)) (sym q)
      go (no z) = omega (arith, b.below j u, (cut-here a x r lt e).ahead c (omega arith) v)

  -- the entry there lies past the page
  pub own-none : (rising : (j k : ℕ) → j < k → k < entries_used M → slot_in M j < slot_in M k) → i < entries_used M → page_at (slot_in M i) ≢ x → PagesPassed l (a + 1) M
  own-none rising low d c v j u = go (ℕ_discrete c a) (dec_lt j i) (ℕ_discrete j i)
    where
      at : cell_words * first_on x ≤ slot_in M i
      at = b.above i (omega arith) low

      go : Dec (c ≡ a) → Dec (j < i) → Dec (j ≡ i) → page_at (slot_in M j) ≢ get_or l c 0
      go (no z) s t q = h c (omega arith) j u q
      go (yes z) (yes s) t q = omega (arith, b.below j s, ap (λ (k : ℕ). get_or l k 0) z)
      go (yes z) (no s) (yes t) q = d (sym (ap (λ (k : ℕ). page_at (slot_in M k)) t) ∙ q ∙ ap (λ (k : ℕ). get_or l k 0) z ∙ sym e)
      go (yes z) (no s) (no t) q = omega (arith, rising i j (omega arith) u, at, d', ap (λ (k : ℕ). get_or l k 0) z)
        where
          d' : cell_words * first_on (x + 1) ≤ slot_in M i
          d' = past (dec_lt (slot_in M i) (cell_words * first_on (x + 1)))
            where
              past : Dec (slot_in M i < cell_words * first_on (x + 1)) → cell_words * first_on (x + 1) ≤ slot_in M i
              past (yes w) = absurd (d (let f : page_at (slot_in M i) ≡ x = omega (arith, at) in f))
              past (no w) = omega arith

-- ---- what an end asks of the chains

pub record Chained (p : Sizes) (r : ℕ) (M T K : List ℕ) : Type 0 where
  pub chainable : Chainable p M
  pub whole : ChainsWhole p M K
  pub low : 1 ≤ r
  pub high : r ≤ regions p
  pub owners : (page : ℕ) → page < p.pages → owner_of p T page ≤ regions p

-- the first k entries are not touched: their slots are not own, and the first word of the region leads to none of them
module _ {p : Sizes} {r n k : ℕ} {l M T K : List ℕ} (c : Chained p r M T K) (h : Lists (λ page. owner_of p T page ≡ r) p.pages n l)
    (slots : (i : ℕ) → i < k → page_at (slot_in M i) < p.pages) (few : k ≤ entries_used M) (own : NotOwn l n k M) where
  pub not_own : (i : ℕ) → i < k → owner_of p T (page_at (slot_in M i)) ≢ r
  not_own i u q = h.all (page_at (slot_in M i)) (slots i u) q (own i u)

  module _ (before : 0 < first_in K r → k < first_in K r) where
    pub others : (i : ℕ) → i < k → slot_region_in p.entries M i ≢ r
    others i u q = go (dec_lt 0 (first_in K r))
      where
        lead : Leads r p.entries M 0 (first_in K r)
        lead = first-leads c.chainable.room c.whole r c.low c.high refl

        go : Dec (0 < first_in K r) → ⊥
        go (yes z) = lead.between z i (omega arith) (omega (arith, before z)) q
        go (no z) = lead.none (omega arith) i (omega arith) (omega arith) q

    pub untouched : (W : List ℕ) → Unchanged (new_region p r W T) p.entries k M
    untouched W i u =
        let v : i < entries_used M = omega arith in (
          sym (new-stays p r W T (slot_in M i) (slot_region_in p.entries M i) (not_own i u) (others i u)),
          omega (arith, ap region (to_at p.entries M (entries_used M) i v), (c.chainable.among i (omega (arith, to-long p.entries M (entries_used M)))).0),
        )

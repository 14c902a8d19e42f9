-- The last entries go, and all of them were of one region, which had no other: its first word and the next words of those entries become 0.
use Rattle.std.specs.Prelude.{ℕ, zero, suc, ◌+◌, ◌-◌, ◌≤◌, ◌<◌, List, ◌++◌, ◌≡◌, length, get_or, set, drop}
use Rattle.std.proofs.Common.{sym, ap, ap₂, ◌∙◌, subst₂, arith, length-set, length-drop, take-append-drop, ext_get_or, get_or-drop}
use Rattle.std.proofs.Math.Decide.{dec_lt, ℕ_discrete}
use Rattle.lists.specs.Stores.{put, past}
use Rattle.lists.specs.Zeros.{Cleared}
use Rattle.rules.specs.declared.Sizes.{Sizes}
use Rattle.rules.specs.Regions.{regions}
use Rattle.layout.specs.Places.{entries_used, slot_region_in, first_at}
use Rattle.remember.specs.Table.{Entry, region, nth_region, entries_in}
use Rattle.remember.specs.TableWords.{to-long, to_at}
use Rattle.chains.specs.Chains.{chains_of, ChainsWhole, with_chains}
use Rattle.chains.specs.Firsts.{first_from, next_of}
use Rattle.chains.proofs.Firsts.{first-end, first-here, first-other, next-is, next-end}
use Rattle.chains.specs.Linking.{Firsts}
use Rattle.chains.proofs.Linking.{agreed, agreed-first, agreed-next}
use Rattle.chains.proofs.Walking.{whole_long}
use Rattle.chains.specs.Cutting.{CutsTo}

module _ {g N k : ℕ} {m m' : List ℕ} (c : CutsTo g N k m m') where
  abbrev es : List Entry
  es = entries_in N m

  abbrev es' : List Entry
  es' = entries_in N m'

  long : length es ≡ entries_used m
  long = to-long N m (entries_used m)

  long' : length es' ≡ k
  long' = to-long N m' (entries_used m') ∙ c.used

  at : (i : ℕ) → i < entries_used m → nth_region es i ≡ slot_region_in N m i
  at i l = ap region (to_at N m (entries_used m) i l)

  at' : (i : ℕ) → i < k → nth_region es' i ≡ slot_region_in N m i
  at' i l = ap region (to_at N m' (entries_used m') i (omega (arith, c.used))) ∙ c.same i l

  -- the first of another region, among the last n entries
  first-same : (h : ℕ) → (h ≡ g → ⊥) → (n i : ℕ) → i + n ≡ entries_used m → first_from h es' i ≡ first_from h es i
  first-same h d zero i e = first-end h es' i (omega (arith, long', c.low)) ∙ sym (first-end h es i (omega (arith, long)))
  first-same h d (suc n) i e = go (dec_lt i k) (ℕ_discrete (slot_region_in N m i) h) (first-same h d n (suc i) (omega arith))
    where
      low : i < entries_used m
      low = omega arith

      go : Dec (i < k) → Dec (slot_region_in N m i ≡ h) → first_from h es' (suc i) ≡ first_from h es (suc i) → first_from h es' i ≡ first_from h es i
      go (yes l) (yes q) rest = first-here h es' i (omega (arith, long')) (at' i l ∙ q) ∙ sym (first-here h es i (omega (arith, long)) (at i low ∙ q))
      go (yes l) (no q) rest =
          first-other h es' i (omega (arith, long')) (λ z. q (sym (at' i l) ∙ z)) ∙ rest
          ∙ sym (first-other h es i (omega (arith, long)) (λ z. q (sym (at i low) ∙ z)))
      go (no l) q rest =
          first-end h es' i (omega (arith, long')) ∙ sym (first-end h es' (suc i) (omega (arith, long'))) ∙ rest
          ∙ sym (first-other h es i (omega (arith, long)) (λ z. d (sym z ∙ at i low ∙ c.gone i (omega arith) low)))

  -- the region itself has none
  first-gone : (n i : ℕ) → i + n ≡ k → first_from g es' i ≡ 0
  first-gone zero i e = first-end g es' i (omega (arith, long'))
  first-gone (suc n) i e =
      first-other g es' i (omega (arith, long')) (λ z. c.others i (omega arith) (sym (at' i (omega arith)) ∙ z)) ∙ first-gone n (suc i) (omega arith)

  next-same : (i : ℕ) → i < k → next_of es' i ≡ next_of es i
  next-same i l =
      let low : i < entries_used m = omega (arith, c.low) in
      next-is es' i (omega (arith, long')) ∙ ap (λ (h : ℕ). first_from h es' (suc i)) (at' i l)
      ∙ first-same (slot_region_in N m i) (c.others i l) (entries_used m - suc i) (suc i) (omega arith)
      ∙ sym (next-is es i (omega (arith, long)) ∙ ap (λ (h : ℕ). first_from h es (suc i)) (at i low))

  -- the words f of the chains of m become f'
  module _ (R : ℕ) (f : List ℕ) {f₁ f' : List ℕ} (room : entries_used m ≤ N) (wide : R + N ≤ length f) (firsts : Firsts R es 0 f)
      (nexts : (j : ℕ) → j < N → get_or f (R + j) 0 ≡ next_of es j) (low : 1 ≤ g) (high : g ≤ R) (e : f₁ ≡ set f (g - 1) 0)
      (z : Cleared (R + k) (R + entries_used m) f₁ f') where
    still : (j : ℕ) → (j ≡ g - 1 → ⊥) → get_or f₁ j 0 ≡ get_or f j 0
    still j d = ap (λ (w : List ℕ). get_or w j 0) e ∙ past f (g - 1) 0 j 0 d

    cut-long : length f' ≡ length f
    cut-long = z.long ∙ ap length e ∙ length-set f (g - 1) 0

    cut-firsts : Firsts R es' 0 f'
    cut-firsts r l = z.low r (omega arith) ∙ go (ℕ_discrete (suc r) g)
      where
        go : Dec (suc r ≡ g) → get_or f₁ r 0 ≡ first_from (suc r) es' 0
        go (yes q) =
            let v : r ≡ g - 1 = omega arith in
            ap (λ (w : List ℕ). get_or w r 0) e ∙ ap (λ (j : ℕ). get_or (set f (g - 1) 0) j 0) v ∙ put f (g - 1) 0 0 (omega arith)
            ∙ sym (ap (λ (h : ℕ). first_from h es' 0) q ∙ first-gone k 0 (omega arith))
        go (no q) = still r (λ (v : r ≡ g - 1). q (omega arith)) ∙ firsts r l ∙ sym (first-same (suc r) q (entries_used m) 0 (omega arith))

    cut-nexts : (j : ℕ) → j < N → get_or f' (R + j) 0 ≡ next_of es' j
    cut-nexts j l = go (dec_lt j k) (dec_lt j (entries_used m))
      where
        go : Dec (j < k) → Dec (j < entries_used m) → get_or f' (R + j) 0 ≡ next_of es' j
        go (yes a) b = z.low (R + j) (omega arith) ∙ still (R + j) (λ (v : R + j ≡ g - 1). omega arith) ∙ nexts j l ∙ sym (next-same j a)
        go (no a) (yes b) = z.zeros (R + j) (omega arith) (omega arith) ∙ sym (next-end es' j (omega (arith, long')))
        go (no a) (no b) =
            z.high (R + j) (omega arith) ∙ still (R + j) (λ (v : R + j ≡ g - 1). omega arith) ∙ nexts j l ∙ next-end es j (omega (arith, long))
            ∙ sym (next-end es' j (omega (arith, long')))

    cut-rest : drop (R + N) f' ≡ drop (R + N) f
    cut-rest =
        ext_get_or 0 (drop (R + N) f') (drop (R + N) f) (omega (arith, length-drop (R + N) f', length-drop (R + N) f, cut-long))
        (λ j l. get_or-drop (R + N) f' j 0 ∙ z.high (R + N + j) (omega arith) ∙ still (R + N + j) (λ (v : R + N + j ≡ g - 1). omega arith) ∙ sym (get_or-drop (R + N) f j 0))

    pub cut-words : f' ≡ chains_of R N es' ++ drop (R + N) f
    cut-words =
        sym (take-append-drop (R + N) f')
        ∙ ap₂ ◌++◌ (agreed R N es' f' (omega (arith, long', c.low)) (omega (arith, cut-long)) cut-firsts cut-nexts) cut-rest

-- the words of the lent slice: region g's first word becomes 0, and so do the next words of the entries that go
pub cut-chains : {s : Sizes} {g k : ℕ} {m m' f f₁ f' : List ℕ} → entries_used m ≤ s.entries → ChainsWhole s m f → CutsTo g s.entries k m m' → 1 ≤ g → g ≤ regions s
    → (h : ℕ) {a b x : ℕ} → f₁ ≡ set f (first_at h) x → Cleared a b f₁ f' → h ≡ g → x ≡ 0 → a ≡ regions s + k → b ≡ regions s + entries_used m → f' ≡ with_chains s m' f
cut-chains {s} {g} {k} {m} {m'} {f} {f₁} {f'} room w c low high h e z eh ex ea eb =
    let few : length (entries_in s.entries m) ≤ s.entries = omega (arith, to-long s.entries m (entries_used m)) in
    cut-words c (regions s) f room (whole_long room w) (agreed-first (regions s) s.entries (entries_in s.entries m) f few (whole_long room w) w.words)
    (agreed-next (regions s) s.entries (entries_in s.entries m) f few (whole_long room w) w.words) low high (e ∙ ap₂ (λ (i y : ℕ). set f (first_at i) y) eh ex)
    (subst₂ (λ (x y : ℕ). Cleared x y f₁ f') ea eb z)

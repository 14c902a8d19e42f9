-- The chains after an entry comes, goes or gets another region are those of the entries then.
use Rattle.std.specs.Prelude.{ℕ, suc, ◌+◌, ◌-◌, ◌^◌, ◌≤◌, ◌<◌, List, ◌++◌, ◌≡◌, length, get_or, set, take, drop}
use Rattle.std.proofs.Common.{sym, ap, ap₂, subst, ◌∙◌, arith, length-set, ext_get_or}
use Rattle.std.proofs.Math.Decide.{ℕ_discrete, dec_lt}
use Rattle.lists.specs.Stores.{put, past}
use Rattle.rules.specs.declared.Sizes.{Sizes}
use Rattle.rules.specs.Regions.{regions}
use Rattle.layout.specs.Places.{entries_used, slot_region_at, slot_region_in, chains_words}
use Rattle.remember.specs.Table.{Entry, entry, region, unused, nth_slot, nth_region, entries_in, with_entries, inserted, removed, Table}
use Rattle.remember.specs.TableWords.{HoldsEntries, to-long, to_at, written-becomes}
use Rattle.remember.specs.Edits.{inserted-long, inserted_below, inserted-here, inserted_above, removed-long, removed-below, removed-above}
use Rattle.remember.specs.EntryEdits.{change-written}
use Rattle.chains.specs.Chains.{Among, Chainable, ChainsWhole, chains_of, with_chains}
use Rattle.chains.proofs.Walking.{whole_long}
use Rattle.linking.specs.Words.{Chained, chained-onward}
use Rattle.linking.specs.Shifting.{Opened, opened-chained, Closed, closed-chained}
use Rattle.linking.specs.Joining.{Linked, linked_long, linked-else, linked-chains, Unlinked, unlinked-long, unlinked-else, unlinked-chains}
use Rattle.linking.specs.ByEntries.{word_region, region-first, region-next, chains-chained, chains-rest, chained-chains, begins-with, without, without-here, without-else, Lacks, lacks-parted, same-else}

-- lent words, with the chains of these entries in them; the words past them stay
abbrev pub with_chains_of : Sizes → List Entry → List ℕ → List ℕ
with_chains_of p es k = chains_of (regions p) p.entries es ++ drop (chains_words p) k

-- ---- the entries

inserted-lacks : (q : ℕ) (e : Entry) (es : List Entry) → q ≤ length es → Lacks q es (inserted q e es)
inserted-lacks q e es l = record {
  below = λ j h. ap region (inserted_below unused e q es j l h);
  above = λ j h. let v : suc j - 1 ≡ j = omega arith in ap region (inserted_above unused e q es (suc j) l (omega arith)) ∙ ap (nth_region es) v;
}

removed-lacks : (q : ℕ) (es : List Entry) → q < length es → Lacks q (removed q es) es
removed-lacks q es l = record {
  below = λ j h. sym (ap region (removed-below unused q es j l h));
  above = λ j h. let v : suc j ≡ j + 1 = omega arith in ap (nth_region es) v ∙ sym (ap region (removed-above unused q es j l h));
}

module _ (R q : ℕ) (es es' : List Entry) (l : Lacks q es es') (long : length es' ≡ suc (length es)) where
  among-more : Among R es → q ≤ length es → 1 ≤ nth_region es' q → nth_region es' q ≤ R → Among R es'
  among-more a low pos high i b = go (dec_lt i q) (dec_lt q i)
    where
      go : Dec (i < q) → Dec (q < i) → (1 ≤ nth_region es' i) × (nth_region es' i ≤ R)
      go (yes h) t = subst (λ (g : ℕ). (1 ≤ g) × (g ≤ R)) (sym (l.below i h)) (a i (omega arith))
      go (no h) (yes t) =
          let v : suc (i - 1) ≡ i = omega arith in
          subst (λ (g : ℕ). (1 ≤ g) × (g ≤ R)) (sym (ap (nth_region es') (sym v) ∙ l.above (i - 1) (omega arith))) (a (i - 1) (omega arith))
      go (no h) (no t) = let v : q ≡ i = omega arith in subst (λ (j : ℕ). (1 ≤ nth_region es' j) × (nth_region es' j ≤ R)) v (pos, high)

  among-less : Among R es' → Among R es
  among-less a i b = go (dec_lt i q)
    where
      go : Dec (i < q) → (1 ≤ nth_region es i) × (nth_region es i ≤ R)
      go (yes h) = subst (λ (g : ℕ). (1 ≤ g) × (g ≤ R)) (l.below i h) (a i (omega arith))
      go (no h) = subst (λ (g : ℕ). (1 ≤ g) × (g ≤ R)) (l.above i (omega arith)) (a (suc i) (omega arith))

-- ---- a table with its chains

-- the table is as it was

-- with the number of the last region, as read
module _ {p : Sizes} {m k : List ℕ} (t : Chainable p m) (whole : ChainsWhole p m k) {R : ℕ} (last : R ≡ regions p) where
  abbrev N : ℕ
  N = p.entries

  abbrev es : List Entry
  es = entries_in N m

  abbrev f : ℕ → ℕ
  f = word_region R es

  es-long : length es ≡ entries_used m
  es-long = to-long N m (entries_used m)

  few : length es ≤ N
  few = omega (arith, es-long, t.room)

  pub room : R + N ≤ length k
  room = omega (arith, whole_long t.room whole)

  among : Among R es
  among = subst (λ (r : ℕ). Among r es) (sym last) t.among

  words : take (R + N) k ≡ chains_of R N es
  words = subst (λ (r : ℕ). take (r + N) k ≡ chains_of r N es) (sym last) whole.words

  start : Chained R (R + length es) f k
  start = chains-chained R es N k few room among words

  rest : (j : ℕ) → R + length es ≤ j → j < R + N → get_or k j 0 ≡ 0
  rest = chains-rest R es N k few room among words

  -- the chains of other entries
  finally : (es' : List Entry) {k' : List ℕ} → length es' ≤ N → Among R es' → Chained R (R + length es') (word_region R es') k' → length k' ≡ length k
      → ((j : ℕ) → R + length es' ≤ j → j < R + N → get_or k' j 0 ≡ 0) → ((j : ℕ) → R + N ≤ j → get_or k' j 0 ≡ get_or k j 0) → k' ≡ with_chains_of p es' k
  finally es' {k'} l a c long z h =
      begins-with (R + N) k k' _ long h (chained-chains R es' N k' l (omega (arith, room)) a c z)
      ∙ ap (λ (r : ℕ). chains_of r N es' ++ drop (r + N) k) last

  -- what the code needs to know of the words
  pub words-forward : {q : ℕ} → q ≤ entries_used m → (w : ℕ) → w < R + q → 0 < get_or k w 0 → suc w < R + get_or k w 0
  words-forward l w h o = (chained-onward start w (omega (arith, es-long)) o).0

  pub words_small : {x : ℕ} → x ≡ entries_used m → (w : ℕ) → w < R + x → get_or k w 0 + 1 < 2 ^ 32
  words_small e w h = go (dec_lt 0 (get_or k w 0))
    where
      go : Dec (0 < get_or k w 0) → get_or k w 0 + 1 < 2 ^ 32
      go (yes o) = omega (arith, (chained-onward start w (omega (arith, es-long)) o).1, few, t.entries)
      go (no o) = omega arith

  -- the region of an entry, as read
  module _ {q g : ℕ} (low : q < entries_used m) (e : g ≡ slot_region_in N m q) where
    region-is : g ≡ nth_region es q
    region-is = e ∙ sym (ap region (to_at N m (entries_used m) q low))

    pub region-pos : 1 ≤ g
    region-pos = omega (arith, region-is, (among q (omega (arith, es-long))).0)

    pub region-high : g ≤ R
    region-high = omega (arith, region-is, (among q (omega (arith, es-long))).1)

    was : f (R + q) ≡ g
    was = let v : R + q - R ≡ q = omega arith in region-next R es (R + q) (omega arith) ∙ ap (nth_region es) v ∙ sym region-is

    -- it is in no chain
    module _ {k₁ : List ℕ} (u : Unlinked R g q k k₁) where
      abbrev f₀ : ℕ → ℕ
      f₀ = without (R + q) f

      off : Chained R (R + length es) f₀ k₁
      off =
          unlinked-chains start (omega (arith, region-pos)) (omega (arith, es-long)) (omega (arith, room, few))
          (region-first R es (g - 1) (omega (arith, region-pos, region-high)) ∙ (let v : suc (g - 1) ≡ g = omega (arith, region-pos) in v))
          (without-else (R + q) f) was (without-here (R + q) f) u

      pub off-forward : (w : ℕ) → w < R + q → 0 < get_or k₁ w 0 → suc w < R + get_or k₁ w 0
      off-forward w h o = (chained-onward off w (omega (arith, es-long)) o).0

      -- and goes
      pub went : {x : ℕ} {k' : List ℕ} → x ≡ entries_used m → Closed R (R + (x - 1)) q k₁ k' → k' ≡ with_chains_of p (removed q es) k
      went {x} {k'} ex c =
          finally es⁻ (omega (arith, shorter, few)) (among-less R q es⁻ es lacks shorter among)
          (closed-chained (omega (arith, es-long, shorter)) closed (lacks-parted R es⁻ es lacks)
          (subst (λ (n : ℕ). Chained R n f₀ k₁) (let v : R + length es ≡ suc (R + length es⁻) = omega (arith, shorter) in v) off))
          (closed.long ∙ unlinked-long u)
          (λ j l h. zero j l h (ℕ_discrete j (R + length es⁻)))
          (λ j l. closed.rest j (omega (arith, shorter, few)) ∙ unlinked-else u j (omega (arith, es-long, few)))
        where
          es⁻ : List Entry
          es⁻ = removed q es

          shorter : length es ≡ suc (length es⁻)
          shorter = omega (arith, removed-long unused q es (omega (arith, es-long)))

          lacks : Lacks q es⁻ es
          lacks = removed-lacks q es (omega (arith, es-long))

          closed : Closed R (R + length es⁻) q k₁ k'
          closed = subst (λ (n : ℕ). Closed R (R + n) q k₁ k') (let v : x - 1 ≡ length es⁻ = omega (arith, es-long, shorter) in v) c

          zero : (j : ℕ) → R + length es⁻ ≤ j → j < R + N → Dec (j ≡ R + length es⁻) → get_or k' j 0 ≡ 0
          zero j l h (yes z) = ap (λ (i : ℕ). get_or k' i 0) z ∙ closed.last
          zero j l h (no z) = closed.rest j (omega arith) ∙ unlinked-else u j (omega (arith, es-long, shorter)) ∙ rest j (omega (arith, shorter)) h

      -- or gets another region
      pub changed : {g' : ℕ} {k' : List ℕ} (s : ℕ) → 1 ≤ g' → g' ≤ R → Linked R g' q k₁ k' → k' ≡ with_chains_of p (set es q (entry s g')) k
      changed {g'} {k'} s pos high l =
          finally es' (omega (arith, long', few)) among'
          (subst (λ (n : ℕ). Chained R (R + n) (word_region R es') k') (sym long')
          (linked-chains off (omega arith) (omega (arith, es-long)) (omega (arith, room, few, unlinked-long u))
          (without-else (R + q) f (g' - 1) (λ (z : g' - 1 ≡ R + q). omega arith) ∙ region-first R es (g' - 1) (omega arith) ∙ (let v : suc (g' - 1) ≡ g' = omega arith in v))
          (λ j d. same-else R es es' (λ i d. ap region (past es q (entry s g') i unused d)) j d ∙ sym (without-else (R + q) f j d))
          (without-here (R + q) f) (let v : R + q - R ≡ q = omega arith in region-next R es' (R + q) (omega arith) ∙ ap (nth_region es') v ∙ here) l))
          (linked_long l ∙ unlinked-long u)
          (λ j a b. linked-else l j (omega (arith, long', es-long)) ∙ unlinked-else u j (omega (arith, long', es-long)) ∙ rest j (omega (arith, long')) b)
          (λ j a. linked-else l j (omega (arith, es-long, few)) ∙ unlinked-else u j (omega (arith, es-long, few)))
        where
          es' : List Entry
          es' = set es q (entry s g')

          long' : length es' ≡ length es
          long' = length-set es q (entry s g')

          here : nth_region es' q ≡ g'
          here = ap region (put es q (entry s g') unused (omega (arith, es-long)))

          among' : Among R es'
          among' i b = go (ℕ_discrete i q)
            where
              go : Dec (i ≡ q) → (1 ≤ nth_region es' i) × (nth_region es' i ≤ R)
              go (yes z) = subst (λ (j : ℕ). (1 ≤ j) × (j ≤ R)) (sym (ap (nth_region es') z ∙ here)) (pos, high)
              go (no z) = subst (λ (j : ℕ). (1 ≤ j) × (j ≤ R)) (sym (ap region (past es q (entry s g') i unused z))) (among i (omega (arith, long')))

  -- a place is made
  module _ {q x g : ℕ} {k₁ : List ℕ} (ex : x ≡ entries_used m) (low : q ≤ entries_used m) (more : entries_used m < N) (pos : 1 ≤ g) (high : g ≤ R) (o : Opened R (R + x) q k k₁) where
    module _ (s : ℕ) where
      abbrev es⁺ : List Entry
      es⁺ = inserted q (entry s g) es

      abbrev f⁺ : ℕ → ℕ
      f⁺ = word_region R es⁺

      lacks⁺ : Lacks q es es⁺
      lacks⁺ = inserted-lacks q (entry s g) es (omega (arith, es-long))

      longer : length es⁺ ≡ suc (length es)
      longer = omega (arith, inserted-long unused (entry s g) q es (omega (arith, es-long)))

      opened : Opened R (R + length es) q k k₁
      opened = subst (λ (n : ℕ). Opened R (R + n) q k k₁) (ex ∙ sym es-long) o

      open-chained : Chained R (suc (R + length es)) (without (R + q) f⁺) k₁
      open-chained = opened-chained (omega (arith, es-long)) opened (lacks-parted R es es⁺ lacks⁺) start

      new-here : nth_region es⁺ q ≡ g
      new-here = ap region (inserted-here unused (entry s g) q es (omega (arith, es-long)))

      pub came : {k' : List ℕ} → Linked R g q k₁ k' → k' ≡ with_chains_of p es⁺ k
      came {k'} l =
          finally es⁺ (omega (arith, longer, es-long))
          (among-more R q es es⁺ lacks⁺ longer among (omega (arith, es-long)) (omega (arith, new-here)) (omega (arith, new-here)))
          (subst (λ (n : ℕ). Chained R n f⁺ k') (let v : suc (R + length es) ≡ R + length es⁺ = omega (arith, longer) in v)
          (linked-chains open-chained (omega arith) (omega (arith, es-long)) (omega (arith, room, es-long, opened.long))
          (without-else (R + q) f⁺ (g - 1) (λ (z : g - 1 ≡ R + q). omega arith) ∙ region-first R es⁺ (g - 1) (omega arith) ∙ (let v : suc (g - 1) ≡ g = omega arith in v))
          (λ j d. sym (without-else (R + q) f⁺ j d)) (without-here (R + q) f⁺)
          (let v : R + q - R ≡ q = omega arith in region-next R es⁺ (R + q) (omega arith) ∙ ap (nth_region es⁺) v ∙ new-here) l))
          (linked_long l ∙ opened.long)
          (λ j a b. linked-else l j (omega (arith, longer, es-long)) ∙ opened.rest j (omega (arith, longer)) ∙ rest j (omega (arith, longer)) b)
          (λ j a. linked-else l j (omega (arith, es-long)) ∙ opened.rest j (omega (arith, es-long)))

    pub open-forward : (w : ℕ) → w < R + q → 0 < get_or k₁ w 0 → suc w < R + get_or k₁ w 0
    open-forward w h b = (chained-onward (open-chained 0) w (omega (arith, es-long)) b).0

-- ---- the table then

entries-are : {N : ℕ} {es : List Entry} {m : List ℕ} → HoldsEntries N es m → entries_in N m ≡ es
entries-are {N} {es} {m} h =
    ext_get_or unused (entries_in N m) es (long ∙ h.used)
    (λ i l.
    let b : i < entries_used m = omega (arith, long) in
    to_at N m (entries_used m) i b
    ∙ ap₂ entry (h.slots i (omega (arith, h.used, h.room))) (h.regions i (omega (arith, h.used, h.room))))
  where
    long : length (entries_in N m) ≡ entries_used m
    long = to-long N m (entries_used m)

module _ (p : Sizes) (m k : List ℕ) (t : Table p.entries m) where
  becomes : {m' k' : List ℕ} (es' : List Entry) → length es' ≤ p.entries → m' ≡ with_entries p.entries es' m → k' ≡ with_chains_of p es' k → k' ≡ with_chains p m' k
  becomes es' l e h =
      h ∙ ap (λ (l : List Entry). with_chains_of p l k) (sym (entries-are (subst (HoldsEntries p.entries es') (sym e) (written-becomes p.entries es' m l t.long).holds)))

  held : length (entries_in p.entries m) ≡ entries_used m
  held = to-long p.entries m (entries_used m)

  -- with the region g as the code passes it on
  pub table-came : {m' k' : List ℕ} (q at h : ℕ) {g : ℕ} → g ≡ h → q ≤ entries_used m → entries_used m < p.entries
      → m' ≡ with_entries p.entries (inserted q (entry at h) (entries_in p.entries m)) m
      → ((s : ℕ) → k' ≡ with_chains_of p (inserted q (entry s g) (entries_in p.entries m)) k) → k' ≡ with_chains p m' k
  table-came q at h e l b z c =
      becomes (inserted q (entry at h) (entries_in p.entries m))
      (omega (arith, held, inserted-long unused (entry at h) q (entries_in p.entries m) (omega (arith, held)))) z
      (c at ∙ ap (λ (i : ℕ). with_chains_of p (inserted q (entry at i) (entries_in p.entries m)) k) e)

  pub table-went : {m' k' : List ℕ} (q : ℕ) → q < entries_used m → m' ≡ with_entries p.entries (removed q (entries_in p.entries m)) m
      → k' ≡ with_chains_of p (removed q (entries_in p.entries m)) k → k' ≡ with_chains p m' k
  table-went q l = becomes _ (omega (arith, held, t.room, removed-long unused q (entries_in p.entries m) (omega (arith, held))))

  pub table-changed : {m' k' : List ℕ} (q h : ℕ) {g : ℕ} → g ≡ h → q < entries_used m → m' ≡ set m (slot_region_at p.entries q) h
      → ((s : ℕ) → k' ≡ with_chains_of p (set (entries_in p.entries m) q (entry s g)) k) → k' ≡ with_chains p m' k
  table-changed q h e l z c =
      let s = nth_slot (entries_in p.entries m) q in
      becomes (set (entries_in p.entries m) q (entry s h)) (omega (arith, held, t.room, length-set (entries_in p.entries m) q (entry s h)))
      (z ∙ change-written t q l h) (c s ∙ ap (λ (i : ℕ). with_chains_of p (set (entries_in p.entries m) q (entry s i)) k) e)

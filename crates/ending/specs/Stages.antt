-- The end of one region, that of thread t at level l, stage by stage: what each stage asks follows from what the earlier ones leave, and
-- the release gives its pages back.
use Rattle.std.specs.Prelude.{◌≡◌, refl, ◌≢◌, ◌⊎◌, List, ℕ, ◌+◌, ◌-◌, ◌≤◌, ◌<◌, length, get_or}
use Rattle.std.proofs.Common.{sym, ap, ap₂, subst, ◌∙◌, inl, inr, ⊎_elim, arith}
use Rattle.std.proofs.Math.Decide.{ℕ_discrete, dec_lt}
use Rattle.lists.specs.Part.{Off, Lists, lists-like}
use Rattle.rules.specs.declared.Sizes.{Sizes}
use Rattle.rules.specs.Regions.{region_at, regions, thread_of, level_of, only}
use Rattle.rules.specs.Pages.{released}
use Rattle.rules.specs.Graph.{freed_by}
use Rattle.rules.specs.Rules.{counted}
use Rattle.laws.specs.RegionLaws.{region-high, region-bounds, numbers-rise, region-number}
use Rattle.layout.specs.Places.{Room, depth_at, count_at, depth_of, owner_of, mark_of, count_of, entries_used, slot_in, owners_from, counts_from, vars_from, made_at, freed_at, var_count}
use Rattle.layout.specs.Cells.{page_of, page_at, word_of, field-word}
use Rattle.layout.specs.Objects.{begins-page}
use Rattle.layout.specs.Words.{Words, words, Names, depth_in, owner_in, graph_of}
use Rattle.remember.specs.Crossing.{crosses_from}
use Rattle.remember.specs.Staying.{Entries}
use Rattle.promises.specs.Whole.{Open}
use Rattle.promises.proofs.NewPages.{level-open}
use Rattle.promises.specs.Regular.{pages-alike}
use Rattle.promises.proofs.OwnedPages.{counted-objects}
use Rattle.promises.specs.Reading.{refs-few}
use Rattle.promises.specs.Ends.{part_of, Lives}
use Rattle.copy.specs.Passing.{moves-ready}
use Rattle.copy.specs.Copying.{Plan, Copy, copy-marks}
use Rattle.copy.specs.Forward.{copy-forwards}
use Rattle.settle.specs.Rewrite.{forwarded, Rewritten, ref-same}
use Rattle.settle.specs.RewriteSlots.{Slots, Variables}
use Rattle.settle.specs.RewriteCopies.{slot-then}
use Rattle.remember.specs.Appending.{at-most-less}
use Rattle.settle.specs.Update.{Copies, NewEntry, Settles, Updated}
use Rattle.release.specs.Release.{Ended, ended-size, ended-freed, ended-depth, ended-rest, ended-blank, ended-alike, ended-regular}
use Rattle.release.specs.Emptied.{Emptied}
use Rattle.ended.specs.EndQuestion.{crossing_after}
use Rattle.ended.specs.Evacuated.{FreedCounted}
use Rattle.ended.specs.EvacuatedDid.{Lowered}
use Rattle.ended.specs.Living.{KeepsNamed, region-after, region-keeps}
use Rattle.census.specs.Survivors.{survivors_in, survivors-rest}
use Rattle.mark.specs.MarkedWords.{owner-same, count_same, unlisted}
use Rattle.ending.specs.Placing.{HoldingSlots, LiveSlot}
use Rattle.ending.specs.Copied.{Sends, HasMoved, placed, placing, page-kept}
use Rattle.ending.specs.Rewriting.{HasRewritten, copies-live, old-no-copy, live-names, names-later, cross-live, held-live, no_copy, copies-ask, outside-after, copies-told}
use Rattle.promises.specs.EntrySays.{entry-says}
use Rattle.ending.specs.Crossing.{Told, told-both}
use Rattle.ending.specs.Space.{space-enough}
use Rattle.ending.specs.Remembering.{stays-told}
use Rattle.ending.specs.Region.{Held, of-region, holding, page-was, renews}
use Rattle.ending.specs.CopiesPlaced.{copied-pages, copied-cells, pages-released}
use Rattle.ending.specs.Finish.{owner₂, used₂, room₂, regular₂, word₂, GaveBack, evacuated, vacated}
use Rattle.ending.specs.Ending.{Ending, HasEnded, room_of, level-low, region-deep}
use Rattle.ending.specs.PagesEnough.{survivor-level}

module _ {s : Sizes} {t l r : ℕ} {w w₁ : Words} (b : Ending s t l r w w₁) where
  pub high : 1 < r
  high = omega (arith, region-deep b, region-high s t (l - 1))

  pub pos : 0 < r
  pos = omega (arith, high)

  pub bounds : (1 ≤ r) × (r ≤ regions s)
  bounds = subst (λ (g : ℕ). (1 ≤ g) × (g ≤ regions s)) (sym b.region) (region-bounds s t l b.thread (level-low b))

  -- the objects of r, by its count, are those that are freed and the survivors
  pub freed-rest : freed_by s (graph_of s w) r + survivors_in s w₁.tables s.pages ≡ count_of s w₁.tables r
  freed-rest =
      survivors-rest s w b.whole r w₁ b.marks pos ∙ sym (count_same b.marks (room_of b) r ∙ counted-objects s w b.whole r pos bounds.1)

  pub sends : Sends s w (part_of s w r)
  sends =
      record {
        owned = λ page l e. omega (arith, e, high);
        away = λ c page v q e z. let j = survivor-level b c v in omega (arith, numbers-rise s t j.0 l j.1, j.2, b.region, e, z);
      }

  pub keeps : KeepsNamed s w (part_of s w r)
  keeps = region-keeps s w b.whole r pos

  pub held : HoldingSlots s w (part_of s w r) (Held s w r)
  held = holding high b.whole keeps

  -- ---- the copy

  -- the listed pages are those of the part
  pub listed : {n : ℕ} {l : List ℕ} → Lists (λ page. owner_of s w₁.tables page ≡ r) s.pages n l → Lists (part_of s w r).ends s.pages n l
  listed h = lists-like h (λ page m e. sym (owner-same b.marks (room_of b) page m) ∙ e) (λ page m e. owner-same b.marks (room_of b) page m ∙ e)

  module _ (p : Plan s l (region_at s t) w₁.cells w₁.tables) {W T : List ℕ} (c : Copy s l (region_at s t) l w₁.cells w₁.tables W T) where
    pub moved : HasMoved s w w₁ (part_of s w r) W T
    moved =
        record {
          whole = b.whole;
          room = room_of b;
          keeps = keeps;
          sends = sends;
          marks = b.marks;
          forwards = copy-forwards p c;
          ready = moves-ready p.ready c.moves;
          clean = copy-marks p c;
        }

    -- ---- the remembered slots

    -- the entries, by cells in which every remembered slot names a cell
    entries-ask : {X : List ℕ} → length X ≡ length W → ((x : ℕ) → Held s w r x → Names s (get_or X x 0)) → Entries s r s.entries (entries_used w.remember) X w.remember
    entries-ask size names =
        let e = b.whole.remember.entries in
        record {
          pages = (room_of b).few;
          cells-long = omega (arith, moved.ready.cells-long, size);
          long = omega (arith, b.whole.sized.remember);
          few = e.room;
          low = λ i l. (e.named i l).slot;
          rising = e.rising;
          names = λ i l z. names (slot_in w.remember i) (record { entry = i; low = l; region = z; slot = refl });
        }

    pub slots-ask : Slots s r s.entries (entries_used w.remember) W w.remember
    slots-ask =
        record {
          entries = entries-ask refl (λ x q. live-names moved x (held-live moved held x q));
          fields = λ i l. let y = entry-says b.whole i l in subst (λ (x : ℕ). 2 ≤ word_of x) (sym y.at) (field-word y.object y.field (omega (arith, y.low, refs-few s w b.whole y.object y.used)));
        }

    -- no entry names a slot of a copy
    entry-no-copy : (i : ℕ) → i < entries_used w.remember → Copies s W T (slot_in w.remember i) → ⊥
    entry-no-copy i l q = let y = entry-says b.whole i l in old-no-copy moved y.object y.field y.used y.low (subst (Copies s W T) y.at q)

    -- ---- the remember table

    module _ {W₃ : List ℕ} (R : Rewritten (λ x. Held s w r x ⊎ Copies s W T x) W W₃) where
      rewritten : HasRewritten s w w₁ (part_of s w r) W T (Held s w r) W₃
      rewritten = record { moved = moved; holding = held; cells = R }

      entries-told : Told s w (part_of s w r) (words W w.remember T) (placed W) (Lives s w (part_of s w r)) (NewEntry s r s.entries (entries_used w.remember) W₃ w.remember T)
      entries-told = told-both (stays-told (placing moved) (of-region high) (renews pos moved W₃ (outside-after moved held R (λ x. inl)))) (copies-told rewritten)

    module _ {W₂ : List ℕ} (R₂ : Rewritten (Held s w r) W W₂) where
      copy_live : (x : ℕ) → Copies s W₂ T x → LiveSlot s w (part_of s w r) (placed W) x
      copy_live x q = copies-live moved x (slot-then R₂ x q)

      copy-same : (x : ℕ) → Copies s W₂ T x → get_or W₂ x 0 ≡ get_or W x 0
      copy-same x q = R₂.same x (no_copy moved held x (slot-then R₂ x q))

      copy-later : (x : ℕ) → Copies s W₂ T x → forwarded W₂ (get_or W₂ x 0) ≡ forwarded W (get_or W x 0)
      copy-later x q = ref-same R₂ (get_or W₂ x 0) ∙ ap (forwarded W) (copy-same x q)

      pub settle-ask : crossing_after s w r ≤ s.entries → Settles s r s.entries (entries_used w.remember) W₂ w.remember T
      settle-ask entries =
          record {
            entries = entries-ask R₂.size (λ x q. subst (Names s) (sym (R₂.moved x q)) (names-later moved x (held-live moved held x q)));
            wiring = copies-ask moved held R₂;
            old = λ i l q. entry-no-copy i l (slot-then R₂ (slot_in w.remember i) q);
            names = λ x q. (subst (Names s) (sym (copy-same x q)) (live-names moved x (copy_live x q)), subst (Names s) (sym (copy-later x q)) (names-later moved x (copy_live x q)));
            space = at-most-less
                (λ x.
                ⊎_elim
                (λ q.
                let y = (stays-told (placing moved) (of-region high) (renews pos moved W₂ (outside-after moved held R₂ (λ x z. z)))).live x q.0 q.1 in
                (y.0, λ z. q.1.kept (y.1 ∙ z)))
                (λ q.
                (copy_live x q.0, λ z. q.1 (ap (λ (y : ℕ). crosses_from s T (owner_of s T (page_at x)) y) (copy-later x q.0) ∙ cross-live moved x (copy_live x q.0) ∙ z))))
                (space-enough (placing moved) (region-after s w b.whole r pos) entries);
            rest = b.whole.remember.entries.rest;
          }

    -- ---- the listed pages

    -- no survivor was copied off another page
    pub marks-ask : {n : ℕ} {l : List ℕ} → Lists (part_of s w r).ends s.pages n l → (page : ℕ) → page < s.pages → Off l n page → mark_of s T page ≡ 0
    marks-ask h page low off = copy-marks p c page low (unlisted b.marks h page low off)

    module _ {W₃ T₂ : List ℕ} (Y : Variables s (var_count s) W₃ T T₂) where
      -- copies and variables leave r its pages, and give it no other
      kept₂ : (page : ℕ) → page < s.pages → owner_in s w page ≡ r → owner_of s T₂ page ≡ r
      kept₂ page l z = owner₂ moved Y page l ∙ page-kept moved page l z ∙ z

      was₂ : (page : ℕ) → page < s.pages → owner_of s T₂ page ≡ r → owner_in s w page ≡ r
      was₂ page l z = page-was pos moved page l (sym (owner₂ moved Y page l) ∙ z)

      pub pages-ask : {n : ℕ} {l : List ℕ} → Lists (part_of s w r).ends s.pages n l → Lists (λ page. owner_of s T₂ page ≡ r) s.pages n l
      pages-ask h = lists-like h kept₂ was₂

      -- ---- the release

      pub release-ask : Room s (length T₂) × (depth_of T₂ t ≡ l)
      release-ask = (room₂ moved Y, word₂ moved Y (depth_at t) (λ z. omega (arith, b.thread)) ∙ b.level)

      module _ {n : ℕ} {W₄ T' : List ℕ} (Z : Ended s r t n T₂ T') (f : n ≡ freed_by s (graph_of s w) r) (X : Emptied s r s.pages T₂ W₃ W₄) where
        a : Room s (length T₂)
        a = room₂ moved Y

        depth-after : depth_of T' t ≡ l - 1
        depth-after = ended-depth a bounds.0 bounds.1 b.thread Z ∙ ap (λ (x : ℕ). x - 1) release-ask.1

        rest : (x : ℕ) → x ≢ depth_at t → (owners_from s ≤ x → made_at s ≤ x) → x ≢ freed_at s → get_or T' x 0 ≡ get_or T₂ x 0
        rest x n m k = ended-rest a bounds.0 bounds.1 b.thread Z x n count k (go (dec_lt x (owners_from s)))
          where
            count : x ≢ count_at s r
            count z = let y : made_at s ≤ x = m (omega (arith, a)) in omega (arith, a, bounds)

            go : Dec (x < owners_from s) → (x < owners_from s) ⊎ (counts_from s ≤ x)
            go (yes l) = inl l
            go (no l) = let y : made_at s ≤ x = m (omega arith) in inr (omega (arith, a))

        depth-kept : (u : ℕ) → u < s.threads → u ≢ t → depth_of T' u ≡ depth_in w u
        depth-kept u l n = rest (depth_at u) (λ z. n (omega arith)) (λ z. omega (arith, a)) (λ z. omega (arith, a)) ∙ word₂ moved Y (depth_at u) (λ z. omega arith)

        lowered : {M' : List ℕ} → Lowered s w t (l - 1) (words W₄ M' T')
        lowered = record { depth = depth-after; depths = depth-kept }

        -- the counters: made is as it was, and what is freed is counted
        counted-end : (M' : List ℕ) → FreedCounted s w r (words W₄ M' T')
        counted-end M' =
            ap₂ (λ (x y : ℕ). record { made = x; freed = y })
            (rest (made_at s) (λ z. omega (arith, a, b.thread)) (λ z. omega arith) (λ z. omega arith) ∙ word₂ moved Y (made_at s) (λ z. omega arith))
            (ended-freed a bounds.0 bounds.1 b.thread Z ∙ ap₂ (λ (x y : ℕ). counted (x + y)) (word₂ moved Y (freed_at s) (λ z. omega arith)) f)

        -- every region but r that was open is open still, and so is every region around r
        still_open : (g : ℕ) → g ≢ r → Open s w.tables g → Open s T' g
        still_open g n o = record { real = o.real; thread = o.thread; level = go (ℕ_discrete (thread_of s g) t) }
          where
            go : Dec (thread_of s g ≡ t) → level_of s g ≤ depth_of T' (thread_of s g)
            go (no d) = omega (arith, o.level, depth-kept (thread_of s g) o.thread d)
            go (yes d) = last (ℕ_discrete (level_of s g) l)
              where
                last : Dec (level_of s g ≡ l) → level_of s g ≤ depth_of T' (thread_of s g)
                last (no z) = omega (arith, o.level, ap (depth_of T') d, depth-after, ap (depth_in w) d, b.level)
                last (yes z) = absurd (n (region-number s g o.real ∙ ap₂ (region_at s) d z ∙ sym b.region))

        gave-back : GaveBack s w (part_of s w r) W₃ T₂ W₄ T'
        gave-back =
            record {
              size = ended-size a bounds.0 bounds.1 b.thread Z;
              regular = ended-regular a bounds.0 bounds.1 b.thread Z (regular₂ moved Y);
              blank = λ page l z. ended-blank a bounds.0 bounds.1 b.thread Z page l (kept₂ page l z);
              alike = λ page l n. ended-alike a bounds.0 bounds.1 b.thread Z page l (λ z. n (was₂ page l z));
              rest = λ x n m k. rest x (λ z. let y : vars_from s ≤ x = n (omega arith) in omega (arith, b.thread)) m k;
              outside = λ x o h. still_open (owner_in s w (page_of x)) o.out ((b.whole.pages (page_of x) (begins-page s w.cells w.tables x o.used)).region h);
              survivor = λ x v h. let j = survivor-level b x v in subst (Open s T') (sym j.2) (level-open s T' t j.0 b.thread (omega (arith, j.1, level-low b)) (omega (arith, j.1, depth-after)) (omega (arith, j.2)));
              cells-size = X.size;
              emptied = λ q z u. X.zero q u.page (kept₂ (page_at q) u.page z) u;
              kept = λ q n. X.same q (λ l z. n (was₂ (page_at q) l z));
            }

        pub has_ended : {M' : List ℕ} → Rewritten (λ x. Held s w r x ⊎ Copies s W T x) W W₃ → Updated s r s.entries (entries_used w.remember) W₃ w.remember T M' → HasEnded s t l r w (words W₄ M' T')
        has_ended {M'} R u =
            record {
              cell = placed W;
              evacuated = evacuated (rewritten R) (entries-told R) u Y gave-back;
              vacated = vacated (rewritten R) (entries-told R) u Y gave-back;
              lowered = lowered;
              counted = counted-end M';
              repacked = record {
                cells = copied-cells b pos p c moved;
                pages =
                    pages-released s r T₂ T' (λ page m e. ended-blank a bounds.0 bounds.1 b.thread Z page m e) (λ page m e. ended-alike a bounds.0 bounds.1 b.thread Z page m e)
                    ∙ ap (released (only r)) (pages-alike s T T₂ (λ page m. record { owner = owner₂ moved Y page m; used = used₂ moved Y page m }) ∙ copied-pages b pos p c);
              };
            }

-- The tables after a collection: the pages of the control space hold the survivors from the lowest on, and no other page has changed.
use Rattle.std.specs.Prelude.{◌≡◌, refl, ◌≢◌, ◌⊎◌, List, ℕ, zero, suc, ◌+◌, ◌*◌, ◌≤◌, ◌<◌, min, length, get_or, set}
use Rattle.std.proofs.Common.{sym, ap, ap₂, subst, ◌∙◌, inl, inr, ⊎_elim, arith, length-set, get_or-set_same, get_or-set_other}
use Rattle.std.proofs.Math.Decide.{ℕ_discrete, dec_lt}
use Rattle.lists.specs.Counting.{sum, sum_same, sum_more}
use Rattle.lists.specs.Part.{Through, through-start, through-turn, through-end}
use Rattle.rules.specs.declared.Sizes.{Sizes}
use Rattle.rules.specs.Regions.{control, regions, thread_of}
use Rattle.rules.specs.Rules.{counted}
use Rattle.layout.specs.Places.{Room, depth_at, var_at, owner_at, used_at, mark_at, count_at, freed_at, made_at, depth_of, var_of, owner_of, used_of, mark_of, count_of, made_of, freed_of, var_count, vars_from, counts_from}
use Rattle.layout.specs.Cells.{page_cells}
use Rattle.layout.specs.Words.{Words, depth_in, owner_in}
use Rattle.promises.specs.Whole.{Open, PageFilled, Partial, objects_on, objects_of}
use Rattle.promises.specs.Regular.{Regular, SamePage, filled-same, partial-same, on_same, objects-yes, objects-no}
use Rattle.mark.specs.MarkedWords.{table_same, owner-same, used-same, var-same}
use Rattle.settle.specs.Rewrite.{forwarded}
use Rattle.settle.specs.RewriteSlots.{Variables}
use Rattle.copy.specs.Taking.{room-same}
use Rattle.slide.specs.Ranks.{rank_room}
use Rattle.slide.specs.Trimmed.{left_for, Trimmed}
use Rattle.collect.specs.Numbering.{Numbering, marks-listed, which, other-page}

-- the control space has K objects, and f more are freed
pub record SpaceCounted (s : Sizes) (K f : ℕ) (T T' : List ℕ) : Type 0 where
  pub size : length T' ≡ length T
  pub count : count_of s T' control ≡ K
  pub freed : freed_of s T' ≡ counted (freed_of s T + f)
  pub same : (x : ℕ) → x ≢ count_at s control → x ≢ freed_at s → get_or T' x 0 ≡ get_or T x 0

-- as the code sets it: k is the survivors and g what is freed as the code has them
pub space-counted : (s : Sizes) (T : List ℕ) (K f k g : ℕ) {T₁ T₂ : List ℕ} → Room s (length T) → k ≡ K → g ≡ f → T₁ ≡ set T (count_at s control) k
    → T₂ ≡ set T₁ (freed_at s) (counted (freed_of s T₁ + g)) → SpaceCounted s K f T T₂
space-counted s T K f k g {T₁} {T₂} room ek eg e₁ e₂ =
    record {
      size = ap (λ (X : List ℕ). length X) e₂ ∙ length-set T₁ (freed_at s) _ ∙ ap (λ (X : List ℕ). length X) e₁ ∙ length-set T (count_at s control) k;
      count =
          ap (λ (X : List ℕ). count_of s X control) e₂ ∙ get_or-set_other T₁ (freed_at s) (count_at s control) _ 0 (λ z. omega (arith, room))
          ∙ ap (λ (X : List ℕ). count_of s X control) e₁ ∙ get_or-set_same T (count_at s control) k 0 (omega (arith, room)) ∙ ek;
      freed =
          ap (λ (X : List ℕ). freed_of s X) e₂
          ∙ get_or-set_same T₁ (freed_at s) _ 0 (omega (arith, room, ap (λ (X : List ℕ). length X) e₁, length-set T (count_at s control) k))
          ∙ ap₂ (λ (x y : ℕ). counted (x + y)) freed-kept eg;
      same = λ x c h.
          ap (λ (X : List ℕ). get_or X x 0) e₂ ∙ get_or-set_other T₁ (freed_at s) x _ 0 h ∙ ap (λ (X : List ℕ). get_or X x 0) e₁ ∙ get_or-set_other T (count_at s control) x k 0 c;
    }
  where
    freed-kept : freed_of s T₁ ≡ freed_of s T
    freed-kept = ap (λ (X : List ℕ). freed_of s X) e₁ ∙ get_or-set_other T (count_at s control) (freed_at s) k 0 (λ z. omega (arith, room))

-- ---- what the variables' rewriting leaves

module _ {s : Sizes} {w w₁ : Words} {n : ℕ} {l W₂ : List ℕ} {K : ℕ} (a : Numbering s w w₁ n l W₂ K) {T₂ : List ℕ} (Y : Variables s (var_count s) W₂ w₁.tables T₂) where
  rm : Room s (length w.tables)
  rm = a.keeping.room

  pub owner₂ : (page : ℕ) → page < s.pages → owner_of s T₂ page ≡ owner_in s w page
  owner₂ page h = Y.same (owner_at s page) (λ z. omega (arith, rm)) ∙ owner-same a.keeping.marks rm page h

  pub used₂ : (page : ℕ) → page < s.pages → used_of s T₂ page ≡ used_of s w.tables page
  used₂ page h = Y.same (used_at s page) (λ z. omega (arith, rm)) ∙ used-same a.keeping.marks rm page h

  pub mark₂ : (page : ℕ) → page < s.pages → mark_of s T₂ page ≡ mark_of s w₁.tables page
  mark₂ page h = Y.same (mark_at s page) (λ z. omega (arith, rm))

  word₂ : (x : ℕ) → (vars_from s ≤ x → counts_from s ≤ x) → get_or T₂ x 0 ≡ get_or w.tables x 0
  word₂ x h = Y.same x (λ z. let y : counts_from s ≤ x = h z in omega (arith, rm)) ∙ table_same a.keeping.marks rm x (λ z. h (omega (arith, rm)))

  size₂ : length T₂ ≡ length w.tables
  size₂ = Y.size ∙ a.keeping.marks.kept.tables-length

  pub room₂ : Room s (length T₂)
  room₂ = room-same size₂ rm

  module _ {W₄ W₅ T₃ : List ℕ} (Z : Trimmed s l n K W₄ T₂ W₅ T₃) where
    low : (j : ℕ) → j < n → get_or l j 0 < s.pages
    low j h = a.list.rises.low j h

    -- ---- and the trimming

    word₃ : (x : ℕ) → (vars_from s ≤ x → counts_from s ≤ x) → get_or T₃ x 0 ≡ get_or w.tables x 0
    word₃ x h =
        Z.tables x
        (λ j b. (
          λ e. let y : counts_from s ≤ x = h (omega (arith, rm)) in omega (arith, rm, low j b),
          λ e. let y : counts_from s ≤ x = h (omega (arith, rm)) in omega (arith, rm, low j b),
          λ e. let y : counts_from s ≤ x = h (omega (arith, rm)) in omega (arith, rm, low j b),
        ))
        ∙ word₂ x h

    pub freed₃ : freed_of s T₃ ≡ freed_of s w.tables
    freed₃ = word₃ (freed_at s) (λ z. omega (arith, rm))

    pub count₃ : count_of s T₃ control ≡ count_of s w.tables control
    count₃ = word₃ (count_at s control) (λ z. omega arith)

    module _ (page : ℕ) (b : page < s.pages) (z : owner_in s w page ≢ control) where
      owner₃ : owner_of s T₃ page ≡ owner_in s w page
      owner₃ =
          Z.tables (owner_at s page) (λ j h. (λ e. other-page a page z j h (omega arith), λ e. omega (arith, rm, low j h), λ e. omega (arith, rm, low j h)))
          ∙ owner₂ page b

      used₃ : used_of s T₃ page ≡ used_of s w.tables page
      used₃ =
          Z.tables (used_at s page) (λ j h. (λ e. omega (arith, rm, low j h), λ e. other-page a page z j h (omega arith), λ e. omega (arith, rm, low j h)))
          ∙ used₂ page b

      mark₃ : mark_of s T₃ page ≡ 0
      mark₃ =
          Z.tables (mark_at s page) (λ j h. (λ e. omega (arith, rm, low j h), λ e. omega (arith, rm, low j h), λ e. other-page a page z j h (omega arith)))
          ∙ mark₂ page b ∙ (marks-listed a).none page b (other-page a page z)

    module _ {f : ℕ} {T₄ : List ℕ} (C : SpaceCounted s K f T₃ T₄) where
      pub word₄ : (x : ℕ) → (vars_from s ≤ x → counts_from s ≤ x) → x ≢ count_at s control → x ≢ freed_at s → get_or T₄ x 0 ≡ get_or w.tables x 0
      word₄ x h c e = C.same x c e ∙ word₃ x h

      -- a page of another region is as it was
      module _ (page : ℕ) (b : page < s.pages) (z : owner_in s w page ≢ control) where
        pub other-same : SamePage s w.tables T₄ page
        other-same =
            record {
              owner = C.same (owner_at s page) (λ e. omega (arith, rm)) (λ e. omega (arith, rm)) ∙ owner₃ page b z;
              used = C.same (used_at s page) (λ e. omega (arith, rm)) (λ e. omega (arith, rm)) ∙ used₃ page b z;
            }

        pub other-mark : mark_of s T₄ page ≡ 0
        other-mark = C.same (mark_at s page) (λ e. omega (arith, rm)) (λ e. omega (arith, rm)) ∙ mark₃ page b z

      -- listed page number j holds its share of the survivors
      module _ (j : ℕ) (h : j < n) where
        pub own-used : used_of s T₄ (get_or l j 0) ≡ left_for K j
        own-used = C.same (used_at s (get_or l j 0)) (λ e. omega (arith, rm, low j h)) (λ e. omega (arith, rm, low j h)) ∙ Z.used j h

        pub own-owner : 0 < left_for K j → owner_of s T₄ (get_or l j 0) ≡ control
        own-owner p =
            C.same (owner_at s (get_or l j 0)) (λ e. omega (arith, rm, low j h)) (λ e. omega (arith, rm, low j h)) ∙ Z.owner j h p ∙ owner₂ (get_or l j 0) (low j h) ∙ a.list.each j h

        pub own-free : left_for K j ≡ 0 → owner_of s T₄ (get_or l j 0) ≡ 0
        own-free p = C.same (owner_at s (get_or l j 0)) (λ e. omega (arith, rm, low j h)) (λ e. omega (arith, rm, low j h)) ∙ Z.free j h p

        pub own-mark : mark_of s T₄ (get_or l j 0) ≡ 0
        own-mark = C.same (mark_at s (get_or l j 0)) (λ e. omega (arith, rm, low j h)) (λ e. omega (arith, rm, low j h)) ∙ Z.marks j h

        own-filled : PageFilled s T₄ (get_or l j 0)
        own-filled =
            record {
              free = λ e. go (dec_lt 0 (left_for K j)) e;
              taken = λ e. go' (dec_lt 0 (left_for K j)) e;
              cells = omega (arith, own-used);
            }
          where
            go : Dec (0 < left_for K j) → owner_of s T₄ (get_or l j 0) ≡ 0 → used_of s T₄ (get_or l j 0) ≡ 0
            go (yes p) e = absurd (let z : ⊥ = omega (arith, own-owner p) in z)
            go (no p) e = omega (arith, own-used)

            go' : Dec (0 < left_for K j) → 0 < owner_of s T₄ (get_or l j 0) → 1 ≤ used_of s T₄ (get_or l j 0)
            go' (yes p) e = omega (arith, own-used)
            go' (no p) e = absurd (let z : ⊥ = omega (arith, own-free (omega arith)) in z)

        -- its objects are the control space's
        own-objects : objects_on s T₄ control (get_or l j 0) ≡ left_for K j
        own-objects = go (dec_lt 0 (left_for K j))
          where
            go : Dec (0 < left_for K j) → objects_on s T₄ control (get_or l j 0) ≡ left_for K j
            go (yes p) = objects-yes s T₄ control (get_or l j 0) (own-owner p) ∙ own-used
            go (no p) = objects-no s T₄ control (get_or l j 0) (λ e. omega (arith, own-free (omega arith))) ∙ omega arith

        own-else : (g : ℕ) → 1 ≤ g → g ≢ control → owner_of s T₄ (get_or l j 0) ≢ g
        own-else g pos ne e = go (dec_lt 0 (left_for K j))
          where
            go : Dec (0 < left_for K j) → ⊥
            go (yes p) = ne (sym e ∙ own-owner p)
            go (no p) = omega (arith, own-free (omega arith))

      -- ---- pages and counts are regular

      pages-filled : (page : ℕ) → page < s.pages → PageFilled s T₄ page
      pages-filled page b =
          ⊎_elim (λ q. subst (PageFilled s T₄) q.2 (own-filled q.0 q.1)) (λ z. filled-same (other-same page b z) (a.keeping.whole.pages page b).filled) (which a page b)

      -- a page of the control space that is partly filled is the last of those that are used
      own-partial : (g i : ℕ) → 1 ≤ g → i < n → Partial s T₄ g (get_or l i 0) → (g ≡ control) × (0 < left_for K i) × (left_for K i < page_cells)
      own-partial g i pos h x = go (dec_lt 0 (left_for K i))
        where
          go : Dec (0 < left_for K i) → (g ≡ control) × (0 < left_for K i) × (left_for K i < page_cells)
          go (yes p) = (sym x.owner ∙ own-owner i h p, p, omega (arith, x.part, own-used i h))
          go (no p) = absurd (let z : ⊥ = omega (arith, own-free i h (omega arith), x.owner) in z)

      both_own : (g i j : ℕ) → 1 ≤ g → (h : i < n) → (k : j < n) → get_or l i 0 < get_or l j 0 → Partial s T₄ g (get_or l i 0) → Partial s T₄ g (get_or l j 0) → ⊥
      both_own g i j pos h k o x y = go (dec_lt i j)
        where
          go : Dec (i < j) → ⊥
          go (yes d) = omega (arith, (own-partial g i pos h x).2, (own-partial g j pos k y).1)
          go (no d) = back (ℕ_discrete i j)
            where
              back : Dec (i ≡ j) → ⊥
              back (yes e) = omega (arith, ap (λ (z : ℕ). get_or l z 0) e)
              back (no e) = omega (arith, a.list.rises.rising j i (omega arith) h)

      one-partial : (g : ℕ) → 1 ≤ g → (x y : ℕ) → x < y → y < s.pages → Partial s T₄ g x → Partial s T₄ g y → ⊥
      one-partial g pos x y o b p q = go (which a x (omega arith)) (which a y b)
        where
          go : ((j : ℕ) × (j < n) × (get_or l j 0 ≡ x)) ⊎ (owner_in s w x ≢ control) → ((j : ℕ) × (j < n) × (get_or l j 0 ≡ y)) ⊎ (owner_in s w y ≢ control) → ⊥
          go (inl i) (inl j) =
              both_own g i.0 j.0 pos i.1 j.1 (omega (arith, i.2, j.2)) (subst (Partial s T₄ g) (sym i.2) p) (subst (Partial s T₄ g) (sym j.2) q)
          go (inl i) (inr z) =
              z (sym (other-same y b z).owner ∙ q.owner ∙ (own-partial g i.0 pos i.1 (subst (Partial s T₄ g) (sym i.2) p)).0)
          go (inr z) (inl j) =
              z (sym (other-same x (omega arith) z).owner ∙ p.owner ∙ (own-partial g j.0 pos j.1 (subst (Partial s T₄ g) (sym j.2) q)).0)
          go (inr u) (inr v) = a.keeping.whole.partial g pos x y o b (partial-same (other-same x (omega arith) u) p) (partial-same (other-same y b v) q)

      -- the survivors on the pages below b, when i of the listed ones are
      own-through : (i : ℕ) → i ≤ n → Through s.pages n l i (λ b. sum (objects_on s T₄ control) b ≡ min K (page_cells * i))
      own-through zero h =
          through-start s.pages n l (λ b. sum (objects_on s T₄ control) b ≡ min K (page_cells * 0)) (λ q b off r. skip q 0 b off r) (omega arith)
        where
          skip : (q i : ℕ) → q < s.pages → ((j : ℕ) → j < n → get_or l j 0 ≢ q) → sum (objects_on s T₄ control) q ≡ min K (page_cells * i) → sum (objects_on s T₄ control) (q + 1) ≡ min K (page_cells * i)
          skip q i b off r =
              omega (arith, sum_more (objects_on s T₄ control) q, ⊎_elim (λ x. absurd (off x.0 x.1 x.2)) (λ z. objects-no s T₄ control q (λ e. z (sym (other-same q b z).owner ∙ e))) (which a q b))
      own-through (suc i) h =
          let e : i + 1 ≡ suc i = omega arith in
          subst (λ (x : ℕ). Through s.pages n l x (λ b. sum (objects_on s T₄ control) b ≡ min K (page_cells * suc i))) e
          (through-turn s.pages n l (λ b. sum (objects_on s T₄ control) b ≡ min K (page_cells * i)) (λ b. sum (objects_on s T₄ control) b ≡ min K (page_cells * suc i)) i (get_or l i 0) a.list.rises (omega arith) refl
          (own-through i (omega arith))
          (λ r. omega (arith, sum_more (objects_on s T₄ control) (get_or l i 0), own-objects i (omega arith)))
          (λ q b off r.
          omega (arith, sum_more (objects_on s T₄ control) q, ⊎_elim (λ x. absurd (off x.0 x.1 x.2)) (λ z. objects-no s T₄ control q (λ e. z (sym (other-same q b z).owner ∙ e))) (which a q b))))

      own-count : objects_of s T₄ control ≡ K
      own-count =
          through-end s.pages n l (λ b. sum (objects_on s T₄ control) b ≡ min K (page_cells * n)) n a.list.rises (omega arith) (omega arith) (own-through n (omega arith))
          ∙ omega (arith, rank_room (marks-listed a), a.numbered.count)

      counts-right : (g : ℕ) → 1 ≤ g → g ≤ regions s → count_of s T₄ g ≡ objects_of s T₄ g
      counts-right g pos high = go (ℕ_discrete g control)
        where
          go : Dec (g ≡ control) → count_of s T₄ g ≡ objects_of s T₄ g
          go (yes e) = subst (λ (x : ℕ). count_of s T₄ x ≡ objects_of s T₄ x) (sym e) (C.count ∙ sym own-count)
          go (no ne) =
              word₄ (count_at s g) (λ z. omega arith) (λ e. omega arith) (λ e. omega (arith, rm)) ∙ a.keeping.whole.counts g pos high
              ∙ sym (sum_same (objects_on s T₄ g) (objects_on s w.tables g) s.pages
              (λ page b. ⊎_elim (λ q. subst (λ (x : ℕ). objects_on s T₄ g x ≡ objects_on s w.tables g x) q.2 (objects-no s T₄ g (get_or l q.0 0) (own-else q.0 q.1 g pos ne) ∙ sym (objects-no s w.tables g (get_or l q.0 0) (λ e. ne (sym e ∙ a.list.each q.0 q.1)))))
              (λ z. on_same (other-same page b z) g) (which a page b)))

      pub regular₄ : Regular s T₄
      regular₄ = record { pages = pages-filled; partial = one-partial; counts = counts-right }

      -- ---- the rest

      pub depth₄ : (u : ℕ) → u < s.threads → depth_of T₄ u ≡ depth_in w u
      depth₄ u h = word₄ (depth_at u) (λ z. omega arith) (λ e. omega (arith, rm)) (λ e. omega (arith, rm))

      pub open₄ : (page : ℕ) → page < s.pages → 1 < owner_of s T₄ page → Open s T₄ (owner_of s T₄ page)
      open₄ page b p = ⊎_elim own other (which a page b)
        where
          own : (j : ℕ) × (j < n) × (get_or l j 0 ≡ page) → Open s T₄ (owner_of s T₄ page)
          own q =
              absurd (own-else q.0 q.1 (owner_of s T₄ page) (omega arith) (λ (e : owner_of s T₄ page ≡ control). omega arith) (ap (owner_of s T₄) q.2))

          other : owner_in s w page ≢ control → Open s T₄ (owner_of s T₄ page)
          other z =
              let e = (other-same page b z).owner in
              let o = (a.keeping.whole.pages page b).region (omega (arith, e)) in
              subst (Open s T₄) (sym e) (record { real = o.real; thread = o.thread; level = omega (arith, o.level, depth₄ (thread_of s (owner_in s w page)) o.thread) })

      pub marks₄ : (page : ℕ) → page < s.pages → mark_of s T₄ page ≡ 0
      marks₄ page b = ⊎_elim (λ q. subst (λ (x : ℕ). mark_of s T₄ x ≡ 0) q.2 (own-mark q.0 q.1)) (other-mark page b) (which a page b)

      pub variable₄ : (i : ℕ) → i < var_count s → var_of s T₄ i ≡ forwarded W₂ (var_of s w.tables i)
      variable₄ i h =
          C.same (var_at s i) (λ e. omega (arith, rm)) (λ e. omega (arith, rm))
          ∙ Z.tables (var_at s i) (λ j b. (λ e. omega (arith, rm, low j b), λ e. omega (arith, rm, low j b), λ e. omega (arith, rm, low j b)))
          ∙ Y.moved i h ∙ ap (forwarded W₂) (var-same a.keeping.marks rm i h)

      pub made₄ : made_of s T₄ ≡ made_of s w.tables
      made₄ = word₄ (made_at s) (λ z. omega (arith, rm)) (λ e. omega (arith, rm)) (λ e. omega arith)

      pub freed₄ : freed_of s T₄ ≡ counted (freed_of s w.tables + f)
      freed₄ = C.freed ∙ ap (λ (x : ℕ). counted (x + f)) freed₃

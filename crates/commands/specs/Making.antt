-- Code 3 does what the rules say: 13 exactly if the region has no partly filled page and no page is free, else a new object.
use Rattle.std.specs.Prelude.{◌≡◌, ℕ, ◌+◌, ◌^◌, ◌<◌, ◌≤◌, Bool, ◌&&◌, ◌⊎◌, List, [], ◌∷◌, ◌++◌, length, nat_le, slice_set}
use Rattle.std.proofs.Common.{arith, ◌∙◌, inl, inr, lt-ltb, le-leb}
use Rattle.std.proofs.Math.Path.{refl, sym, ap, ap₂, subst}
use Rattle.lists.specs.Products.{flat-low}
use Rattle.rules.specs.declared.Sizes.{Sizes}
use Rattle.rules.specs.Terms.{ask, refused, done, limits, first}
use Rattle.rules.specs.NeverFreeing as nf
use Rattle.rules.specs.NeverFreeing.{place}
use Rattle.rules.specs.Regions.{region_at, regions}
use Rattle.rules.specs.Graph.{new_pages, free_pages}
use Rattle.rules.specs.Rules as ru
use Rattle.rules.specs.Rules.{counted, Regioned, graph, one_made, taken_by}
use Rattle.layout.specs.Places.{depth_of, used_of, count_of, count_at, made_at, made_of, count_room}
use Rattle.layout.specs.Cells.{head_at, cell_on, page_cells, head_word, most_fields, CellIn}
use Rattle.layout.specs.Words.{Words, words, heap_of}
use Rattle.promises.specs.Whole.{WholeFor, Open}
use Rattle.promises.specs.Regular.{whole-regular}
use Rattle.promises.proofs.OwnedPages.{count_fits}
use Rattle.promises.specs.Reading.{cell_in}
use Rattle.promises.specs.Agreed.{heap-stands}
use Rattle.promises.proofs.Here.{here-depth}
use Rattle.promises.proofs.Questions.{did-refused, did-moved}
use Rattle.promises.proofs.NewPages.{innermost-pos, innermost-low, innermost-open, PartlyFilled, FreePage, new-fits, new-lacks}
use Rattle.promises.specs.Changes.{with_tables, with_variable, with_new}
use Rattle.promises.specs.Areas.{beyond-both}
use Rattle.promises.specs.TakeCell.{Took}
use Rattle.promises.proofs.TakeCell.{took-made}
use Rattle.promises.proofs.NewCell.{Blank, blanked, new-only, new-whole}
use Rattle.promises.proofs.FrameVariable.{variable-only}
use Rattle.promises.proofs.FrameNew.{Takes, blank_object, made-stands, to-old, with_cell}
use Rattle.promises.proofs.TakenPage.{took-takes}
use Rattle.pages.specs.Pages.{Filled, regular-filled, Found, taken}
use Rattle.pages.specs.Noted.{Noted, noted-kept, none-freed-before, took-none-freed}
use Rattle.pages.proofs.Took.{found-room, taken-took}
use Rattle.commands.specs.declared.Decoded.TheVariants.{New}
use Rattle.commands.specs.Decoding.{command_for}
use Rattle.commands.specs.ThreadVariables.{variable_at, variable-low}
use Rattle.commands.specs.Does.{Does}

-- g is the region that thread u makes objects in
module _ (p : Sizes) (c m t : List ℕ) (k : WholeFor p (words c m t)) (u : ℕ) (l : u < p.threads) (g : ℕ) (eg : g ≡ region_at p u (depth_of t u)) where
  abbrev s : Sizes
  s = p

  abbrev w : Words
  w = words c m t

  abbrev H : Regioned
  H = heap_of s w

  abbrev P : Sizes
  P = s

  pub region-real : (1 ≤ g) × (g ≤ regions p)
  region-real = subst (λ (x : ℕ). (1 ≤ x) × (x ≤ regions s)) (sym eg) (innermost-pos s w k u l, innermost-low s w k u l)

  region-open : 1 < g → Open P t g
  region-open = subst (λ (x : ℕ). 1 < x → Open P t x) (sym eg) (innermost-open s w k u l)

  count-inside : count_at P g < length t
  count-inside = omega (arith, region-real, count_room s, k.sized.tables)

  -- where its objects fill pages, none is partly filled
  pub region-filled : Filled p t g
  region-filled = regular-filled (whole-regular k) g region-real.0 region-real.1

  module _ (page : ℕ) (found' : Found p t g page) where
    found : Found P t g page
    found = found'

    -- what taking a cell of the page that was found asks
    pub can-take : page < p.pages → (used_of p t page < page_cells) × (count_of p t g + 1 < 2 ^ 32)
    can-take h = (found-room (whole-regular k) h found, count_fits (whole-regular k) g region-real.0 region-real.1 k.sized.range.pages-high)

    -- no page was found: the region has none that is partly filled, and none is free
    none_found : p.pages ≤ page → (PartlyFilled s w g → ⊥) × (FreePage s w → ⊥)
    none_found h = go found
      where
        go : Found P t g page → (PartlyFilled s w g → ⊥) × (FreePage s w → ⊥)
        go (inl f) = absurd (let z : ⊥ = omega (arith, f.low) in z)
        go (inr f) = ((λ x. omega (arith, f.none x.0 x.1 x.2.owner, x.2.part)), (λ x. omega (arith, (f.some x.0 x.1 x.2).1)))

    -- a page was found
    some-found : page < p.pages → PartlyFilled s w g ⊎ FreePage s w
    some-found h = go found
      where
        go : Found P t g page → PartlyFilled s w g ⊎ FreePage s w
        go (inl f) = inl (page, h, f.partial)
        go (inr f) = inr (page, h, f.free h)

    -- the cell was taken
    module _ (low : page < p.pages) (cell : ℕ) (ec : cell ≡ cell_on page (used_of p t page)) (t₁ : List ℕ) (et : t₁ ≡ taken p t page g) where
      pub took : Took P t g cell (made_of p t) t₁
      took = taken-took (whole-regular k) low count-inside region-real found ec et

      pub cell-inside : CellIn cell (length c)
      cell-inside = cell_in s w k cell took.page

  -- ---- the command

  module _ (a b d : ℕ) (n : a < p.variables) (few : b + d ≤ most_fields) where
    new-asked : nf.question (limits s) H.heap (command_for (New u a b d)) ≡ 0
    unfolding nf.question nf.operands nf.state ask
    new-asked =
        ap₂ (λ (x y : Bool). ask x 7 (ask (y && nat_le (b + d) most_fields) 8 0)) (lt-ltb u p.threads l) (lt-ltb a p.variables n)
        ∙ ap (λ (x : Bool). ask x 8 0) (le-leb (b + d) most_fields few)

    -- the heap with the new object
    abbrev h₁ : Regioned
    h₁ = with_variable (with_new H (blank_object b d) g) (place (limits s) u a) (length H.heap.objects + 1)

    new-after : ru.after s H (command_for (New u a b d)) ≡ h₁
    unfolding ru.after ru.homes_after ru.counters_after ru.occupancy_after nf.effect
    new-after = ap (λ (x : ℕ). record { heap = h₁.heap; homes = H.homes ++ x ∷ []; counters = one_made H.counters; occupancy = taken_by H.occupancy x }) (ap (region_at s u) (here-depth s w u l) ∙ sym eg)

    -- question 13
    new-question : ru.question s H (command_for (New u a b d)) ≡ ask (nat_le (new_pages s (graph H) (graph h₁)) (free_pages s (graph H))) 13 0
    unfolding ru.question ru.room ask
    new-question =
        ap₂ first new-asked (ap (λ (h : Regioned). ask (nat_le (new_pages s (graph H) (graph h)) (free_pages s (graph H))) 13 0) new-after)

    module _ (page : ℕ) (f : Found p t g page) where
      pub new-refused : p.pages ≤ page → Does p c m t (New u a b d) c m t (refused 13)
      unfolding ask
      new-refused h =
          let none = none_found page f h in
          did-refused s w k (command_for (New u a b d)) 13 (omega arith)
          (new-question ∙ ap (λ (x : Bool). ask x 13 0)
          (new-lacks s w H (λ x. x) (heap-stands s w k) g region-real.0 region-real.1 H.heap.depths h₁.heap.vars (blank_object b d) none.0 none.1))

      module _ (low : page < p.pages) (cell : ℕ) (ec : cell ≡ cell_on page (used_of p t page)) (t₁ : List ℕ) (et : t₁ ≡ taken p t page g) (t₂ : List ℕ) (em : t₂ ≡ slice_set t₁ (made_at p) (counted (made_of p t₁ + 1))) (c₁ : List ℕ) (hc : c₁ ≡ slice_set c (head_at cell) (head_word b d)) where
        -- and one object more is made
        tk : Took P t g cell (counted (made_of p t + 1)) t₂
        tk =
            let o = took page f low cell ec t₁ et in
            subst (Took P t g cell (counted (made_of p t + 1))) (ap (λ (x : ℕ). slice_set t₁ (made_at p) (counted (x + 1))) (sym o.made) ∙ sym em)
            (took-made (counted (made_of p t + 1)) o region-real.0 region-real.1 (omega (arith, o.long, count_room s, k.sized.tables)))

        -- the cell that the rules say
        takes : Takes P t g cell t₂
        takes = took-takes (whole-regular k) region-real.0 tk

        -- no page became free
        pub new-noted : {t₃ : List ℕ} → t₃ ≡ slice_set t₂ (variable_at p u a) (cell + 1) → {notes : List ℕ} → Noted p t notes → Noted p t₃ notes
        new-noted e h = noted-kept (none-freed-before p t₂ (variable_at p u a) (cell + 1) (variable-low p u a l n) e) (noted-kept (took-none-freed region-real.0 tk) h)

        abbrev w₁ : Words
        w₁ = words c₁ m t₂

        blank : Blank c cell (head_word b d) c₁
        blank = subst (Blank c cell (head_word b d)) (sym hc) (blanked {w = w} (head_word b d) k tk)

        k₁ : WholeFor s w₁
        k₁ = new-whole s w k g cell b d t₂ c₁ tk blank few region-real.0 region-real.1 region-open

        pub new-done : {t₃ : List ℕ} → t₃ ≡ slice_set t₂ (variable_at p u a) (cell + 1) → Does p c m t (New u a b d) c₁ m t₃ (done 0)
        unfolding nf.value ask
        new-done e =
            subst (λ (q : List ℕ). Does p c m t (New u a b d) c₁ m q (done 0)) (sym e)
            (did-moved s w k (command_for (New u a b d)) (with_tables w₁ (slice_set t₂ (variable_at p u a) (cell + 1))) h₁ 0
            (new-question ∙ ap (λ (x : Bool). ask x 13 0)
            (new-fits s w H (λ x. x) (heap-stands s w k) g region-real.0 region-real.1 H.heap.depths h₁.heap.vars (blank_object b d) (some-found page f low))) new-after refl
            (beyond-both (new-only s w k g cell b d t₂ c₁ tk blank few region-real.0 region-real.1 region-open).beyond
            (variable-only s w₁ k₁ (place (limits s) u a) (cell + 1) (flat-low l n)).beyond) (λ g z. z)
            (λ so. record {
              cell = with_cell H (λ x. x) cell;
              stands = made-stands s w H (λ x. x) (heap-stands s w k) g cell b d t₂ c₁ tk takes blank few region-real.0 region-real.1 region-open (place (limits s) u a) (flat-low l n) so;
              stays = λ x al z n. to-old s w H (λ x. x) (heap-stands s w k) g cell b d t₂ c₁ tk takes blank few region-real.0 region-real.1 region-open x al;
            }))

-- What marking promises: word 1 of each object of the part that ends is the region that it goes to by the rules, and its bit says whether
-- it survives.
use Rattle.std.specs.Prelude.{◌≡◌, refl, Bool, false, List, ℕ, zero, suc, ◌+◌, ◌-◌, ◌^◌, ◌≤◌, ◌<◌, length, get_or}
use Rattle.std.proofs.Common.{sym, ap, ◌∙◌, subst, subst₂, arith}
use Rattle.std.proofs.Math.Decide.{ℕ_discrete, dec_lt}
use Rattle.lists.specs.Bits.{bit_at, bit-zero, high-none}
use Rattle.lists.specs.Members.{In}
use Rattle.lists.specs.Says.{Says, said-no}
use Rattle.rules.specs.declared.Sizes.{Sizes}
use Rattle.rules.specs.Regions.{region_at, FurtherOut}
use Rattle.rules.specs.Graph.{target}
use Rattle.laws.specs.RegionLaws.{region-high}
use Rattle.laws.specs.JoinLaws.{further-out}
use Rattle.laws.specs.GraphLaws.{Holds, Reaches, target-absorbs, target-reached, target-called, target-furthest}
use Rattle.layout.specs.Places.{depth_of, mark_of, mark_at}
use Rattle.layout.specs.Cells.{work_at, work_of, page_of, place_of, cell_of, word_of, page_cells}
use Rattle.layout.specs.Marks.{marked, not-marked}
use Rattle.layout.specs.Objects.{begins-page}
use Rattle.layout.specs.Words.{Words, words, BeginsIn, owner_in, home_in, graph_of}
use Rattle.promises.specs.Reading.{whole_room}
use Rattle.promises.specs.Whole.{WholeFor}
use Rattle.promises.specs.Ends.{Part, part_of}
use Rattle.mark.specs.Marks.{Shaped, leads-last, Small, Kept, AnyMarked, page-unmarked}
use Rattle.mark.specs.Levels.{Held, First, Levels}
use Rattle.mark.specs.Rounds.{level_refs}
use Rattle.mark.specs.Reached.{chain-rules, rules-chain, held-holds, holds-held}

-- the words w became w' by marking the survivors of an end
pub record Marked (s : Sizes) (w : Words) (e : Part) (w' : Words) : Type 0 where
  -- word 1 of an object of the part is the region that it goes to, 0 if it is freed
  pub goes : (c : ℕ) → BeginsIn s w c → e.ends (page_of c) → work_of w'.cells c ≡ e.goes c
  -- its bit is set exactly if it survives
  pub survives : (c : ℕ) → BeginsIn s w c → e.ends (page_of c) → 0 < e.goes c → marked s w'.tables c ≡ 1
  pub freed : (c : ℕ) → BeginsIn s w c → e.ends (page_of c) → e.goes c ≡ 0 → marked s w'.tables c ≡ 0
  -- no other bit is set
  pub only : (c : ℕ) → page_of c < s.pages → marked s w'.tables c ≡ 1 → BeginsIn s w c × e.ends (page_of c)
  pub small : Small s w'.tables
  -- every other word is as it was
  pub cells : (q : ℕ) → ((c : ℕ) → q ≡ work_at c → BeginsIn s w c → e.ends (page_of c) → ⊥) → get_or w'.cells q 0 ≡ get_or w.cells q 0
  pub kept : Kept s w.cells w.tables w'.cells w'.tables
  pub remember : w'.remember ≡ w.remember

pub unmarked-freed : {s : Sizes} {w w' : Words} {e : Part} → Marked s w e w' → (c : ℕ) → BeginsIn s w c → e.ends (page_of c) → (marked s w'.tables c ≡ 1 → ⊥) → e.goes c ≡ 0
unmarked-freed {e = e} m c u own off = go (dec_lt 0 (e.goes c))
  where
    go : Dec (0 < e.goes c) → e.goes c ≡ 0
    go (yes l) = absurd (off (m.survives c u own l))
    go (no n) = omega arith

-- ---- from the levels

-- what is listed for level l is what holders hold that call for the region of that level, and the lower the level, the further out that is
pub record Called (s : Sizes) (w : Words) (r n : ℕ) (gs : ℕ → ℕ) (calls : ℕ → List ℕ) : Type 0 where
  pub holds : (l x : ℕ) → home_in s w x ≡ r → In (1 + x) (calls l) → Holds s (graph_of s w) r x (gs l)
  pub held : (x q : ℕ) → home_in s w x ≡ r → Holds s (graph_of s w) r x q → (l : ℕ) × (l < n) × (q ≡ gs l) × In (1 + x) (calls l)
  pub outward : (l i : ℕ) → l < i → i < n → FurtherOut s (gs l) (gs i)

module _ (s : Sizes) (w : Words) (k : WholeFor s w) {r n : ℕ} {gs : ℕ → ℕ} {calls : ℕ → List ℕ} {W' T' : List ℕ} (pos : 0 < r)
    (a : Called s w r n gs calls) (L : Levels s r n gs calls w.cells w.tables W' T') where
  held-reaches : (l c : ℕ) → Held s r w.cells w.tables calls l c → Reaches s (graph_of s w) r (gs l) c
  held-reaches l c h =
      let x = chain-rules s w k r pos (calls l) c h in
      record { first = x.0; lies = x.2; held = a.holds l x.0 x.2 x.1; leads = x.3 }

  reaches-held : (q c : ℕ) → Reaches s (graph_of s w) r q c → (l : ℕ) × (l < n) × (q ≡ gs l) × Held s r w.cells w.tables calls l c
  reaches-held q c h =
      let x = a.held h.first q h.lies h.held in
      (x.0, x.1, x.2, rules-chain s w k r pos (calls x.0) h.first c x.3 h.lies h.leads)

  -- the first level of a holder that leads to c is the outermost region called for
  first-target : (c l : ℕ) → First s r w.cells w.tables calls n c l → target s (graph_of s w) r c ≡ gs l
  first-target c l f =
      let b = held-reaches l c f.reached in
      let h = reaches-held (target s (graph_of s w) r c) c (target-called s (graph_of s w) r c (target-absorbs s (graph_of s w) r c (gs l) b).some) in
      go h.0 h.1 h.2 (λ (b : h.0 < l). f.none h.0 b h.3) (target-furthest s (graph_of s w) r c (gs l) b) (ℕ_discrete l h.0)
    where
      go : (i : ℕ) → i < n → target s (graph_of s w) r c ≡ gs i → (i < l → ⊥) → (FurtherOut s (gs l) (target s (graph_of s w) r c) → ⊥) → Dec (l ≡ i)
          → target s (graph_of s w) r c ≡ gs l
      go i b e n out (yes d) = e ∙ ap gs (sym d)
      go i b e n out (no d) = absurd (out (subst (FurtherOut s (gs l)) (sym e) (a.outward l i (omega (arith, n)) b)))

  lost-target : (c : ℕ) → ((l : ℕ) → l < n → Held s r w.cells w.tables calls l c → ⊥) → target s (graph_of s w) r c ≡ 0
  lost-target c n = go (dec_lt 0 (target s (graph_of s w) r c))
    where
      go : Dec (0 < target s (graph_of s w) r c) → target s (graph_of s w) r c ≡ 0
      go (yes l) = let q = target-reached s (graph_of s w) r c l in let h = reaches-held q.0 c q.1 in absurd (n h.0 h.1 h.3)
      go (no l) = omega arith

  found-owned : (c : ℕ) → page_of c < s.pages → marked s T' c ≡ 1 → BeginsIn s w c × (owner_in s w (page_of c) ≡ r)
  found-owned c b on =
      leads-last (L.found c b on).1.reached

  pub levels-marked : Marked s w (part_of s w r) (words W' w.remember T')
  levels-marked =
      record {
        goes = λ c u own. goes c u (ℕ_discrete (marked s T' c) 1);
        survives = λ c u own l. on c u l (ℕ_discrete (marked s T' c) 1);
        freed = λ c u own z. not-marked s T' c (λ b. let f = L.found c (begins-page _ _ _ _ u) b in omega (arith, first-target c f.0 f.1, (target-absorbs s (graph_of s w) r c (gs f.0) (held-reaches f.0 c f.1.reached)).some));
        only = found-owned;
        small = λ page l. high-none page_cells (mark_of s T' page) (λ i h. L.kept.high (mark_at s page) i h ∙ ap (λ (x : ℕ). bit_at x i) (k.marks page l) ∙ bit-zero i);
        kept = L.kept;
        cells = λ q n. word q n (ℕ_discrete (word_of q) 1);
        remember = refl;
      }
    where
      goes : (c : ℕ) → BeginsIn s w c → Dec (marked s T' c ≡ 1) → work_of W' c ≡ target s (graph_of s w) r c
      goes c u (yes b) = let f = L.found c (begins-page _ _ _ _ u) b in f.2 ∙ sym (first-target c f.0 f.1)
      goes c u (no n) = let f = L.lost c (begins-page _ _ _ _ u) (not-marked s T' c n) in f.0 ∙ k.works c u ∙ sym (lost-target c f.1)

      on : (c : ℕ) → BeginsIn s w c → 0 < target s (graph_of s w) r c → Dec (marked s T' c ≡ 1) → marked s T' c ≡ 1
      on c u l (yes b) = b
      on c u l (no n) = absurd (let z : ⊥ = omega (arith, lost-target c (L.lost c (begins-page _ _ _ _ u) (not-marked s T' c n)).1) in z)

      work : (c : ℕ) → (BeginsIn s w c → owner_in s w (page_of c) ≡ r → ⊥) → Dec (page_of c < s.pages) → Dec (marked s T' c ≡ 1) → work_of W' c ≡ work_of w.cells c
      work c n (no b) d = L.kept.cells (work_at c) (λ e l z. b (omega arith))
      work c n (yes b) (yes d) = let f = found-owned c b d in absurd (n f.0 f.1)
      work c n (yes b) (no d) = (L.lost c b (not-marked s T' c d)).0

      word : (q : ℕ) → ((c : ℕ) → q ≡ work_at c → BeginsIn s w c → owner_in s w (page_of c) ≡ r → ⊥) → Dec (word_of q ≡ 1) → get_or W' q 0 ≡ get_or w.cells q 0
      word q n (no d) = L.kept.cells q (λ c l z. d (omega arith))
      word q n (yes d) =
          let e : work_at (cell_of q) ≡ q = omega arith in
          subst (λ (z : ℕ). get_or W' z 0 ≡ get_or w.cells z 0) e
          (work (cell_of q) (n (cell_of q) (sym e)) (dec_lt (page_of (cell_of q)) s.pages) (ℕ_discrete (marked s T' (cell_of q)) 1))

-- ---- as the code calls it

module _ (p : Sizes) (w : Words) (k : WholeFor p w) (fits : length w.tables < 2 ^ 63) where
  pub shaped-at : Shaped p w.cells w.tables
  shaped-at = record { room = whole_room p w k fits; cells-long = k.sized.cells; objects = k.objects }

module _ (p : Sizes) (w : Words) (k : WholeFor p w) where
  pub clean_at : (c : ℕ) → page_of c < p.pages → marked p w.tables c ≡ 0
  clean_at c b = ap (λ (x : ℕ). bit_at x (place_of c)) (k.marks (page_of c) b) ∙ bit-zero (place_of c)

  -- r and outer are the regions of the depth d and of the level around it, as the code has them
  pub marked-at : (t d r outer : ℕ) → t < p.threads → 0 < d → d ≡ depth_of w.tables t → r ≡ region_at p t d → outer ≡ region_at p t (d - 1) → {W' T' : List ℕ}
      → Levels p r d (region_at p t) (level_refs p w.cells w.remember w.tables r t outer) w.cells w.tables W' T'
      → Marked p w (part_of p w r) (words W' w.remember T')
  marked-at t zero r outer th l dk er eo L = absurd (let z : ⊥ = omega arith in z)
  marked-at t (suc j) r outer th l dk er eo {W'} {T'} L =
      let j' : suc j - 1 ≡ j = omega arith in
      let eo' : outer ≡ region_at p t j = eo ∙ ap (region_at p t) j' in
      let deep : suc j ≤ p.depth = omega (arith, dk, k.depths t th) in
      subst (λ (g : ℕ). Marked p w (part_of p w g) (words W' w.remember T')) (sym er)
      (levels-marked p w k (omega (arith, region-high p t j))
      (record { holds = λ l. held-holds p w k t j th (sym dk) (region_at p t l); held = holds-held p w k t j th (sym dk); outward = λ l i b d. further-out p t l i b (omega arith) })
      (subst₂ (λ (a b : ℕ). Levels p a (suc j) (region_at p t) (level_refs p w.cells w.remember w.tables a t b) w.cells w.tables W' T') er eo' L))

-- where nothing survives, every mark word is 0
pub none-survives : (p : Sizes) (w : Words) (e : Part) (w' : Words) → Marked p w e w' → (b : Bool) → Says b (AnyMarked p w'.tables) → b ≡ false
    → (page : ℕ) → page < p.pages → mark_of p w'.tables page ≡ 0
none-survives p w e w' m b says z page l = page-unmarked p w'.tables page (m.small page l) (λ c q on. said-no b says z (c, omega arith, on))

-- COLLECTING TWICE in a row changes nothing the second time (02, W5), of the words. What the first collection leaves is compact.
use Rattle.std.specs.Prelude.{ℕ, suc, ◌+◌, ◌-◌, ◌*◌, ◌<◌, min, ◌≡◌, Bool, cond, length, eqb}
use Rattle.std.proofs.Common.{arith, ap₂, subst, ◌∙◌, eq-eqb, ne_eqb}
use Rattle.std.proofs.Math.Decide.{ℕ_discrete}
use Rattle.std.proofs.Math.Path.{sym, ap}
use Rattle.lists.specs.Counting.{bit, sum_mono}
use Rattle.rules.specs.declared.Sizes.{Sizes}
use Rattle.rules.specs.declared.Answer.{Answer}
use Rattle.rules.specs.Regions.{control}
use Rattle.rules.specs.Graph.{Graph, target, ended, freed_by}
use Rattle.rules.specs.Pages.{Page, Pages, free_page, nth_page, filled, filled_by}
use Rattle.rules.specs.Rules as ru
use Rattle.rules.specs.Rules.{Counters, Regioned, counted, graph, home_of, slides, slid}
use Rattle.laws.specs.GraphLaws.{Alive}
use Rattle.laws.specs.EndLaws.{home-went}
use Rattle.laws.specs.Counters.{counted-add}
use Rattle.laws.specs.Collected.{home-kept, again}
use Rattle.laws.specs.SlideLaws.{own_below, filled_at, own-more}
use Rattle.laws.specs.RulesLaws.{control-pos, collected, graph-collected}
use Rattle.layout.specs.Cells.{page_of, page_cells}
use Rattle.layout.specs.Words.{Words, BeginsIn, owner_in, used_in, freed_in, home_in, pages_in, pages-count, page-there, graph_of, heap_of}
use Rattle.promises.specs.StandsFor.{StandsFor}
use Rattle.promises.specs.Promises.{DidHere}
use Rattle.promises.specs.Reading.{used-home}
use Rattle.promises.specs.Agreed.{targets-agree, cell-used}
use Rattle.promises.specs.WordsOf.{laid}
use Rattle.promises.proofs.Laid.{whole-laid}
use Rattle.ended.specs.CollectedDid.{collect_of}
use Rattle.ended.proofs.CollectedDid.{after-collect, collect-accepted}
use Rattle.demand.specs.Compact.{Compact, collected-again}

-- ---- the pages of the control space that objects fill

module _ (ps : Pages) where
  below-rises : (i j : ℕ) → i < j → (nth_page ps i).owner ≡ control → own_below control ps i < own_below control ps j
  unfolding own_below
  below-rises i j l e = omega (arith, own-more control ps i e, sum_mono (λ d. bit (eqb (nth_page ps d).owner control)) (suc i) j (omega arith))

  module _ (n : ℕ) where
    abbrev left : ℕ → ℕ
    left i = n - 16 * own_below control ps i

    -- a page that is the control space's when n objects fill its pages
    filled-own : (i : ℕ) → i < length ps → (nth_page (filled_by control n ps) i).owner ≡ control
        → ((nth_page ps i).owner ≡ control) × (0 < left i) × ((nth_page (filled_by control n ps) i).used ≡ min (left i) 16)
    filled-own i l e = go (ℕ_discrete (nth_page ps i).owner control) (ℕ_discrete (left i) 0)
      where
        at : nth_page (filled_by control n ps) i ≡ cond (eqb (nth_page ps i).owner control) (filled control (left i)) (nth_page ps i)
        at = filled_at control n ps i l

        go : Dec ((nth_page ps i).owner ≡ control) → Dec (left i ≡ 0)
            → ((nth_page ps i).owner ≡ control) × (0 < left i) × ((nth_page (filled_by control n ps) i).used ≡ min (left i) 16)
        go (no z) d =
            let same = at ∙ ap (λ (b : Bool). cond b (filled control (left i)) (nth_page ps i)) (ne_eqb (nth_page ps i).owner control z) in
            absurd (z (sym (ap (λ (p : Page). p.owner) same) ∙ e))
        go (yes z) (yes y) =
            let free = at ∙ ap₂ (λ (b c : Bool). cond b (cond c free_page (record { owner = control; used = min (left i) 16 })) (nth_page ps i)) (eq-eqb (nth_page ps i).owner control z) (eq-eqb (left i) 0 y) in
            let none : 0 ≡ control = sym (ap (λ (p : Page). p.owner) free) ∙ e in
            absurd (let o : ⊥ = omega arith in o)
        go (yes z) (no y) =
            let taken = at ∙ ap₂ (λ (b c : Bool). cond b (cond c free_page (record { owner = control; used = min (left i) 16 })) (nth_page ps i)) (eq-eqb (nth_page ps i).owner control z) (ne_eqb (left i) 0 y) in
            (z, omega arith, ap (λ (p : Page). p.used) taken)

    -- of two of them the lower is full
    filled-full : (i j : ℕ) → i < j → j < length ps → (nth_page (filled_by control n ps) i).owner ≡ control → (nth_page (filled_by control n ps) j).owner ≡ control
        → (nth_page (filled_by control n ps) i).used ≡ 16
    filled-full i j l m e f =
        let p = filled-own i (omega arith) e in
        let q = filled-own j m f in
        omega (arith, p.2, q.1, below-rises i j l p.0)

-- ---- what a collection leaves is compact

module _ (s : Sizes) (w : Words) (t : ℕ) (th : t < s.threads) where
  -- the command is never refused
  step-collected : (ru.step s (heap_of s w) (collect_of t)).next ≡ collected s (heap_of s w)
  unfolding ru.step ru.answered
  step-collected = ap (λ (q : ℕ). (ru.answered s (heap_of s w) (collect_of t) q).next) (collect-accepted s w t th) ∙ after-collect s w t

module _ (s : Sizes) (w w₁ : Words) (cell : ℕ → ℕ) (st : StandsFor s w₁ (collected s (heap_of s w)) cell) where
  abbrev C : Regioned
  C = collected s (heap_of s w)

  -- its second end keeps every home (`again`), so in the words every object of the control space has a holder
  again-home : (x : ℕ) → (ended s (graph C) control).home x ≡ (graph C).home x
  again-home x = subst (λ (g : Graph). (ended s g control).home x ≡ g.home x) (sym (graph-collected s (heap_of s w))) (again s (graph (heap_of s w)) x)

  held-again : (x : ℕ) → home_in s w₁ x ≡ control → target s (graph_of s w₁) control x ≡ control
  held-again x e =
      let y = st.partners.onto x (λ (z : home_in s w₁ x ≡ 0). omega arith) in
      let lies : (graph C).home y.0 ≡ control = sym (st.partners.home y.0 y.1) ∙ ap (home_in s w₁) y.2 ∙ e in
      ap (target s (graph_of s w₁) control) (sym y.2) ∙ targets-agree s w₁ C cell st control control-pos y.0 y.1
      ∙ sym (home-went s (graph C) control y.0 lies) ∙ again-home y.0 ∙ lies

  -- the pages of the words are those that the rules filled
  page-now : (i : ℕ) → i < s.pages → nth_page C.occupancy.pages i ≡ record { owner = owner_in s w₁ i; used = used_in s w₁ i }
  page-now i l = ap (λ (qs : Pages). nth_page qs i) st.occupies.pages ∙ page-there s w₁.tables i l

  full-again : (i j : ℕ) → i < j → j < s.pages → owner_in s w₁ i ≡ control → owner_in s w₁ j ≡ control → used_in s w₁ i ≡ page_cells
  unfolding slid heap_of
  full-again i j l m e f =
      let a = page-now i (omega arith) in
      sym (ap (λ (p : Page). p.used) a)
      ∙ filled-full (pages_in s w) (length (slides s (heap_of s w) control (ru.ended s (heap_of s w) control))) i j l (omega (arith, pages-count s w.tables))
      (ap (λ (p : Page). p.owner) a ∙ e) (ap (λ (p : Page). p.owner) (page-now j m) ∙ f)

  counts-again : counted (freed_in s w₁) ≡ freed_in s w₁
  counts-again =
      let n = (heap_of s w).counters.freed + freed_by s (graph (heap_of s w)) control in
      let e : counted n ≡ freed_in s w₁ = ap (λ (c : Counters). c.freed) st.counters in
      ap counted (sym e) ∙ ap counted (let z : counted n ≡ 0 + counted n = omega arith in z) ∙ counted-add 0 n ∙ ap counted (let z : 0 + n ≡ n = omega arith in z) ∙ e

  compact : Compact s w₁
  compact = record { whole = st.whole; held = held-again; full = full-again; counts = counts-again }

-- COLLECTING TWICE, by whichever threads, is collecting once
pub collected-twice : (s : Sizes) (w w₁ w₂ : Words) (t u : ℕ) (a b : Answer) → t < s.threads → u < s.threads → DidHere s w (collect_of t) w₁ a → DidHere s w₁ (collect_of u) w₂ b → w₂ ≡ w₁
collected-twice s w w₁ w₂ t u a b th uh d e =
    let st = subst (λ (h : Regioned). StandsFor s w₁ h d.next.cell) (step-collected s w t th) d.next.stands in
    let q = compact s w w₁ d.next.cell st in
    e.words ∙ ap (λ (h : Regioned). laid s h w₁) (step-collected s w₁ u uh ∙ collected-again s w₁ q) ∙ sym (whole-laid s w₁ st.whole)

-- NO PAGE THAT HOLDS A KEPT OBJECT GOES BACK: whatever is there after a collection begins in a cell in use, on a page of the region that it lay in
pub kept-page : (s : Sizes) (w w₁ : Words) (t : ℕ) (a : Answer) → t < s.threads → (d : DidHere s w (collect_of t) w₁ a) → (x : ℕ) → Alive (ended s (graph (heap_of s w)) control) x
    → BeginsIn s w₁ (d.next.cell x) × (owner_in s w₁ (page_of (d.next.cell x)) ≡ home_of (heap_of s w) x)
kept-page s w w₁ t a th d x l =
    let st = subst (λ (h : Regioned). StandsFor s w₁ h d.next.cell) (step-collected s w t th) d.next.stands in
    let same = graph-collected s (heap_of s w) in
    let b : Alive (graph (collected s (heap_of s w))) x = λ z. l (sym (ap (λ (g : Graph). g.home x) same) ∙ z) in
    let u = cell-used s w₁ (collected s (heap_of s w)) d.next.cell st x b in
    (u, sym (used-home s w₁ (d.next.cell x) u) ∙ st.partners.home x b ∙ ap (λ (g : Graph). g.home x) same ∙ home-kept s (graph (heap_of s w)) x l)

-- Sums over the marked cells, page by page and set bit by set bit; and how many survivors go to a region.
use Rattle.std.specs.Prelude.{◌≡◌, refl, Bool, true, false, cond, List, ℕ, zero, suc, ◌+◌, ◌-◌, ◌*◌, ◌^◌, ◌≤◌, ◌<◌, eqb, length, get_or, set}
use Rattle.std.proofs.Common.{sym, ap, ap₂, ◌∙◌, subst, arith, one-mul, zero-mul, eq-eqb, ne_eqb}
use Rattle.std.proofs.Math.Decide.{ℕ_discrete}
use Rattle.std.specs.Int.Count.{ones}
use Rattle.lists.specs.Counting.{bit, sum, sum_same, sum-high, sum-blocks}
use Rattle.lists.specs.Bits.{bit_at, bit-lt, Lowest, bit_sum, bit-sum-clear, bit-sum-zero}
use Rattle.lists.specs.SetBits.{Walked, walk_end}
use Rattle.lists.specs.Stores.{put, past}
use Rattle.rules.specs.declared.Sizes.{Sizes}
use Rattle.rules.specs.Graph.{target}
use Rattle.laws.specs.Counts.{landed}
use Rattle.layout.specs.Places.{mark_of}
use Rattle.layout.specs.Cells.{work_of, page_of, place_of, cell_on, first_on, page_cells}
use Rattle.layout.specs.Marks.{marked, not-marked}
use Rattle.layout.specs.Words.{Words, home_in, graph_of, cell_count}
use Rattle.promises.specs.Ends.{part_of}
use Rattle.promises.specs.Arriving.{goes_to, goes-yes, goes-no, goes-le, arriving}
use Rattle.promises.specs.Whole.{WholeFor}
use Rattle.mark.specs.Reached.{home-cell, cell-home}
use Rattle.mark.specs.Survivors.{Marked}

-- the sum of f over the set bits of a working word
unfoldable pub over_bits : (ℕ → ℕ) → ℕ → ℕ
over_bits f w = bit_sum page_cells w f

-- over the cells of a page whose bit is set in w
abbrev pub on_page : (ℕ → ℕ) → ℕ → ℕ → ℕ
on_page f page w = over_bits (λ i. f (cell_on page i)) w

-- and over all marked cells
abbrev pub over_marked : Sizes → List ℕ → (ℕ → ℕ) → ℕ → ℕ
over_marked p T f n = sum (λ page. on_page f page (mark_of p T page)) n

-- cell by cell
pub over-cells : (p : Sizes) (T : List ℕ) (f : ℕ → ℕ) → over_marked p T f p.pages ≡ sum (λ c. marked p T c * f c) (cell_count p)
unfolding over_bits
over-cells p T f =
    sym
    (sum-blocks page_cells (λ c. marked p T c * f c) (λ page. on_page f page (mark_of p T page)) p.pages
    (λ page l.
    sum_same (λ i. marked p T (cell_on page i) * f (cell_on page i)) (λ i. bit_at (mark_of p T page) i * f (cell_on page i)) page_cells
    (λ i h.
    let d : page_of (cell_on page i) ≡ page = omega arith in
    let m : place_of (cell_on page i) ≡ i = omega arith in
    ap₂ (λ (x y : ℕ). bit_at (mark_of p T x) y * f (cell_on page i)) d m)))

-- no sum is too great for the code
pub page-high : (f : ℕ → ℕ) (m : ℕ) → ((c : ℕ) → f c ≤ m) → (page w : ℕ) → on_page f page w ≤ m * page_cells
unfolding over_bits
page-high f m h page w =
    sum-high (λ i. bit_at w i * f (cell_on page i)) m page_cells
    (λ i l. go (f (cell_on page i)) (h (cell_on page i)) (bit_at w i) (bit-lt i w))
  where
    go : (x : ℕ) → x ≤ m → (b : ℕ) → b < 2 → b * x ≤ m
    go x l zero b = omega (arith, zero-mul x)
    go x l (suc zero) b = omega (arith, one-mul x)
    go x l (suc (suc n)) b = absurd (let z : ⊥ = omega arith in z)

bits-clear : (f : ℕ → ℕ) (w i : ℕ) → bit_at w i ≡ 1 → i < page_cells → over_bits f w ≡ over_bits f (w - 2 ^ i) + f i
unfolding over_bits
bits-clear f w i on l = bit-sum-clear page_cells w i f on l

pub bits_none : (f : ℕ → ℕ) → over_bits f 0 ≡ 0
unfolding over_bits
bits_none f = bit-sum-zero page_cells f

-- ---- the walk over the set bits of w: n is a and the sum of f over those before left

pub record Summed (f : ℕ → ℕ) (w left a n : ℕ) : Type 0 where
  pub whole : n + over_bits f left ≡ a + over_bits f w

pub summed-start : (f : ℕ → ℕ) (w a : ℕ) → Summed f w w a a
summed-start f w a = record { whole = omega arith }

-- left', n' and x are as the code has them
pub summed-next : {f : ℕ → ℕ} {w left a n : ℕ} (i left' n' x : ℕ) → Lowest left i → left' ≡ left - 2 ^ i → x ≡ f i → n' ≡ n + x → Summed f w left a n → Summed f w left' a n'
summed-next {f} {w} {left} {a} {n} i left' n' x l e ex en h =
    subst (λ (z : ℕ). Summed f w z a n') (sym e) (record { whole = omega (arith, h.whole, bits-clear f left i l.on l.lt) })

pub summed-end : {f : ℕ → ℕ} {w left a n k : ℕ} → Walked w left k → ones w ≤ k → Summed f w left a n → n ≡ a + over_bits f w
summed-end {f} {w} {left} {a} {n} u l h =
    let z : left ≡ 0 = walk_end u l in omega (arith, h.whole, ap (over_bits f) z, bits_none f)

-- ---- survivors that go to g

-- come with one more at v, which is word 1 of c as the code read it
pub one_more : (W come : List ℕ) (c v : ℕ) → v ≡ work_of W c → v < length come → (g : ℕ) → get_or (set come v (get_or come v 0 + 1)) g 0 ≡ get_or come g 0 + goes_to W g c
one_more W come c v e l g = go (ℕ_discrete g v)
  where
    go : Dec (g ≡ v) → get_or (set come v (get_or come v 0 + 1)) g 0 ≡ get_or come g 0 + goes_to W g c
    go (yes d) =
        subst (λ (x : ℕ). get_or (set come v (get_or come v 0 + 1)) x 0 ≡ get_or come x 0 + goes_to W x c) (sym d)
        (put come v (get_or come v 0 + 1) 0 l ∙ ap (λ (n : ℕ). get_or come v 0 + n) (sym (goes-yes W v c (sym e))))
    go (no d) = omega (arith, past come v (get_or come v 0 + 1) g 0 d, goes-no W g c (λ z. d (sym z ∙ sym e)))

-- after k of the cells of a page whose bits are set in w, those before left: what come₀ had, and those that go there; k at most are new
pub record Tallied (W : List ℕ) (page w left : ℕ) (come₀ come : List ℕ) (k : ℕ) : Type 0 where
  pub each : (g : ℕ) → Summed (λ i. goes_to W g (cell_on page i)) w left (get_or come₀ g 0) (get_or come g 0)
  pub few : (g : ℕ) → get_or come g 0 ≤ cell_on page k
  pub long : length come ≡ length come₀

pub tallied-start : {W : List ℕ} {page w : ℕ} {come : List ℕ} → ((g : ℕ) → get_or come g 0 ≤ first_on page) → Tallied W page w w come come 0
tallied-start h = record { each = λ g. summed-start _ _ _; few = λ g. omega (arith, h g); long = refl }

-- left', c and come' are as the code has them
pub tallied-next : {W : List ℕ} {page w left k : ℕ} {come₀ come : List ℕ} (i left' c : ℕ) {come' : List ℕ} → Lowest left i → left' ≡ left - 2 ^ i → c ≡ cell_on page i
    → ((g : ℕ) → get_or come' g 0 ≡ get_or come g 0 + goes_to W g c) → length come' ≡ length come → Tallied W page w left come₀ come k → Tallied W page w left' come₀ come' (k + 1)
tallied-next {W} i left' c {come'} l e ec h len t =
    record {
      each = λ g. summed-next i left' (get_or come' g 0) (goes_to W g c) l e (ap (goes_to W g) ec) (h g) (t.each g);
      few = λ g. omega (arith, h g, t.few g, goes-le W g c);
      long = len ∙ t.long;
    }

pub tallied-end : {W : List ℕ} {page w left k : ℕ} {come₀ come : List ℕ} → Walked w left k → ones w ≤ k → Tallied W page w left come₀ come k
    → (g : ℕ) → get_or come g 0 ≡ get_or come₀ g 0 + on_page (goes_to W g) page w
tallied-end u l t g = summed-end u l (t.each g)

-- after marking, as many as the rules count
pub arriving-landed : (s : Sizes) (w : Words) (k : WholeFor s w) (r : ℕ) (w' : Words) → Marked s w (part_of s w r) w' → 0 < r → (g : ℕ) → 0 < g
    → arriving s w'.cells w'.tables g ≡ landed s (graph_of s w) r g
unfolding landed goes_to
arriving-landed s w k r w' m rpos g pos =
    sum_same (λ c. marked s w'.tables c * goes_to w'.cells g c)
    (λ x. cond (eqb (home_in s w x) r) (cond (eqb (target s (graph_of s w) r x) g) 1 0) 0) (cell_count s)
    (λ c l. go c l (ℕ_discrete (marked s w'.tables c) 1) (ℕ_discrete (home_in s w c) r))
  where
    one : (b : Bool) → bit b ≡ cond b 1 0
    one true = refl
    one false = refl

    go : (c : ℕ) → c < cell_count s → Dec (marked s w'.tables c ≡ 1) → Dec (home_in s w c ≡ r)
        → marked s w'.tables c * bit (eqb (work_of w'.cells c) g) ≡ cond (eqb (home_in s w c) r) (cond (eqb (target s (graph_of s w) r c) g) 1 0) 0
    go c l (yes on) (no h) = let u = m.only c (omega arith) on in absurd (h (cell-home s w k c r u.0 u.1))
    go c l (yes on) (yes h) =
        let u = m.only c (omega arith) on in
        ap₂ (λ (b x : ℕ). b * bit (eqb x g)) on (m.goes c u.0 u.1) ∙ one-mul _ ∙ one (eqb (target s (graph_of s w) r c) g)
        ∙ sym (ap (λ (b : Bool). cond b (cond (eqb (target s (graph_of s w) r c) g) 1 0) 0) (eq-eqb (home_in s w c) r h))
    go c l (no off) (no h) =
        ap (λ (b : ℕ). b * bit (eqb (work_of w'.cells c) g)) (not-marked s w'.tables c off) ∙ zero-mul _
        ∙ sym (ap (λ (b : Bool). cond b (cond (eqb (target s (graph_of s w) r c) g) 1 0) 0) (ne_eqb (home_in s w c) r h))
    go c l (no off) (yes h) =
        let u = home-cell s w k c r h rpos in
        ap (λ (b : ℕ). b * bit (eqb (work_of w'.cells c) g)) (not-marked s w'.tables c off) ∙ zero-mul _
        ∙ sym
        (ap (λ (b : Bool). cond b (cond (eqb (target s (graph_of s w) r c) g) 1 0) 0) (eq-eqb (home_in s w c) r h)
        ∙ ap (λ (b : Bool). cond b 1 0) (ne_eqb (target s (graph_of s w) r c) g (λ (e : target s (graph_of s w) r c ≡ g). off (m.survives c u.0 u.1 (omega arith)))))

-- the cell of a bit that is set in its page's working word is marked
pub marked-on : (p : Sizes) (T : List ℕ) (page i w : ℕ) → i < page_cells → w ≡ mark_of p T page → bit_at w i ≡ 1 → marked p T (cell_on page i) ≡ 1
marked-on p T page i w l e on =
    let d : page_of (cell_on page i) ≡ page = omega arith in
    let m : place_of (cell_on page i) ≡ i = omega arith in
    ap₂ (λ (x y : ℕ). bit_at (mark_of p T x) y) d m ∙ ap (λ (x : ℕ). bit_at x i) (sym e) ∙ on

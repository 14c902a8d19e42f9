-- The remember table has as many entries as the rules count crossing slots.
use Rattle.std.specs.Prelude.{ℕ, zero, suc, ◌+◌, ◌<◌, ◌≡◌, refl, List, [], ◌∷◌, Bool, not, ◌&&◌, length, get_or, ltb, eqb}
use Rattle.std.proofs.Common.{arith, sym, ap₂, ◌∙◌, eq-eqb, ne_eqb}
use Rattle.std.proofs.Math.Decide.{ℕ_discrete}
use Rattle.std.proofs.Math.Path.{ap}
use Rattle.std.proofs.Math.Bool.{cond}
use Rattle.lists.specs.Counting.{bit, sum, sum_same, sum-none}
use Rattle.lists.specs.Members.{tally}
use Rattle.rules.specs.declared.Sizes.{Sizes}
use Rattle.rules.specs.Graph.{Graph, slots_of as rule_slots, crossing}
use Rattle.rules.specs.Rules.{Regioned, graph}
use Rattle.laws.specs.GraphLaws.{Alive}
use Rattle.laws.specs.Counts.{cross_in, cross_at, crossing-sum, cross_ref, cross-cons}
use Rattle.layout.specs.Places.{cells_words, entries_used}
use Rattle.layout.specs.Cells.{field_at, field_of, page_of}
use Rattle.layout.specs.Objects.{Slot, cell_count, begins?, begins-page, begins-true, begins-false, slots_of, slots-sum}
use Rattle.layout.specs.Words.{Words, BeginsIn, owner_in, ref_count, refs_in, graph_of}
use Rattle.remember.specs.Crossing as cr
use Rattle.remember.specs.Crossing.{other, crosses_to}
use Rattle.remember.proofs.Crosses.{field-cross, no-cross, other_test}
use Rattle.promises.specs.Whole.{WholeFor, IsRef}
use Rattle.promises.specs.StandsFor.{StandsFor}
use Rattle.promises.specs.Slots.{region-of}
use Rattle.remember.specs.Counted.{every-counted}
use Rattle.promises.specs.Reading.{used-home, used-owned, used-alive, length-refs, get_d-refs, refs-room, ref-room, alive-used, ref-begins}
use Rattle.promises.specs.Agreed.{crossing-agree}

sum_head : (f : ℕ → ℕ) (n : ℕ) → sum f (suc n) ≡ f 0 + sum (λ i. f (suc i)) n
sum_head f zero = omega arith
sum_head f (suc n) = omega (arith, sum_head f n)

-- the crossing slots of an object, reference by reference
cross-in-sum : (g : Graph) (x : ℕ) (vs : List ℕ) → cross_in g x vs ≡ sum (λ i. cross_ref g x (get_or vs i 0)) (length vs)
unfolding cross_in tally rule_slots
cross-in-sum g x [] = refl
cross-in-sum g x (v ∷ vs) = cross-cons g x v vs ∙ ap (λ (n : ℕ). cross_ref g x v + n) (cross-in-sum g x vs) ∙ sym (sum_head (λ i. cross_ref g x (get_or (v ∷ vs) i 0)) (length vs))

-- what is gone has none
pub gone-cross : (g : Graph) (c : ℕ) → g.home c ≡ 0 → cross_at g c ≡ 0
unfolding cross_at
gone-cross g c z = ap (λ (b : Bool). cond b 0 (cross_in g c (g.refs c))) (eq-eqb (g.home c) 0 z)

-- what a graph counts whose references are those of the words, of an object that begins there
module _ (s : Sizes) (w : Words) (k : WholeFor s w) (g : Graph) (refs : (c : ℕ) → g.refs c ≡ refs_in w c) where
  pub alive-cross : (c : ℕ) → BeginsIn s w c → Alive g c → cross_at g c ≡ sum (λ f. cross_ref g c (field_of w.cells c f)) (ref_count w c)
  unfolding cross_at
  alive-cross c u a =
      ap (λ (b : Bool). cond b 0 (cross_in g c (g.refs c))) (ne_eqb (g.home c) 0 a) ∙ ap (cross_in g c) (refs c) ∙ cross-in-sum g c (refs_in w c)
      ∙ ap (sum (λ i. cross_ref g c (get_or (refs_in w c) i 0))) (length-refs s w k c u) ∙ sum_same _ _ (ref_count w c) (λ f l. ap (cross_ref g c) (get_d-refs w c f l))

  -- and all together, where nothing else is alive in it: the sum over the positions of slots
  module _ (count : g.count ≡ cell_count s) (begins : (c : ℕ) → Alive g c → BeginsIn s w c) (at : ℕ → ℕ)
      (none : (q : ℕ) → q < cells_words s → (Slot s w.cells w.tables q → ⊥) → at q ≡ 0)
      (gone : (c f : ℕ) → BeginsIn s w c → f < ref_count w c → g.home c ≡ 0 → at (field_at c f) ≡ 0)
      (there : (c f : ℕ) → BeginsIn s w c → f < ref_count w c → Alive g c → at (field_at c f) ≡ cross_ref g c (field_of w.cells c f)) where
    object-cross : (c : ℕ) → slots_of s w.cells w.tables at c ≡ cross_at g c
    object-cross c = go (begins? s w.cells w.tables c) (ℕ_discrete (g.home c) 0)
      where
        go : Dec (BeginsIn s w c) → Dec (g.home c ≡ 0) → slots_of s w.cells w.tables at c ≡ cross_at g c
        go (yes u) (yes z) = rw (begins-true s w.cells w.tables c u) (sum-none _ (ref_count w c) (λ f l. gone c f u l z) ∙ sym (gone-cross g c z))
        go (yes u) (no a) = rw (begins-true s w.cells w.tables c u) (sum_same _ _ (ref_count w c) (λ f l. there c f u l a) ∙ sym (alive-cross c u a))
        go (no n) (yes z) = rw (begins-false s w.cells w.tables c n) (sym (gone-cross g c z))
        go (no n) (no a) = absurd (n (begins c a))

    pub positions-crossing : sum at (cells_words s) ≡ crossing g
    positions-crossing =
        slots-sum s w.cells w.tables at none (refs-room s w k) ∙ sum_same _ _ (cell_count s) (λ c l. object-cross c) ∙ ap (sum (cross_at g)) (sym count) ∙ sym (crossing-sum g)

module _ (s : Sizes) (w : Words) (k : WholeFor s w) where
  module _ (c : ℕ) (u : BeginsIn s w c) where
    pub ref-test : (v : ℕ) → IsRef s w.cells w.tables v → bit (ltb 0 (crosses_to s w.tables c v)) ≡ cross_ref (graph_of s w) c v
    ref-test zero f = refl
    ref-test (suc y) f =
        let v : BeginsIn s w y = ref-begins s w.cells w.tables (suc y) y f refl in
        let o = owner_in s w (page_of c) in
        let g = owner_in s w (page_of y) in
        let pos : g ≡ 0 → ⊥ = used-owned s w k y v in
        ap (λ (n : ℕ). bit (ltb 0 (other o n))) (region-of s w.tables y (begins-page s w.cells w.tables y v)) ∙ other_test o g (omega arith)
        ∙ sym (ap₂ (λ (a b : ℕ). cond (not (eqb a b) && not (eqb b 1)) 1 0) (used-home s w c u) (used-home s w y v))

    at_ref : (f : ℕ) → f < ref_count w c → bit (cr.crossing s w.cells w.tables (field_at c f)) ≡ cross_ref (graph_of s w) c (field_of w.cells c f)
    at_ref f m =
        ap (λ (n : ℕ). bit (ltb 0 n)) (field-cross s w.cells w.tables c f u (ref-room s w k c f u m) m)
        ∙ ref-test (field_of w.cells c f) ((k.objects c u).references f m)

  -- the number of entries used is the rules' count of crossing slots
  pub entries-crossing : entries_used w.remember ≡ crossing (graph_of s w)
  entries-crossing =
      sym (every-counted (cr.cross_to s w.cells w.tables) (cells_words s) s.entries w.remember k.remember)
      ∙ positions-crossing s w k (graph_of s w) (λ c. refl) refl (alive-used s w) (λ q. bit (cr.crossing s w.cells w.tables q))
      (λ q l n. ap (λ (x : ℕ). bit (ltb 0 x)) (no-cross s w.cells w.tables q n)) (λ c f u l z. absurd (used-alive s w k c u z)) (λ c f u l a. at_ref c u f l)

-- of whatever heap the words stand for
module _ (s : Sizes) (w : Words) (h : Regioned) (cell_of : ℕ → ℕ) (st : StandsFor s w h cell_of) where
  pub heap-entries : entries_used w.remember ≡ crossing (graph h)
  heap-entries = entries-crossing s w st.whole ∙ sym (crossing-agree s w h cell_of st)

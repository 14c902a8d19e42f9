-- Words that stand for a heap are paired with the never-freeing heap inside it.
use Prim.Native.Nat.{ℕ, zero, suc, ◌+◌, ◌*◌, ◌<◌}
use Rattle.std.proofs.Common.{arith, ◌∙◌, eq-eqb, ne_eqb, eqb-true}
use Rattle.std.proofs.Math.Nat.{suc_inj}
use Rattle.std.specs.Prelude.{◌≡◌, Bool, true, false, cond, eqb}
use Rattle.std.proofs.Math.Path.{refl, sym, ap, subst}
use mathlib.Core.List.{List}
use Rattle.std.proofs.Math.ListN.{length, get_or, get_or-map}
use Rattle.std.proofs.lemmas.List.{length-map}
use Rattle.std.proofs.lemmas.Bool.{eqb-false}
use Rattle.rules.specs.declared.Sizes.{Sizes}
use Rattle.lists.specs.Members.{get_d-in, in_bounds}
use Rattle.rules.specs.NeverFreeing.{no_object}
use Rattle.laws.specs.GraphLaws.{Alive}
use Rattle.laws.specs.SameRules.{renamed}
use Rattle.rules.specs.Rules.{Regioned, graph}
use Rattle.layout.specs.declared.Kind.TheVariants.{Number}
use Rattle.layout.specs.Cells.{field_of, first-number}
use Rattle.layout.specs.Words.{Words, BeginsIn, head_in}
use Rattle.lists.specs.Listed.{listed, length-listed, get_d-listed}
use Rattle.promises.specs.StandsFor.{StandsFor}
use Rattle.promises.specs.Agreed.{cell-used}
use Rattle.demand.specs.DemandThree.{Leads, null, partners, Alike, Paired}
use Rattle.promises.specs.Reading.{get_d-refs, get_d-fields, var-at, depth-at, used-owned, used-alive, length-refs, length_fields}

-- the partner of object x, as a reference
abbrev pub pair_of : Regioned → (ℕ → ℕ) → ℕ → ℕ
pair_of h cell_of x = cond (eqb ((graph h).home x) 0) 0 (suc (cell_of x))

unfoldable pub pairs_of : Regioned → (ℕ → ℕ) → List ℕ
pairs_of h cell_of = listed (pair_of h cell_of) (length h.heap.objects)

pub pair-there : (h : Regioned) (cell_of : ℕ → ℕ) (x : ℕ) → Alive (graph h) x → pair_of h cell_of x ≡ suc (cell_of x)
pair-there h cell_of x a = ap (λ (b : Bool). cond b 0 (suc (cell_of x))) (ne_eqb ((graph h).home x) 0 a)

pub pair-freed : (h : Regioned) (cell_of : ℕ → ℕ) (x : ℕ) → (graph h).home x ≡ 0 → pair_of h cell_of x ≡ 0
pair-freed h cell_of x z = ap (λ (b : Bool). cond b 0 (suc (cell_of x))) (eq-eqb ((graph h).home x) 0 z)

module _ (s : Sizes) (w : Words) (h : Regioned) (cell_of : ℕ → ℕ) (st : StandsFor s w h cell_of) where
  pub pair-alive : (x : ℕ) → Alive (graph h) x → get_or (pairs_of h cell_of) x 0 ≡ suc (cell_of x)
  unfolding pairs_of
  pair-alive x a = get_d-listed (pair_of h cell_of) (length h.heap.objects) x 0 (st.sound.closed.below x a) ∙ pair-there h cell_of x a

  pub pair-back : (x c : ℕ) → get_or (pairs_of h cell_of) x 0 ≡ suc c → Alive (graph h) x × (cell_of x ≡ c)
  unfolding pairs_of
  pair-back x c e = go (eqb ((graph h).home x) 0) refl
    where
      there : x < length h.heap.objects
      there = omega (arith, in_bounds (pairs_of h cell_of) x (λ z. omega arith), length-listed (pair_of h cell_of) (length h.heap.objects))

      at : pair_of h cell_of x ≡ suc c
      at = sym (get_d-listed (pair_of h cell_of) (length h.heap.objects) x 0 there) ∙ e

      go : (b : Bool) → eqb ((graph h).home x) 0 ≡ b → Alive (graph h) x × (cell_of x ≡ c)
      go true f = absurd (omega (arith, at, pair-freed h cell_of x (eqb-true ((graph h).home x) 0 f)))
      go false f = let a = eqb-false ((graph h).home x) 0 f in (a, suc_inj (sym (pair-there h cell_of x a) ∙ at))

  leads : (v u : ℕ) → ((y : ℕ) → v ≡ suc y → Alive (graph h) y) → u ≡ renamed cell_of v → Leads (pairs_of h cell_of) v u
  leads zero u k e = null refl e
  leads (suc y) u k e = partners y (cell_of y) refl e (pair-alive y (k y refl))

  alike : (x : ℕ) → Alive (graph h) x → Alike w (pairs_of h cell_of) (get_or h.heap.objects x no_object) (cell_of x)
  alike x a =
      let u = cell-used s w h cell_of st x a in
      let f = st.partners.refs x a in
      record {
        r = sym (length-map ((graph h).refs x) (renamed cell_of)) ∙ ap (λ (l : List ℕ). length l) (sym f) ∙ length-refs s w st.whole (cell_of x) u;
        d = ap (λ (l : List ℕ). length l) (st.nums x a) ∙ length_fields s w st.whole Number (cell_of x) u;
        numbers = λ i l. ap (λ (k : List ℕ). get_or k i 0) (st.nums x a) ∙ get_d-fields Number w (cell_of x) i l ∙ ap (λ (n : ℕ). field_of w.cells (cell_of x) (n + i)) (first-number (head_in w (cell_of x)));
        references = λ i l. leads (get_or ((graph h).refs x) i 0) _ (λ y e. st.sound.closed.refs x y a (get_d-in ((graph h).refs x) i y e))
            (sym (get_d-refs w (cell_of x) i l) ∙ ap (λ (k : List ℕ). get_or k i 0) f ∙ get_or-map (renamed cell_of) ((graph h).refs x) i 0);
      }

  pub stands-paired : Paired s w h.heap (pairs_of h cell_of)
  unfolding pairs_of
  stands-paired =
      record {
        beside = length-listed (pair_of h cell_of) (length h.heap.objects);
        used = λ x c e. let b = pair-back x c e in
            let u = subst (BeginsIn s w) b.1 (cell-used s w h cell_of st x b.0) in (u, used-owned s w st.whole c u);
        each = λ c u. let o = st.partners.onto c (used-alive s w st.whole c u) in (o.0, pair-alive o.0 o.1 ∙ ap suc o.2);
        one = λ x y c e f. let b = pair-back x c e in let d = pair-back y c f in st.partners.apart x y b.0 d.0 (b.1 ∙ sym d.1);
        alike = λ x c e. let b = pair-back x c e in subst (Alike w (pairs_of h cell_of) (get_or h.heap.objects x no_object)) b.1 (alike x b.0);
        variables = λ t a l m. leads (get_or h.heap.vars (t * s.variables + a) 0) _ (λ y e. st.sound.closed.vars (t * s.variables + a) y e)
            (sym (var-at s w t a l m) ∙ ap (λ (k : List ℕ). get_or k (t * s.variables + a) 0) st.partners.vars ∙ get_or-map (renamed cell_of) h.heap.vars (t * s.variables + a) 0);
        depths = λ t l. ap (λ (k : List ℕ). get_or k t 0) st.depths ∙ depth-at s w t l;
      }

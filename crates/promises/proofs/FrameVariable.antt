-- A variable is stored: the words stand for the heap with that variable changed.
use Rattle.std.specs.Prelude.{ℕ, zero, suc, ◌+◌, ◌-◌, ◌<◌, ◌≡◌, refl, List, [], ◌∷◌, length, set, drop}
use native.Mathlib.Omega.{arith}
use Rattle.std.proofs.Math.Decide.{ℕ_discrete}
use Rattle.std.proofs.Math.Logic.{by_cases}
use Rattle.std.proofs.Common.{sym, ap₂, subst, ◌∙◌}
use Rattle.std.proofs.Math.Path.{ap}
use Rattle.std.proofs.Math.ListN.{take}
use Rattle.std.proofs.lemmas.List.{length-map}
use Rattle.lists.specs.Stores.{put, past, map-set, part-here}
use Rattle.rules.specs.declared.Sizes.{Sizes}
use Rattle.rules.specs.Rules.{Regioned, graph}
use Rattle.laws.specs.GraphLaws.{Alive}
use Rattle.laws.specs.RulesLaws.{Sound}
use Rattle.laws.specs.SameRules.{renamed}
use Rattle.layout.specs.Places.{var_count, var_at, var_of, tables_words, count_room, count-is, owners-is}
use Rattle.layout.specs.Words.{Words, BeginsIn, vars_at, vars_in}
use Rattle.promises.specs.Whole.{WholeFor, IsRef}
use Rattle.promises.specs.StandsFor.{StandsFor}
use Rattle.promises.specs.Agreed.{cell-used}
use Rattle.promises.specs.Reading.{length-vars}
use Rattle.promises.specs.Changes.{with_tables, with_variable}
use Rattle.promises.specs.Areas.{variable_words, Only, store-only, starts}
use Rattle.promises.proofs.Frames.{still-whole, depths-frame, pages-frame, objects-frame, remember-frame, ref-frame, depths-same, home_same, counters-same, occupancy-same, stands-still}

-- a reference to an object that is there leads to an object's cell
pub ref-to-cell : (s : Sizes) (w : Words) (h : Regioned) (cell_of : ℕ → ℕ) → StandsFor s w h cell_of → (u v : ℕ) → v ≡ renamed cell_of u
    → ((x : ℕ) → u ≡ suc x → Alive (graph h) x) → IsRef s w.cells w.tables v
ref-to-cell s w h cell_of st zero v e a z = absurd (let o : ⊥ = omega arith in o)
ref-to-cell s w h cell_of st (suc x) v e a z =
    let c : cell_of x ≡ v - 1 = omega arith in
    subst (BeginsIn s w) c (cell-used s w h cell_of st x (a x refl))

module _ (s : Sizes) (w : Words) (k : WholeFor s w) (i v : ℕ) (l : i < var_count s) where
  abbrev at : ℕ
  at = var_at s i

  abbrev t : List ℕ
  t = set w.tables at v

  low : at < tables_words s
  low = omega (arith, count_room s, count-is s, owners-is s)

  pub variable-only : Only (variable_words ∷ []) s w (with_tables w t)
  variable-only = store-only s w variable_words at v (omega (arith, starts s)) low

  pub variable-whole : IsRef s w.cells w.tables v → WholeFor s (with_tables w t)
  variable-whole ref =
      still-whole variable-only refl refl refl refl refl refl refl refl refl refl k (depths-frame variable-only refl k.depths) (pages-frame variable-only refl refl refl k.pages)
      (λ j m. ref-frame variable-only refl refl _ (by_cases (ℕ_discrete j i)
      (λ e. subst (IsRef s w.cells w.tables) (sym (ap (var_of s t) e ∙ put w.tables at v 0 (omega (arith, low, k.sized.tables)))) ref)
      (λ n. subst (IsRef s w.cells w.tables) (sym (past w.tables at v (var_at s j) 0 (λ (e : var_at s j ≡ at). n (omega arith)))) (k.variables j m))))
      (objects-frame variable-only refl refl refl k.objects) (remember-frame variable-only refl refl refl refl refl k.remember)

  vars-set : vars_in s (with_tables w t) ≡ set (vars_in s w) i v
  unfolding vars_at
  vars-set =
      ap (λ (q : ℕ). take (var_count s) (drop (var_at s 0) (set w.tables q v))) (let e : at ≡ var_at s 0 + i = omega arith in e)
      ∙ part-here (var_count s) (var_at s 0) w.tables i v l

-- variable i, counted through all threads, names object u of the heap, v in the words
pub variable-stands : (s : Sizes) (w : Words) (h : Regioned) (cell_of : ℕ → ℕ) → StandsFor s w h cell_of → (i u v : ℕ) → i < var_count s → v ≡ renamed cell_of u
    → Sound (with_variable h i u) → StandsFor s (with_tables w (set w.tables (var_at s i) v)) (with_variable h i u) cell_of
variable-stands s w h cell_of st i u v l e sound =
    let k = st.whole in
    let only = variable-only s w k i v l in
    stands-still st (home_same only refl refl refl) (with_variable h i u).heap
    (variable-whole s w k i v l (ref-to-cell s w h cell_of st u v e (λ x q. sound.closed.vars i x (put h.heap.vars i u 0 here ∙ q))))
    (st.depths ∙ sym (depths-same only refl)) st.partners.refs
    (vars-set s w k i v l ∙ ap₂ (λ (vs : List ℕ) (x : ℕ). set vs i x) st.partners.vars e ∙ sym (map-set (renamed cell_of) h.heap.vars i u)) st.nums (counters-same only refl refl) (occupancy-same only refl refl) sound
  where
    here : i < length h.heap.vars
    here = omega (arith, length-vars s w st.whole, ap length st.partners.vars, length-map h.heap.vars (renamed cell_of))

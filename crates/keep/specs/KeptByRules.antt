-- A collection of the control space by the rules: the end of region 1 into itself. Every holder calls for region 1, so an object goes to region
-- 1 if a holder leads to it, and is freed if not.
use Rattle.std.specs.Prelude.{◌≡◌, refl, Bool, true, false, cond, List, ◌++◌, ℕ, suc, ◌+◌, ◌/◌, ◌<◌, eqb, get_or}
use Rattle.std.proofs.Math.Path.{sym, subst}
use Rattle.std.proofs.Common.{ap, ◌∙◌, arith}
use Rattle.std.proofs.Math.Logic.{⊎_elim}
use Rattle.std.proofs.Math.Numerals.{one-add}
use Rattle.lists.specs.Listed.{listed, listed_same}
use Rattle.lists.specs.Members.{In, in-append, in_left, in_right, in_bounds}
use Rattle.rules.specs.declared.Sizes.{Sizes}
use Rattle.laws.specs.GraphLaws.{Refers}
use Rattle.laws.specs.Collected.{Holder, variable, slot, all-call, holder-calls, calls-holder}
use Rattle.layout.specs.Places.{var_of, cells_words, var_count}
use Rattle.layout.specs.Cells.{field_at, page_of, page_at}
use Rattle.layout.specs.Objects.{field-on, field-slot, slot-low, slot-page}
use Rattle.layout.specs.Words.{Words, words, owner_in, home_in, vars_in, graph_of}
use Rattle.promises.specs.Whole.{WholeFor, IsRef}
use Rattle.promises.specs.Ends.{part_of}
use Rattle.promises.specs.Reading.{used-home, used-owned, alive-used, length-vars, get_d-vars, ref-room}
use Rattle.mark.specs.Marks.{Shaped, listed_in, in-listed}
use Rattle.mark.specs.Pushes.{Pushing, pushing-kept}
use Rattle.mark.specs.Draining.{Pending, Drained, seeded}
use Rattle.mark.specs.Levels.{levels-start, levels-next}
use Rattle.mark.specs.Holders.{var_held, var-some}
use Rattle.mark.specs.Reached.{refers-field, field-refers}
use Rattle.mark.specs.Survivors.{Marked, Called, levels-marked, clean_at}
use Rattle.keep.specs.Others.{OtherSlot, other_held, other-some, held-other, other-ref, kept-other}

-- a variable is held, whatever its thread
variable-held : (s : Sizes) (T : List ℕ) (i : ℕ) → var_held s T 0 1 1 i ≡ var_of s T i
variable-held s T i = sym (var-some s T 0 1 1 i 1 (var_of s T i) (same (eqb (i / s.variables) 0)) refl refl)
  where
    same : (b : Bool) → ◌≡◌ {A = ℕ} 1 (cond b 1 1)
    same true = refl
    same false = refl

-- all that holders of region 1 hold
unfoldable pub kept_refs : Sizes → List ℕ → List ℕ → List ℕ
kept_refs p W T = listed (var_held p T 0 1 1) (var_count p) ++ listed (other_held p W T) (cells_words p)

-- ---- both are pushed

pub kept-pending : {p : Sizes} {W T W₁ T₁ W₂ T₂ : List ℕ} {held top : ℕ} → Shaped p W T
    → Pushing p 1 (var_held p T 0 1 1) W T 0 W₁ T₁ held (var_count p)
    → Pushing p 1 (other_held p W₁ T₁) W₁ T₁ held W₂ T₂ top (cells_words p)
    → Pending p 1 1 W T (kept_refs p W T) W₂ T₂ top
unfolding kept_refs
kept-pending {p} {W} {T} {W₁} {T₁} {W₂} {T₂} {held} {top} s a b =
    let same = kept-other (pushing-kept s a) s.room in
    subst (λ (x : List ℕ). Pending p 1 1 W T (listed (var_held p T 0 1 1) (var_count p) ++ x) W₂ T₂ top) (listed_same (other_held p W₁ T₁) (other_held p W T) (cells_words p) (λ q l. same q))
    (seeded 1 (var_held p T 0 1 1) (other_held p W₁ T₁) (var_count p) (cells_words p) s (λ q l. subst (IsRef p W T) (sym (same q)) (other-ref p W T q s)) a b)

-- ---- they are the holders of the rules

module _ (s : Sizes) (w : Words) (k : WholeFor s w) where
  kept-holder : (x : ℕ) → In (1 + x) (kept_refs s w.cells w.tables) → Holder (graph_of s w) x
  unfolding kept_refs
  kept-holder x i =
      ⊎_elim by-variable by-slot (in-append (1 + x) (listed (var_held s w.tables 0 1 1) (var_count s)) (listed (other_held s w.cells w.tables) (cells_words s)) i)
    where
      by-variable : In (1 + x) (listed (var_held s w.tables 0 1 1) (var_count s)) → Holder (graph_of s w) x
      by-variable m =
          let q = in-listed (var_held s w.tables 0 1 1) (var_count s) (1 + x) m in
          variable q.0 (get_d-vars s w q.0 q.1 ∙ sym (variable-held s w.tables q.0) ∙ q.2 ∙ one-add x)

      by-slot : In (1 + x) (listed (other_held s w.cells w.tables) (cells_words s)) → Holder (graph_of s w) x
      by-slot m =
          let q = in-listed (other_held s w.cells w.tables) (cells_words s) (1 + x) m in
          let o = held-other s w.cells w.tables q.0 x q.2 in
          let d = o.0.slot in
          let home : home_in s w d.object ≡ owner_in s w (page_at q.0) = used-home s w d.object d.begins ∙ ap (owner_in s w) (sym (slot-page s w.cells w.tables q.0 d)) in
          slot d.object
          (field-refers s w k d.object d.field x d.begins d.low (ap (λ (z : ℕ). get_or w.cells z 0) d.at ∙ o.1 ∙ one-add x))
          (λ z. omega (arith, o.0.region, home))

  variable-in : (x i : ℕ) → get_or (vars_in s w) i 0 ≡ suc x → In (1 + x) (kept_refs s w.cells w.tables)
  unfolding kept_refs
  variable-in x i at =
      let b : i < var_count s = omega (arith, in_bounds (vars_in s w) i (λ z. omega arith), length-vars s w k) in
      in_left (1 + x) (listed (var_held s w.tables 0 1 1) (var_count s)) (listed (other_held s w.cells w.tables) (cells_words s))
      (listed_in (var_held s w.tables 0 1 1) (var_count s) i (1 + x) b (variable-held s w.tables i ∙ sym (get_d-vars s w i b) ∙ at ∙ sym (one-add x)))

  -- an object that is not in region 1 is in another
  slot-in : (x y : ℕ) → Refers (graph_of s w) y x → (home_in s w y ≡ 1 → ⊥) → In (1 + x) (kept_refs s w.cells w.tables)
  unfolding kept_refs
  slot-in x y f n =
      let u = alive-used s w y f.there in
      let i = refers-field s w k y x f in
      let r = ref-room s w k y i.0 u i.1 in
      let d = field-slot s w.cells w.tables y i.0 u r i.1 in
      let home = used-home s w y u in
      let page = field-on s w.cells w.tables y u i.0 r in
      let apart : owner_in s w (page_of y) ≡ 1 → ⊥ = λ z. n (home ∙ z) in
      let own : 1 < owner_in s w (page_of y) = omega (arith, used-owned s w k y u) in
      let o : OtherSlot s w.cells w.tables (field_at y i.0) = record { slot = d; region = subst (λ (z : ℕ). 1 < owner_in s w z) (sym page) own } in
      in_right (1 + x) (listed (var_held s w.tables 0 1 1) (var_count s)) (listed (other_held s w.cells w.tables) (cells_words s))
      (listed_in (other_held s w.cells w.tables) (cells_words s) (field_at y i.0) (1 + x) (slot-low s w.cells w.tables (field_at y i.0) d)
      (other-some s w.cells w.tables (field_at y i.0) o ∙ i.2 ∙ sym (one-add x)))

  holder-kept : (x : ℕ) → Holder (graph_of s w) x → In (1 + x) (kept_refs s w.cells w.tables)
  holder-kept x (variable i at) = variable-in x i at
  holder-kept x (slot y f n) = slot-in x y f n

  kept-called : Called s w 1 1 (λ l. 1) (λ l. kept_refs s w.cells w.tables)
  kept-called =
      record {
        holds = λ l x h i. holder-calls s (graph_of s w) x (kept-holder x i);
        held = λ x q h o. (0, omega arith, all-call s (graph_of s w) x q o, holder-kept x (calls-holder s (graph_of s w) x q o));
        outward = λ l i a b. absurd (let z : ⊥ = omega arith in z);
      }

  -- so what is marked when the stack is empty is what the collection keeps
  pub kept-marked : Shaped s w.cells w.tables → {W' T' : List ℕ} {n : ℕ} → Drained s 1 1 w.cells w.tables (kept_refs s w.cells w.tables) W' T' n
      → Marked s w (part_of s w 1) (words W' w.remember T')
  kept-marked sh d =
      levels-marked s w k (omega arith) kept-called
      (levels-next sh (levels-start 1 (λ l. 1) (λ l. kept_refs s w.cells w.tables) (clean_at s w k)) d)

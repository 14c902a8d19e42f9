-- From the stages of a collection to its promise, and that the slots that cross then fit the remember table.
use Rattle.std.specs.Prelude.{◌≡◌, refl, List, [], ℕ, zero, suc, ◌+◌, ◌-◌, ◌*◌, ◌≤◌, ◌<◌, length}
use Rattle.std.proofs.Common.{sym, ap, subst, ◌∙◌}
use native.Mathlib.Omega.{arith}
use Rattle.lists.specs.Counting.{sum_same}
use Rattle.rules.specs.declared.Sizes.{Sizes}
use Rattle.rules.specs.Terms.{done}
use Rattle.rules.specs.Regions.{control}
use Rattle.rules.specs.Graph.{freed_by}
use Rattle.rules.specs.Rules.{counted}
use Rattle.laws.specs.Collected.{crossing-fewer}
use Rattle.laws.specs.RulesLaws.{control-pos}
use Rattle.laws.specs.SameRules.{renamed}
use Rattle.layout.specs.Places.{Room, cells_words, remember_words, tables_words, count_of, freed_of, var_count, count_room}
use Rattle.layout.specs.Cells.{field_of, refs_of, page_of, most_fields, field_count, cell_named}
use Rattle.layout.specs.declared.Kind.TheVariants.{Reference}
use Rattle.layout.specs.Marks.{marked}
use Rattle.layout.specs.Objects.{Slot, begins-page}
use Rattle.layout.specs.Words.{Words, words, Begins, Names, cell_count, ref_count, graph_of}
use Rattle.remember.specs.Entries.{Exact, Edited}
use Rattle.remember.specs.Appending.{AtMost, at-most-less}
use Rattle.remember.specs.Crossing.{cross_to}
use Rattle.remember.proofs.Crosses.{cross-slot}
use Rattle.promises.specs.Reading.{refs-few, words-closed}
use Rattle.promises.specs.Crossings.{entries-crossing}
use Rattle.promises.proofs.OwnedPages.{counted-objects}
use Rattle.promises.specs.Promises.{DidHere}
use Rattle.promises.specs.Ends.{Lives}
use Rattle.census.specs.Counted.{over-cells}
use Rattle.census.specs.Survivors.{survivors-rest}
use Rattle.copy.specs.Taking.{room-same}
use Rattle.settle.specs.Rewrite.{Rewritten}
use Rattle.settle.specs.RewriteSlots.{Variables}
use Rattle.slide.specs.Ranks.{rank}
use Rattle.slide.specs.Slid.{Slid}
use Rattle.slide.specs.Trimmed.{Trimmed}
use Rattle.retell.specs.SlotStretches.{Readable, readable}
use Rattle.retell.specs.RetellingSlots.{IsCrossing}
use Rattle.ended.specs.Evacuated.{Evacuated, FreedCounted}
use Rattle.ended.specs.Living.{region-after}
use Rattle.ended.specs.CollectedDid.{collect_of}
use Rattle.ending.specs.Placing.{Placing}
use Rattle.ending.specs.Crossing.{live_here, cross-here}
use Rattle.ending.specs.Space.{Crosses, space-enough}
use Rattle.ending.specs.Copied.{placed, forwarded-placed}
use Rattle.ending.specs.Finish.{same_from}
use Rattle.collect.specs.Numbering.{space, Numbering, keeps}
use Rattle.collect.specs.TablesAfter.{SpaceCounted, word₄, regular₄, depth₄, open₄, marks₄, variable₄, made₄, freed₄}
use Rattle.collect.specs.Sliding.{head₅, slot₅, object₅, far₅, size₅, placement₅, only₅, unused₅}
use Rattle.collect.specs.PlacesByRules.{packed}

module _ {s : Sizes} {w w₁ : Words} {n : ℕ} {l W₂ : List ℕ} {K : ℕ} (a : Numbering s w w₁ n l W₂ K) where
  -- the objects of the control space, by its count, are those that are freed and the survivors
  pub freed-rest : freed_by s (graph_of s w) control + K ≡ count_of s w.tables control
  unfolding rank
  freed-rest =
      omega (
        arith,
        survivors-rest s w a.keeping.whole control w₁ a.keeping.marks control-pos,
        over-cells s w₁.tables (λ c. 1),
        sum_same (λ c. marked s w₁.tables c * 1) (marked s w₁.tables) (cell_count s) (λ c h. omega arith),
        a.numbered.count,
        counted-objects s w a.keeping.whole control control-pos (omega arith),
      )

  module _ {T₂ : List ℕ} (Y : Variables s (var_count s) W₂ w₁.tables T₂) {W₄ W₅ T₃ : List ℕ} (Z : Trimmed s l n K W₄ T₂ W₅ T₃) {W₃ : List ℕ} (R : Rewritten (Slot s W₂ T₂) W₂ W₃)
      (S : Slid s l T₂ W₃ W₄) {f : ℕ} {T₄ : List ℕ} (C : SpaceCounted s K f T₃ T₄) where
    rm : Room s (length w.tables)
    rm = a.keeping.room

    size₄ : length T₄ ≡ length w.tables
    size₄ = C.size ∙ Z.tables-size ∙ Y.size ∙ a.keeping.marks.kept.tables-length

    pub room₄ : Room s (length T₄)
    room₄ = room-same size₄ rm

    placing : (M : List ℕ) → Placing s w (space s w) (words W₅ M T₄) (placed W₂)
    placing M = record { whole = a.keeping.whole; keeps = keeps a; placement = placement₅ a Y Z R S C M }

    -- ---- the remember table can be told anew

    few₅ : (d : ℕ) → Begins s W₅ T₄ d → refs_of W₅ d ≤ most_fields
    few₅ d u =
        let o = only₅ a Y Z R S C [] d u in
        omega (arith, ap (refs_of W₅) o.2, ap (field_count Reference) (head₅ a Y Z R S o.0 o.1), refs-few s w a.keeping.whole o.0 o.1.used)

    names₅ : (d g : ℕ) → Begins s W₅ T₄ d → g < refs_of W₅ d → Names s (field_of W₅ d g)
    names₅ d g u m =
        let o = only₅ a Y Z R S C [] d u in
        let m' : g < ref_count w o.0 = omega (arith, ap (refs_of W₅) o.2, ap (field_count Reference) (head₅ a Y Z R S o.0 o.1)) in
        subst (λ (x : ℕ). Names s (field_of W₅ x g)) o.2
        (subst (Names s) (sym (slot₅ a Y Z R S o.0 g o.1 m')) (named (field_of w.cells o.0 g) (λ y e. (keeps a).references o.0 g y o.1 m' e)))
      where
        named : (x : ℕ) → ((y : ℕ) → x ≡ suc y → Lives s w (space s w) y) → Names s (renamed (placed W₂) x)
        named zero k ne = absurd (ne refl)
        named (suc y) k ne =
            let z : cell_named (suc (placed W₂ y)) ≡ placed W₂ y = omega arith in
            subst (λ (x : ℕ). page_of x < s.pages) (sym z) (begins-page s W₅ T₄ (placed W₂ y) ((placement₅ a Y Z R S C []).used y (k y refl)))

    pub readable₅ : Readable s 0 (cells_words s) W₅ T₄
    readable₅ =
        readable (omega (arith, a.keeping.whole.sized.cells, size₅ a Y Z R S)) room₄ (λ page b. ((regular₄ a Y Z C).pages page b).cells) few₅ names₅

    pub fits₅ : AtMost (IsCrossing s W₅ T₄) s.entries
    fits₅ =
        at-most-less crosses
        (space-enough (placing []) (region-after s w a.keeping.whole control control-pos)
        (omega (arith, crossing-fewer s (graph_of s w) (words-closed s w a.keeping.whole), entries-crossing s w a.keeping.whole, a.keeping.whole.remember.entries.room)))
      where
        crosses : (x : ℕ) → IsCrossing s W₅ T₄ x → Crosses (placing []) (region-after s w a.keeping.whole control control-pos) x
        crosses x p =
            let o = live_here (placing []) (slot₅ a Y Z R S) (only₅ a Y Z R S C []) x (cross-slot s W₅ T₄ x p) in
            (o, λ z. omega (arith, p, cross-here (placing []) (slot₅ a Y Z R S) (only₅ a Y Z R S C []) x o))

    -- ---- all of it

    module _ (e : f ≡ count_of s w.tables control - K) {M : List ℕ} (X : Exact (cross_to s W₅ T₄) (cells_words s) s.entries M) (D : Edited s.entries w.remember M) where
      abbrev w' : Words
      w' = words W₅ M T₄

      pub evacuated : Evacuated s w (space s w) w' (placed W₂)
      evacuated =
          record {
            beyond = record {
              cells = same_from (cells_words s) w.cells W₅ (size₅ a Y Z R S) (far₅ a Y Z R S);
              remember = same_from (remember_words s) w.remember M D.long D.spare;
              tables = same_from (tables_words s) w.tables T₄ size₄ (λ x b. word₄ a Y Z C x (λ z. omega (arith, count_room s, rm)) (λ q. omega (arith, count_room s, rm)) (λ q. omega (arith, count_room s, rm)));
            };
            sizes = λ j b. word₄ a Y Z C j (λ z. omega arith) (λ q. omega (arith, rm)) (λ q. omega (arith, rm));
            entries = D.size;
            variables = λ i h. variable₄ a Y Z C i h ∙ forwarded-placed W₂ _;
            placement = placement₅ a Y Z R S C M;
            object = object₅ a Y Z R S;
            only = only₅ a Y Z R S C M;
            regular = regular₄ a Y Z C;
            owners = open₄ a Y Z C;
            marks = marks₄ a Y Z C;
            remember = X;
            unused = unused₅ a Y Z R S C M;
          }

      pub counted-freed : FreedCounted s w control w'
      counted-freed =
          let same : f ≡ freed_by s (graph_of s w) control = omega (arith, e, freed-rest) in
          λ i. record { made = made₄ a Y Z C i; freed = (freed₄ a Y Z C ∙ ap (λ (k : ℕ). counted (freed_of s w.tables + k)) same) i }

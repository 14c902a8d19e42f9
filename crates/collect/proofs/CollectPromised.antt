-- A collection does what the rules say of code 11: the promise, from the account of its stages.
use Rattle.std.specs.Prelude.{◌≡◌, List, ℕ, ◌-◌, ◌<◌}
use Rattle.rules.specs.declared.Sizes.{Sizes}
use Rattle.rules.specs.Terms.{done}
use Rattle.rules.specs.Regions.{control}
use Rattle.layout.specs.Places.{cells_words, count_of, var_count}
use Rattle.layout.specs.Objects.{Slot}
use Rattle.layout.specs.Words.{Words, words}
use Rattle.remember.specs.Entries.{Exact, Edited}
use Rattle.remember.specs.Crossing.{cross_to}
use Rattle.promises.specs.Promises.{DidHere}
use Rattle.settle.specs.Rewrite.{Rewritten}
use Rattle.settle.specs.RewriteSlots.{Variables}
use Rattle.slide.specs.Trimmed.{Trimmed}
use Rattle.ended.specs.CollectedDid.{collect_of}
use Rattle.ended.proofs.CollectedDid.{collected-did}
use Rattle.ending.specs.Copied.{placed}
use Rattle.collect.specs.Numbering.{Numbering}
use Rattle.collect.specs.TablesAfter.{depth₄, SpaceCounted}
use Rattle.collect.specs.PlacesByRules.{packed}
use Rattle.slide.specs.Slid.{Slid}
use Rattle.collect.specs.CollectDid.{evacuated, counted-freed}

module _ {s : Sizes} {w w₁ : Words} {n : ℕ} {l W₂ : List ℕ} {K : ℕ} (a : Numbering s w w₁ n l W₂ K) where
  module _ {T₂ : List ℕ} (Y : Variables s (var_count s) W₂ w₁.tables T₂) {W₄ W₅ T₃ : List ℕ} (Z : Trimmed s l n K W₄ T₂ W₅ T₃) {W₃ : List ℕ} (R : Rewritten (Slot s W₂ T₂) W₂ W₃)
      (S : Slid s l T₂ W₃ W₄) {f : ℕ} {T₄ : List ℕ} (C : SpaceCounted s K f T₃ T₄) where
    module _ (e : f ≡ count_of s w.tables control - K) {M : List ℕ} (X : Exact (cross_to s W₅ T₄) (cells_words s) s.entries M) (D : Edited s.entries w.remember M) where
      pub promised : (t : ℕ) → t < s.threads → DidHere s w (collect_of t) (words W₅ M T₄) (done 0)
      promised = collected-did s w a.keeping.whole (words W₅ M T₄) (placed W₂) (evacuated a Y Z R S C e X D) (depth₄ a Y Z C) (counted-freed a Y Z R S C e X D) (packed a Y Z C M)

use Rattle.std.proofs.Common.{arith, ℕ, ◌≤◌, ◌<◌, ◌+◌, List, ◌≡◌, sym, ap₂, ◌∙◌, subst₂}
use Rattle.layout.specs.Places.{slot_in, slot_region_in}
use Rattle.remember.specs.Entries.{rising-once}
use Rattle.remember.specs.Stretches.{Added}
use Rattle.remember.specs.Filtered.{Stays, Behind, filter-keep, filter-drop, read-slot, behind-keep, behind-drop}
use Rattle.remember.specs.Staying.{new_region}
use Rattle.remember.proofs.filter.filter_entries.Goals as goal
use Rattle.remember.proofs.filter.filter_entries.Goals.{then-new-ne0, else-new-ne0}

pub loop-i-preserved : goal.loop-i-preserved
loop-i-preserved c =
    let slot = c.slot-at in
    let a = c.args in
    let l = c.loop-i in
    let lt = c.loop-i-test.true in
    let few : l.i < a.p.entries = omega (arith, lt, c.requires.entries.few) in
    let W : List ℕ = a.cells.now in
    let T : List ℕ = a.tables.now in
    let M : List ℕ = a.remember.now in
    let n : ℕ = a.p.entries in
    let v = c.new_region-new in
    let ev : v.result ≡ new_region a.p a.region W T (slot_in l.remember l.i) (slot_region_in n l.remember l.i) =
    v.ensures ∙ ap₂ (λ (x y : ℕ). new_region a.p a.region W T x y) slot.ensures c.region-old.ensures in
    let P : List ℕ → ℕ → Type 0 = (λ X y. (y ≤ l.i + 1) × Added n (Stays (new_region a.p a.region W T) n M (l.i + 1)) 0 y M X × Behind a.used (l.i + 1) y M X) in
    elim c.if-new-ne0.branch [
      | then-new-ne0 z ↦ subst₂ P (sym (z.remember-is ∙ z.put_entry.ensures)) (sym z.j-is)
          (omega (arith, l.invariant.0), filter-keep few l.invariant.0 l.invariant.1 c.requires.entries.long (λ k u. rising-once M a.used c.requires.entries.rising k l.i u lt) slot.result v.result slot.ensures ev z.if-new-ne0.true, behind-keep l.invariant.2 lt l.invariant.0 c.requires.entries.few (omega (arith, c.requires.entries.long, l.invariant.1.size)) c.requires.entries.rising slot.result v.result (slot.ensures ∙ read-slot few l.invariant.0 l.invariant.1))
      | else-new-ne0 z ↦ subst₂ P (sym z.remember-is) (sym z.j-is)
          (omega (arith, l.invariant.0), filter-drop few l.invariant.0 l.invariant.1 v.result ev z.if-new-ne0.false, behind-drop l.invariant.2)
    ]

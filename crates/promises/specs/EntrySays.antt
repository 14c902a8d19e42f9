-- What an entry of whole words says, and that a slot which points into another region than its object's and than the control space has one.
use Rattle.std.specs.Prelude.{◌≡◌, ◌≢◌, ℕ, suc, ◌<◌}
use Rattle.std.proofs.Common.{sym, ap, ◌∙◌, arith}
use Rattle.rules.specs.declared.Sizes.{Sizes}
use Rattle.layout.specs.Places.{entries_used, slot_in, slot_region_in}
use Rattle.layout.specs.Cells.{field_at, field_of, page_of, page_at, cell_named}
use Rattle.layout.specs.Objects.{begins-page, field-inside, slot-page}
use Rattle.layout.specs.Words.{Words, BeginsIn, owner_in, ref_count}
use Rattle.remember.specs.Crossing.{other, crosses_to, cross_to}
use Rattle.remember.proofs.Crosses.{slot-crosses, field-cross, cross-slot, crosses-into, other-yes}
use Rattle.promises.specs.Whole.{WholeFor}
use Rattle.promises.specs.Slots.{region-of}
use Rattle.promises.specs.Reading.{ref-begins, ref-room}

module _ {s : Sizes} {w : Words} (whole : WholeFor s w) where
  pub entry_of : (c f d : ℕ) → BeginsIn s w c → f < ref_count w c → field_of w.cells c f ≡ suc d → 1 < owner_in s w (page_of d) → owner_in s w (page_of d) ≢ owner_in s w (page_of c)
      → (i : ℕ) × (i < entries_used w.remember) × (slot_in w.remember i ≡ field_at c f) × (slot_region_in s.entries w.remember i ≡ owner_in s w (page_of d))
  entry_of c f d u l z high apart =
      let m = ref-room s w whole c f u l in
      let v = ref-begins s w.cells w.tables (field_of w.cells c f) d ((whole.objects c u).references f l) z in
      let e : cross_to s w.cells w.tables (field_at c f) ≡ owner_in s w (page_of d) =
      field-cross s w.cells w.tables c f u m l ∙ ap (crosses_to s w.tables c) z
      ∙ ap (other (owner_in s w (page_of c))) (region-of s w.tables d (begins-page _ _ _ _ v)) ∙ sym (other-yes (owner_in s w (page_of c)) (owner_in s w (page_of d)) high apart) in
      let q = whole.remember.every (field_at c f) (field-inside s w.cells w.tables c u f m) (omega arith) in
      (q.0, q.1, q.2, sym (whole.remember.entries.named q.0 q.1).right ∙ ap (cross_to s w.cells w.tables) q.2 ∙ e)

  pub record EntrySays (i : ℕ) : Type 0 where
    pub object : ℕ
    pub field : ℕ
    pub names : ℕ
    pub used : BeginsIn s w object
    pub low : field < ref_count w object
    pub at : slot_in w.remember i ≡ field_at object field
    pub page : page_at (slot_in w.remember i) ≡ page_of object
    pub value : field_of w.cells object field ≡ suc names
    pub region : slot_region_in s.entries w.remember i ≡ owner_in s w (page_of names)
    pub high : 1 < owner_in s w (page_of names)
    pub other : owner_in s w (page_of names) ≢ owner_in s w (page_of object)

  pub entry-says : (i : ℕ) → i < entries_used w.remember → EntrySays i
  entry-says i l =
      let n = whole.remember.entries.named i l in
      let g : ℕ = slot_region_in s.entries w.remember i in
      let q = cross-slot s w.cells w.tables (slot_in w.remember i) (omega (arith, n.region, n.right)) in
      let v = crosses-into s w.tables (owner_in s w (page_of q.object)) (field_of w.cells q.object q.field) g (sym n.right ∙ slot-crosses s w.cells w.tables (slot_in w.remember i) q) (λ z. omega (arith, n.region)) in
      record {
        object = q.object;
        field = q.field;
        names = cell_named (field_of w.cells q.object q.field);
        used = q.begins;
        low = q.low;
        at = sym q.at;
        page = slot-page s w.cells w.tables (slot_in w.remember i) q;
        value = let r = v.real in omega arith;
        region = v.region;
        high = omega (arith, v.high, v.region);
        other = λ z. v.other (v.region ∙ z);
      }

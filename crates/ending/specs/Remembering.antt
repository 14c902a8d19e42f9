-- The remember table through the end of a part that is made of regions: the slots that it names with one of them are the holding slots, and
-- the entries that stay are those of the objects outside it.
use Rattle.std.specs.Prelude.{◌≡◌, ◌≢◌, ◌⊎◌, ℕ, suc, ◌<◌}
use Rattle.std.proofs.Common.{sym, ap, ap₂, subst, ◌∙◌, inl, inr, arith}
use Rattle.rules.specs.declared.Sizes.{Sizes}
use Rattle.layout.specs.Places.{entries_used, slot_in, slot_region_in}
use Rattle.layout.specs.Cells.{field_of, page_of, page_at}
use Rattle.layout.specs.Objects.{begins-page, field-on}
use Rattle.layout.specs.Words.{Words, owner_in}
use Rattle.remember.specs.Filtered.{Stays}
use Rattle.promises.specs.Whole.{WholeFor}
use Rattle.promises.specs.Reading.{ref-room}
use Rattle.promises.specs.EntrySays.{EntrySays, entry_of, entry-says}
use Rattle.promises.specs.Ends.{Part, Outside, Survivor, Lives, outside-lives, lives-how}
use Rattle.ended.specs.Living.{KeepsNamed}
use Rattle.ending.specs.Placing.{Placing, OutsideSlot, HoldingSlots, LiveSlot, outside-home, outside-live, live-outside}
use Rattle.ending.specs.Crossing.{cross_then, Told, crosses-names, names-cross}

-- the pages of the part are those of the regions of G, none of which is the control space
pub record OfRegions (s : Sizes) (w : Words) (e : Part) (G : ℕ → Type 0) : Type 0 where
  pub test : (g : ℕ) → Dec (G g)
  pub high : (g : ℕ) → G g → 1 < g
  pub ends : (page : ℕ) → page < s.pages → G (owner_in s w page) → e.ends page
  pub owner : (page : ℕ) → page < s.pages → e.ends page → G (owner_in s w page)

-- slots of the table outside the part, among them all that it names with a region of G, are the holding slots
pub remembered-holding : {s : Sizes} {w : Words} {e : Part} {G S : ℕ → Type 0} → WholeFor s w → KeepsNamed s w e → OfRegions s w e G
    → ((x : ℕ) → S x → (i : ℕ) × (i < entries_used w.remember) × (slot_in w.remember i ≡ x) × (e.ends (page_at x) → ⊥))
    → ((i : ℕ) → i < entries_used w.remember → G (slot_region_in s.entries w.remember i) → (e.ends (page_at (slot_in w.remember i)) → ⊥) → S (slot_in w.remember i))
    → HoldingSlots s w e S
remembered-holding {s} {w} {e} {G} {S} whole keeps o from to =
    record {
      slot = λ x z.
          let q = from x z in
          let y = entry-says whole q.0 q.1 in
          record {
            object = y.object;
            field = y.field;
            outside = record { used = y.used; out = λ v. q.3 (subst e.ends (sym y.page ∙ ap page_at q.2) v) };
            low = y.low;
            at = sym q.2 ∙ y.at;
          };
      every = λ c f d u l z own.
          let p = begins-page s w.cells w.tables d (keeps.references c f d (outside-lives u) l z).used in
          let g = o.owner (page_of d) p own in
          let q = entry_of whole c f d u.used l z (o.high (owner_in s w (page_of d)) g) (λ y. u.out (o.ends (page_of c) (begins-page s w.cells w.tables c u.used) (subst G y g))) in
          let on : page_at (slot_in w.remember q.0) ≡ page_of c = ap page_at q.2 ∙ field-on s w.cells w.tables c u.used f (ref-room s w whole c f u.used l) in
          subst S q.2 (to q.0 q.1 (subst G (sym q.3) g) (λ v. u.out (subst e.ends on v)));
    }

-- `anew` gives the region that the entry of slot x with region g has afterwards, 0 if it goes
pub record Renews (s : Sizes) (w : Words) (e : Part) (G : ℕ → Type 0) (w' : Words) (cell : ℕ → ℕ) (anew : ℕ → ℕ → ℕ) : Type 0 where
  pub gone : (x g : ℕ) → page_at x < s.pages → e.ends (page_at x) → 0 ≡ anew x g
  pub stays : (x g : ℕ) → OutsideSlot s w e x → (G g → ⊥) → g ≡ anew x g
  pub moves : (x g : ℕ) (q : OutsideSlot s w e x) → G g → cross_then s w w' cell q.object q.field ≡ anew x g

-- then the entries that stay are those of the objects outside the part
module _ {s : Sizes} {w : Words} {e : Part} {w' : Words} {cell : ℕ → ℕ} (h : Placing s w e w' cell)
    {G : ℕ → Type 0} (o : OfRegions s w e G) {anew : ℕ → ℕ → ℕ} (a : Renews s w e G w' cell anew) where
  stays-live : (x g : ℕ) → Stays anew s.entries w.remember (entries_used w.remember) x g → (q : LiveSlot s w e cell x) × (g ≡ cross_then s w w' cell q.object q.field)
  stays-live x g q = subst (λ (y : ℕ). (q : LiveSlot s w e cell y) × (g ≡ cross_then s w w' cell q.object q.field)) q.slot (outside-live h slot found, q.region ∙ sym (here (o.test region)))
    where
      slot : ℕ
      slot = slot_in w.remember q.entry

      region : ℕ
      region = slot_region_in s.entries w.remember q.entry

      y : EntrySays h.whole q.entry
      y = entry-says h.whole q.entry q.low

      page : page_at (slot_in w.remember q.entry) < s.pages
      page = subst (λ (p : ℕ). p < s.pages) (sym y.page) (begins-page _ _ _ _ y.used)

      outside : Outside s w e y.object
      outside = record { used = y.used; out = λ z. q.kept (q.region ∙ sym (a.gone slot region page (subst e.ends (sym y.page) z))) }

      found : OutsideSlot s w e (slot_in w.remember q.entry)
      found = record { object = y.object; field = y.field; outside = outside; low = y.low; at = y.at }

      here : Dec (G (slot_region_in s.entries w.remember q.entry)) → cross_then s w w' cell y.object y.field ≡ anew (slot_in w.remember q.entry) (slot_region_in s.entries w.remember q.entry)
      here (yes z) = a.moves slot region found z
      here (no n) =
          let u = (h.keeps.references y.object y.field y.names (outside-lives outside) y.low y.value).used in
          let hd = outside-home h y.names (record { used = u; out = λ z. n (subst G (sym y.region) (o.owner (page_of y.names) (begins-page _ _ _ _ u) z)) }) in
          names-cross h y.object y.field (outside-lives outside) y.low y.names y.value (omega (arith, y.high, hd)) (λ v. y.other (sym hd ∙ v ∙ outside-home h y.object outside))
          ∙ hd ∙ sym y.region ∙ a.stays slot region found n

  stay : (x : ℕ) (q : LiveSlot s w e cell x) → Outside s w e q.object → cross_then s w w' cell q.object q.field ≢ 0
      → Stays anew s.entries w.remember (entries_used w.remember) x (cross_then s w w' cell q.object q.field)
  stay x q u n = go (lives-how m.1)
    where
      m : (d : ℕ) × Lives s w e d × (field_of w.cells q.object q.field ≡ suc d) × (cross_then s w w' cell q.object q.field ≡ owner_in s w' (page_of (cell d)))
          × (1 < owner_in s w' (page_of (cell d))) × (owner_in s w' (page_of (cell d)) ≢ owner_in s w' (page_of (cell q.object)))
      m = crosses-names h q.object q.field q.lives q.low n

      low : page_of m.0 < s.pages
      low = begins-page _ _ _ _ m.1.used

      -- by its old entry
      by : 1 < owner_in s w (page_of m.0) → owner_in s w (page_of m.0) ≢ owner_in s w (page_of q.object) → cross_then s w w' cell q.object q.field ≡ anew x (owner_in s w (page_of m.0))
          → Stays anew s.entries w.remember (entries_used w.remember) x (cross_then s w w' cell q.object q.field)
      by up ne region =
          let y = entry_of h.whole q.object q.field m.0 u.used q.low m.2 up ne in
          let at = y.2 ∙ sym (live-outside h x q u).at in
          record { entry = y.0; low = y.1; slot = at; region = region ∙ ap₂ anew (sym at) (sym y.3); kept = n }

      go : Outside s w e m.0 ⊎ Survivor s w e m.0 → Stays anew s.entries w.remember (entries_used w.remember) x (cross_then s w w' cell q.object q.field)
      go (inl v) =
          let hd = outside-home h m.0 v in
          by (omega (arith, hd, m.4)) (λ z. m.5 (hd ∙ z ∙ sym (outside-home h q.object u)))
          (m.3 ∙ hd ∙ a.stays x (owner_in s w (page_of m.0)) (live-outside h x q u) (λ z. v.out (o.ends (page_of m.0) low z)))
      go (inr v) =
          let g = o.owner (page_of m.0) low v.within in
          by (o.high (owner_in s w (page_of m.0)) g) (λ z. u.out (o.ends (page_of q.object) (begins-page _ _ _ _ u.used) (subst G z g)))
          (a.moves x (owner_in s w (page_of m.0)) (live-outside h x q u) g)

  pub stays-told : Told s w e w' cell (Outside s w e) (Stays anew s.entries w.remember (entries_used w.remember))
  stays-told = record { live = stays-live; kept = λ x g q. q.kept; every = stay }

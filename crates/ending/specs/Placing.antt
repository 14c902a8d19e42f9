-- Where an end puts the objects that live on, and their references there, by whichever way they get there.
use Rattle.std.specs.Prelude.{◌≡◌, ℕ, suc, ◌<◌}
use Rattle.std.proofs.Common.{sym, ap, ◌∙◌, arith}
use Rattle.rules.specs.declared.Sizes.{Sizes}
use Rattle.layout.specs.Places.{cells_words}
use Rattle.layout.specs.Cells.{field_at, field_of, field_count, room_for, page_of, page_at}
use Rattle.layout.specs.declared.Kind.TheVariants.{Reference}
use Rattle.layout.specs.Objects.{Slot, begins-page, slot-page, slot-low}
use Rattle.layout.specs.Words.{Words, owner_in, ref_count}
use Rattle.promises.specs.Whole.{WholeFor}
use Rattle.promises.specs.Reading.{ref-room}
use Rattle.promises.specs.Ends.{Part, Outside, Lives, outside-lives}
use Rattle.ended.specs.Living.{KeepsNamed}
use Rattle.ended.specs.Evacuated.{Placement}

-- w is whole, what lives on keeps what it names, and in w' each object that lives on is in its cell
pub record Placing (s : Sizes) (w : Words) (e : Part) (w' : Words) (cell : ℕ → ℕ) : Type 0 where
  pub whole : WholeFor s w
  pub keeps : KeepsNamed s w e
  pub placement : Placement s w e w' cell

-- the word at x is field f of an object outside the part, a reference
pub record OutsideSlot (s : Sizes) (w : Words) (e : Part) (x : ℕ) : Type 0 where
  pub object : ℕ
  pub field : ℕ
  pub outside : Outside s w e object
  pub low : field < ref_count w object
  pub at : x ≡ field_at object field

-- S holds of the slots of objects outside the part that name objects of it, and of slots of objects outside it alone
pub record HoldingSlots (s : Sizes) (w : Words) (e : Part) (S : ℕ → Type 0) : Type 0 where
  pub slot : (x : ℕ) → S x → OutsideSlot s w e x
  pub every : (c f d : ℕ) → Outside s w e c → f < ref_count w c → field_of w.cells c f ≡ suc d → e.ends (page_of d) → S (field_at c f)

-- the word at x is a reference of an object that lives on, in its cell
pub record LiveSlot (s : Sizes) (w : Words) (e : Part) (cell : ℕ → ℕ) (x : ℕ) : Type 0 where
  pub object : ℕ
  pub field : ℕ
  pub lives : Lives s w e object
  pub low : field < ref_count w object
  pub at : x ≡ field_at (cell object) field

module _ {s : Sizes} {w : Words} {e : Part} {w' : Words} {cell : ℕ → ℕ} (h : Placing s w e w' cell) where
  pub placed-page : (c : ℕ) → Lives s w e c → page_of (cell c) < s.pages
  placed-page c l = begins-page s w'.cells w'.tables (cell c) (h.placement.used c l)

  pub outside-placed : (c : ℕ) → Outside s w e c → cell c ≡ c
  outside-placed c o = (h.placement.stayed c o).same

  -- the region of one that stays
  pub outside-home : (c : ℕ) → Outside s w e c → owner_in s w' (page_of (cell c)) ≡ owner_in s w (page_of c)
  outside-home c o = ap (λ (d : ℕ). owner_in s w' (page_of d)) (outside-placed c o) ∙ (h.placement.stayed c o).owner

  -- ---- the slots

  abbrev pub outside-live : (x : ℕ) → OutsideSlot s w e x → LiveSlot s w e cell x
  outside-live x q =
      record {
        object = q.object;
        field = q.field;
        lives = outside-lives q.outside;
        low = q.low;
        at = q.at ∙ ap (λ (d : ℕ). field_at d q.field) (sym (outside-placed q.object q.outside));
      }

  abbrev pub live-outside : (x : ℕ) (q : LiveSlot s w e cell x) → Outside s w e q.object → OutsideSlot s w e x
  live-outside x q o =
      record {
        object = q.object;
        field = q.field;
        outside = o;
        low = q.low;
        at = q.at ∙ ap (λ (d : ℕ). field_at d q.field) (outside-placed q.object o);
      }

  pub refs-placed : (c : ℕ) → Lives s w e c → ref_count w' (cell c) ≡ ref_count w c
  refs-placed c l = ap (field_count Reference) (h.placement.head c l)

  -- they are slots of w'
  abbrev pub live-slot : (x : ℕ) → LiveSlot s w e cell x → Slot s w'.cells w'.tables x
  live-slot x q =
      let c : ℕ = q.object in
      record {
        object = cell c;
        field = q.field;
        begins = h.placement.used c q.lives;
        room = omega (arith, ref-room s w h.whole c q.field q.lives.used q.low, ap room_for (h.placement.head c q.lives));
        low = omega (arith, q.low, refs-placed c q.lives);
        at = sym q.at;
      }

  pub live-page : (x : ℕ) (q : LiveSlot s w e cell x) → page_at x ≡ page_of (cell q.object)
  live-page x q = slot-page s w'.cells w'.tables x (live-slot x q)

  pub live-low : (x : ℕ) → LiveSlot s w e cell x → x < cells_words s
  live-low x q = slot-low s w'.cells w'.tables x (live-slot x q)

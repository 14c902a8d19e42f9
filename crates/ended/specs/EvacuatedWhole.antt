-- The words after an accepted end are whole.
use Rattle.std.specs.Prelude.{ℕ, zero, suc, ◌-◌, ◌≤◌, ◌<◌, ◌≡◌, refl}
use Rattle.std.proofs.Common.{arith, sym, ap, subst, ◌∙◌}
use Rattle.rules.specs.declared.Sizes.{Sizes}
use Rattle.laws.specs.SameRules.{renamed}
use Rattle.layout.specs.declared.Kind.TheVariants.{Reference}
use Rattle.layout.specs.Places.{var_of}
use Rattle.layout.specs.Cells.{head_of, field_of, work_of, refs_of, field_count, all_fields, room_for, Formed, kind-among}
use Rattle.layout.specs.Words.{Words, BeginsIn, ref_count}
use Rattle.promises.specs.Whole.{Sized, DepthsWhole, CountersWhole, WholeFor, ObjectWhole, IsRef}
use Rattle.promises.specs.Ends.{Part, Lives}
use Rattle.ended.specs.Evacuated.{Evacuated}
use Rattle.ended.specs.Living.{KeepsNamed}

-- a reference that names an object that is there
ref-alive : (s : Sizes) (w : Words) (to : ℕ → ℕ) (x : ℕ) → ((c : ℕ) → x ≡ suc c → BeginsIn s w (to c)) → IsRef s w.cells w.tables (renamed to x)
ref-alive s w to zero f l = absurd (let z : ⊥ = omega arith in z)
ref-alive s w to (suc c) f l = subst (BeginsIn s w) (let e : to c ≡ suc (to c) - 1 = omega arith in e) (f c refl)

module _ {s : Sizes} {w : Words} {e : Part} {w' : Words} {cell : ℕ → ℕ} (whole : WholeFor s w) (keeps : KeepsNamed s w e) (v : Evacuated s w e w' cell)
    (depths : DepthsWhole s w') (counters : CountersWhole s w') where
  sized : Sized s w'
  sized =
      let z = whole.sized in
      record {
        sizes = (λ i. record { threads = v.sizes 0 (omega arith) i; variables = v.sizes 1 (omega arith) i; depth = v.sizes 2 (omega arith) i; pages = v.sizes 3 (omega arith) i; entries = v.sizes 4 (omega arith) i }) ∙ z.sizes;
        range = z.range;
        same = v.entries ∙ z.same;
        cells = omega (arith, z.cells, v.beyond.cells.long);
        remember = omega (arith, z.remember, v.beyond.remember.long);
        tables = omega (arith, z.tables, v.beyond.tables.long);
      }

  references-in : (b : ℕ) → Lives s w e b → (f : ℕ) → f < refs_of w'.cells (cell b) → IsRef s w'.cells w'.tables (field_of w'.cells (cell b) f)
  references-in b l f m =
      let m' : f < ref_count w b = subst (λ (n : ℕ). f < field_count Reference n) (v.placement.head b l) m in
      subst (IsRef s w'.cells w'.tables) (sym ((v.object b l).references f m'))
      (ref-alive s w' cell (field_of w.cells b f) (λ y q. v.placement.used y (keeps.references b f y l m' q)))

  -- an object's cell has the form of its old one
  object-in : (b : ℕ) → Lives s w e b → ObjectWhole s w'.cells w'.tables (cell b)
  object-in b l =
      let o = v.object b l in
      let f = whole.objects b l.used in
      record {
        head = subst Formed (sym (v.placement.head b l)) f.head;
        rest = λ i h m.
            let h' : i < room_for (head_of w.cells b) = subst (λ (n : ℕ). i < room_for n) (v.placement.head b l) h in
            let m' : all_fields (head_of w.cells b) ≤ i = subst (λ (n : ℕ). all_fields n ≤ i) (v.placement.head b l) m in
            o.others i (omega (arith, kind-among Reference (head_of w.cells b))) h' ∙ f.rest i h' m';
        references = references-in b l;
      }

  pub evacuated-whole : WholeFor s w'
  evacuated-whole =
      record {
        sized = sized;
        depths = depths;
        pages = λ page l. record { filled = v.regular.pages page l; region = v.owners page l };
        partial = v.regular.partial;
        counts = v.regular.counts;
        variables = λ i l. subst (IsRef s w'.cells w'.tables) (sym (v.variables i l))
            (ref-alive s w' cell (var_of s w.tables i) (λ y q. v.placement.used y (keeps.variables i y l q)));
        objects = λ c u. let b = v.only c u in subst (ObjectWhole s w'.cells w'.tables) b.2 (object-in b.0 b.1);
        marks = v.marks;
        works = λ c u. let b = v.only c u in ap (work_of w'.cells) (sym b.2) ∙ (v.object b.0 b.1).working;
        remember = v.remember;
        unused = v.unused;
        counters = counters;
      }

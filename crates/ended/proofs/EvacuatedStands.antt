-- The words after an accepted end stand for every heap whose graph is the one after it.
use Rattle.std.specs.Prelude.{ℕ, ◌+◌, ◌<◌, ◌≡◌, refl, map, length, get_or}
use Rattle.std.proofs.Common.{arith, sym, ap, ◌∙◌, ⊎_elim, map-id, ext_get_or}
use Rattle.std.proofs.lemmas.List.{length-map}
use Rattle.std.proofs.Math.ListN.{get_or-map}
use Rattle.rules.specs.declared.Sizes.{Sizes}
use Rattle.rules.specs.NeverFreeing.{no_object}
use Rattle.rules.specs.Graph.{Graph}
use Rattle.rules.specs.Rules.{Regioned, graph}
use Rattle.laws.specs.GraphLaws.{Alive}
use Rattle.laws.specs.RulesLaws.{Sound}
use Rattle.laws.specs.SameRules.{renamed, Partners}
use Rattle.layout.specs.declared.Kind.{Kind}
use Rattle.layout.specs.declared.Kind.TheVariants.{Reference, Number}
use Rattle.layout.specs.Cells.{page_of, field_of, field_count, first_field, first-reference, first-number, kind-among, fields-room}
use Rattle.layout.specs.Words.{Words, depths_in, owner_in, head_in, fields_in, refs_in, nums_in, vars_in, counters_in, graph_of}
use Rattle.promises.specs.Whole.{WholeFor}
use Rattle.promises.specs.StandsFor.{Occupies, StandsFor}
use Rattle.promises.specs.Reading.{alive-used, used-home, get_d-fields, get_d-vars, length_fields, length-vars}
use Rattle.promises.specs.Agreed.{partners-trans}
use Rattle.promises.specs.Ends.{Part, Lives, lives-how}
use Rattle.ended.specs.Evacuated.{Evacuated}
use Rattle.ended.specs.Living.{GraphAfter, lives-there}
use Rattle.layout.specs.Places.{var_count}

module _ {s : Sizes} {w : Words} {e : Part} {w' : Words} {cell : ℕ → ℕ} (whole : WholeFor s w) (v : Evacuated s w e w' cell) (whole' : WholeFor s w') where
  -- the fields of a kind, each of which became what g makes of it
  fields-after : (d : Kind) (g : ℕ → ℕ) → g 0 ≡ 0 → (c : ℕ) → Lives s w e c
      → ((i : ℕ) → i < field_count d (head_in w c) → field_of w'.cells (cell c) (first_field d (head_in w c) + i) ≡ g (field_of w.cells c (first_field d (head_in w c) + i)))
      → fields_in d w' (cell c) ≡ map g (fields_in d w c)
  fields-after d g z c a became =
      ext_get_or 0 (fields_in d w' (cell c)) (map g (fields_in d w c)) (long' ∙ sym (length-map (fields_in d w c) g ∙ length_fields s w whole d c a.used))
      (λ i l.
      let m : i < field_count d (head_in w c) = omega (arith, long') in
      get_d-fields d w' (cell c) i (omega (arith, same)) ∙ ap (λ (n : ℕ). field_of w'.cells (cell c) (first_field d n + i)) (v.placement.head c a) ∙ became i m
      ∙ ap g (sym (get_d-fields d w c i m)) ∙ sym (ap (get_or (map g (fields_in d w c)) i) (sym z) ∙ get_or-map g (fields_in d w c) i 0))
    where
      same : field_count d (head_in w' (cell c)) ≡ field_count d (head_in w c)
      same = ap (field_count d) (v.placement.head c a)

      long' : length (fields_in d w' (cell c)) ≡ field_count d (head_in w c)
      long' = length_fields s w' whole' d (cell c) (v.placement.used c a) ∙ same

  refs-after : (c : ℕ) → Lives s w e c → refs_in w' (cell c) ≡ map (renamed cell) (refs_in w c)
  refs-after c a =
      fields-after Reference (renamed cell) refl c a
      (λ i l. (v.object c a).references (first_field Reference (head_in w c) + i) (omega (arith, first-reference (head_in w c))))

  nums-after : (c : ℕ) → Lives s w e c → nums_in w' (cell c) ≡ nums_in w c
  nums-after c a =
      let h = head_in w c in
      fields-after Number (λ x. x) refl c a
      (λ i l. (v.object c a).others (first_field Number h + i) (omega (arith, first-number h)) (omega (arith, kind-among Number h, fields-room h (whole.objects c a.used).head)))
      ∙ map-id (nums_in w c)

  vars-after : vars_in s w' ≡ map (renamed cell) (vars_in s w)
  vars-after =
      ext_get_or 0 (vars_in s w') (map (renamed cell) (vars_in s w))
      (length-vars s w' whole' ∙ sym (length-map (vars_in s w) (renamed cell) ∙ length-vars s w whole))
      (λ i l.
      let m : i < var_count s = omega (arith, length-vars s w' whole') in
      get_d-vars s w' i m ∙ v.variables i m
      ∙ ap (renamed cell) (sym (get_d-vars s w i m)) ∙ sym (get_or-map (renamed cell) (vars_in s w) i 0))

  module _ {g : Graph} (a : GraphAfter s w e g) where
    owner-after : (c : ℕ) → Lives s w e c → owner_in s w' (page_of (cell c)) ≡ g.home c
    owner-after c l =
        ⊎_elim (λ o. ap (λ (x : ℕ). owner_in s w' (page_of x)) (v.placement.stayed c o).same ∙ (v.placement.stayed c o).owner ∙ sym (a.outside c o))
        (λ x. v.placement.went c x ∙ sym (a.survivor c x)) (lives-how l)

    -- the graph of the words afterwards is the graph after the end
    pub evacuated-partners : Partners cell g (graph_of s w')
    evacuated-partners =
        record {
          home = λ c l. let o = a.lives c l in used-home s w' (cell c) (v.placement.used c o) ∙ owner-after c o;
          apart = λ b c l m. v.placement.apart b c (a.lives b l) (a.lives c m);
          onto = λ c l. let o = v.only c (alive-used s w' c l) in (o.0, lives-there whole a o.0 o.1, o.2);
          refs = λ c l. refs-after c (a.lives c l) ∙ ap (map (renamed cell)) (sym (a.refs c));
          vars = vars-after ∙ ap (map (renamed cell)) (sym a.vars);
        }

    -- so they stand for a heap that has it, with the numbers of before
    pub evacuated-stands : (h : Regioned) → Sound h → h.heap.depths ≡ depths_in s w' → Partners (λ x. x) (graph h) g
        → ((x : ℕ) → Alive (graph h) x → (get_or h.heap.objects x no_object).nums ≡ nums_in w x) → h.counters ≡ counters_in s w' → Occupies s w' h cell → StandsFor s w' h cell
    evacuated-stands h sound depths p nums counters occupies =
        record {
          whole = whole';
          sound = sound;
          depths = depths;
          partners = partners-trans p evacuated-partners;
          nums = λ x l. nums x l ∙ sym (nums-after x (a.lives x (λ z. l (sym (p.home x l) ∙ z))));
          counters = counters;
          occupies = occupies;
        }

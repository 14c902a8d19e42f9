-- After marking, the code's count of slots that would cross is the rules': remembered slots outside r, and the survivors' own.
use Rattle.std.specs.Prelude.{◌≡◌, Bool, true, false, not, ◌&&◌, List, eqb, ltb, length}
use Rattle.std.proofs.Math.Path.{refl, sym, ap, ap₂}
use Rattle.std.proofs.Common.{◌∙◌, subst, eq-eqb, ne_eqb, lt-ltb, le-ltb}
use Rattle.std.proofs.Math.Bool.{cond, and-false}
use Prim.Native.Nat.{ℕ, zero, suc, ◌+◌, ◌-◌, ◌*◌, ◌<◌}
use native.Mathlib.Omega.{arith}
use Rattle.std.proofs.Math.Decide.{ℕ_discrete, dec_lt}
use Rattle.std.proofs.Math.Nat.{one-mul, zero-mul}
use Rattle.lists.specs.Tests.{cond-zero}
use Rattle.lists.specs.Counting.{sum, sum_same, sum-none, sum-plus}
use Rattle.lists.specs.Members.{In, get_d-in}
use Rattle.lists.specs.OneToOne.{Paired, sum-paired}
use Rattle.rules.specs.declared.Sizes.{Sizes}
use Rattle.rules.specs.Graph.{Graph, target, ended, crossing}
use Rattle.laws.specs.EndLaws.{home-stayed, home-went, closed-ended}
use Rattle.laws.specs.GraphLaws.{Alive}
use Rattle.laws.specs.Counts.{cross_at, crossing-sum, cross_ref}
use Rattle.layout.specs.Places.{owner_of, entries_used, slot_in, Room, cells_words}
use Rattle.layout.specs.Cells.{work_of, field_at, field_of, page_of, page_at, refs_of, room_for}
use Rattle.layout.specs.Marks.{marked, not-marked}
use Rattle.layout.specs.Words.{Words, BeginsIn, owner_in, home_in, head_in, ref_count, refs_in, graph_of, cell_count}
use Rattle.promises.specs.Ends.{part_of}
use Rattle.promises.specs.Whole.{WholeFor, IsRef}
use Rattle.remember.specs.Crossing.{other, crosses_to, cross_to}
use Rattle.promises.specs.Crossings.{gone-cross, alive-cross}
use Rattle.layout.specs.Objects.{begins-page, begins-true, begins-false, begins?, field-on, slots_of, slots-sum}
use Rattle.remember.specs.Entries.{rising-once}
use Rattle.remember.proofs.Crosses.{field-cross, cross-slot, other-yes, other_test}
use Rattle.promises.specs.Slots.{region-of}
use Rattle.promises.specs.Reading.{ref-begins, ref-room, no-home, refs-room, used-home, used-owned, used-alive, get_d-refs, refs-few, words-closed}
use Rattle.mark.specs.Marks.{owner, kept-refs, kept_field, kept-owner}
use Rattle.mark.specs.Reached.{home-cell, cell-home}
use Rattle.mark.specs.Survivors.{Marked}
use Rattle.mark.specs.MarkedWords.{outside-work}
use Rattle.census.specs.Counted.{over-cells}
use Rattle.census.specs.After.{home_after, after-moved, after-still, cross_one, cross_after, cell_crosses, slot_crosses, entries_cross, crossing_counted}

module _ (s : Sizes) (w : Words) (k : WholeFor s w) (space : Room s (length w.tables)) (r : ℕ) (pos : 1 < r) (w' : Words) (M : Marked s w (part_of s w r) w') where
  abbrev p : Sizes
  p = s

  abbrev g : Graph
  g = graph_of s w

  abbrev h : Graph
  h = ended s g r

  ended-refs : (x : ℕ) → h.refs x ≡ refs_in w x
  unfolding ended
  ended-refs x = refl

  ended-count : h.count ≡ cell_count s
  unfolding ended
  ended-count = refl

  -- ---- where objects lie afterwards

  owner-now : (x : ℕ) → BeginsIn s w x → owner p w'.tables x ≡ home_in s w x
  owner-now x u = kept-owner M.kept space x (begins-page _ _ _ _ u) ∙ sym (used-home s w x u)

  home-after : (x : ℕ) → BeginsIn s w x → Alive h x → home_after p w'.cells w'.tables x ≡ h.home x
  home-after x u a = go (ℕ_discrete (home_in s w x) r)
    where
      go : Dec (home_in s w x ≡ r) → home_after p w'.cells w'.tables x ≡ h.home x
      go (yes e) =
          let z = M.goes x u (sym (used-home s w x u) ∙ e) ∙ sym (home-went s g r x e) in
          sym (after-moved p w'.cells w'.tables x (h.home x) (sym z) a)
      go (no n) =
          sym (after-still p w'.cells w'.tables x (page_of x) (owner p w'.tables x) (work_of w'.cells x) refl (outside-work M k x (record { used = u; out = λ z. n (used-home s w x u ∙ z) })) refl refl)
          ∙ owner-now x u ∙ sym (home-stayed s g r x n)

  -- ---- one slot of object x

  cross-one : (x v : ℕ) → IsRef p w.cells w.tables v → ((y : ℕ) → v ≡ suc y → Alive h y) → cross_ref h x v ≡ cross_after p w'.cells w'.tables (h.home x) v
  unfolding cross_after
  cross-one x zero f there = refl
  cross-one x (suc y) f there =
      let y' : suc y - 1 ≡ y = omega arith in
      let u : BeginsIn s w y = ref-begins s w.cells w.tables (suc y) y f refl in
      sym (other_test (h.home x) (h.home y) (let l = there y refl in omega arith))
      ∙ sym
      (ap (λ (b : Bool). cond b 0 (cross_one (h.home x) (home_after p w'.cells w'.tables (suc y - 1)))) (ne_eqb (suc y) 0 (λ (z : suc y ≡ 0). omega arith))
      ∙ ap (λ (z : ℕ). cross_one (h.home x) (home_after p w'.cells w'.tables z)) y' ∙ ap (cross_one (h.home x)) (home-after y u (there y refl)))

  -- what a slot of an object names that is there afterwards is there too
  slot-alive : (x f : ℕ) → Alive h x → f < ref_count w x → (y : ℕ) → field_of w.cells x f ≡ suc y → Alive h y
  slot-alive x f a l y e =
      (closed-ended s g r (omega arith) (words-closed s w k)).refs x y a
      (subst (In (suc y)) (sym (ended-refs x)) (get_d-in (refs_in w x) f y (get_d-refs w x f l ∙ e)))

  -- ---- all slots of an object

  slots-cross : (x : ℕ) → BeginsIn s w x → Alive h x → cross_at h x ≡ sum (λ f. cross_after p w'.cells w'.tables (h.home x) (field_of w'.cells x f)) (ref_count w x)
  slots-cross x u a =
      alive-cross s w k h ended-refs x u a
      ∙ sum_same _ _ (ref_count w x)
      (λ (f : ℕ) l.
      cross-one x (field_of w.cells x f) ((k.objects x u).references f l) (slot-alive x f a l)
      ∙ ap (cross_after p w'.cells w'.tables (h.home x)) (sym (kept_field M.kept x f (omega (arith, l, refs-few s w k x u)))))

  -- ---- the survivors' slots

  abbrev inside : ℕ → ℕ
  inside x = cond (eqb (home_in s w x) r) (cross_at h x) 0

  abbrev outside : ℕ → ℕ
  outside x = cond (eqb (home_in s w x) r) 0 (cross_at h x)

  survivor : (x : ℕ) → x < cell_count s → marked p w'.tables x * cell_crosses p w'.cells w'.tables x ≡ inside x
  unfolding cell_crosses
  survivor x l = go (ℕ_discrete (marked p w'.tables x) 1) (ℕ_discrete (home_in s w x) r)
    where
      go : Dec (marked p w'.tables x ≡ 1) → Dec (home_in s w x ≡ r)
          → marked p w'.tables x * sum (λ f. cross_after p w'.cells w'.tables (work_of w'.cells x) (field_of w'.cells x f)) (refs_of w'.cells x) ≡ inside x
      go (yes on) (no n) = let u = M.only x (omega arith) on in absurd (n (cell-home s w k x r u.0 u.1))
      go (yes on) (yes e) =
          let u = M.only x (omega arith) on in
          let t : work_of w'.cells x ≡ h.home x = M.goes x u.0 u.1 ∙ sym (home-went s g r x e) in
          let some : h.home x ≡ 0 → ⊥ =
          (λ z. let off = M.freed x u.0 u.1 (sym (home-went s g r x e) ∙ z) in let y : ⊥ = omega arith in y) in
          ap (λ (b : ℕ). b * sum (λ f. cross_after p w'.cells w'.tables (work_of w'.cells x) (field_of w'.cells x f)) (refs_of w'.cells x)) on
          ∙ one-mul _
          ∙ ap₂ (λ (a n : ℕ). sum (λ f. cross_after p w'.cells w'.tables a (field_of w'.cells x f)) n) t (kept-refs M.kept x)
          ∙ sym (slots-cross x u.0 some)
          ∙ sym (ap (λ (b : Bool). cond b (cross_at h x) 0) (eq-eqb (home_in s w x) r e))
      go (no off) (no n) = ap (λ (b : ℕ). b * sum (λ f. cross_after p w'.cells w'.tables (work_of w'.cells x) (field_of w'.cells x f)) (refs_of w'.cells x)) (not-marked p w'.tables x off) ∙ zero-mul _ ∙ sym (ap (λ (b : Bool). cond b (cross_at h x) 0) (ne_eqb (home_in s w x) r n))
      go (no off) (yes e) =
          let u = home-cell s w k x r e (omega arith) in
          ap (λ (b : ℕ). b * sum (λ f. cross_after p w'.cells w'.tables (work_of w'.cells x) (field_of w'.cells x f)) (refs_of w'.cells x)) (not-marked p w'.tables x off) ∙ zero-mul _
          ∙ sym (ap (λ (b : Bool). cond b (cross_at h x) 0) (eq-eqb (home_in s w x) r e) ∙ gone-cross h x (home-went s g r x e ∙ freed (dec_lt 0 (target s g r x)) u.0 u.1))
        where
          freed : Dec (0 < target s g r x) → BeginsIn s w x → owner_in s w (page_of x) ≡ r → target s g r x ≡ 0
          freed (yes b) u own = absurd (off (M.survives x u own b))
          freed (no b) u own = omega arith

  -- ---- the slots outside r: those that cross afterwards cross now

  -- the word at q counts if it crosses now and afterwards
  abbrev still : ℕ → ℕ
  still q = cond (ltb 0 (cross_to p w.cells w.tables q)) (slot_crosses p w'.cells w'.tables r q) 0

  still-no : (q : ℕ) → (0 < cross_to p w.cells w.tables q → ⊥) → still q ≡ 0
  still-no q n = ap (λ (b : Bool). cond b (slot_crosses p w'.cells w'.tables r q) 0) (le-ltb 0 (cross_to p w.cells w.tables q) (omega (arith, n)))

  still-yes : (q : ℕ) → 0 < cross_to p w.cells w.tables q → still q ≡ slot_crosses p w'.cells w'.tables r q
  still-yes q l = ap (λ (b : Bool). cond b (slot_crosses p w'.cells w'.tables r q) 0) (lt-ltb 0 (cross_to p w.cells w.tables q) l)

  module _ (x : ℕ) (u : BeginsIn s w x) (out : home_in s w x ≡ r → ⊥) where
    stays : h.home x ≡ home_in s w x
    stays = home-stayed s g r x out

    some : Alive h x
    some z = used-alive s w k x u (sym stays ∙ z)

    -- a reference that does not cross now does not cross afterwards
    quiet : (v : ℕ) → IsRef p w.cells w.tables v → crosses_to p w.tables x v ≡ 0 → cross_ref h x v ≡ 0
    quiet zero f z = refl
    quiet (suc y) f z =
        let v : BeginsIn s w y = ref-begins s w.cells w.tables (suc y) y f refl in
        go v (ap (other (owner_in s w (page_of x))) (sym (region-of p w.tables y (begins-page _ _ _ _ v))) ∙ z) (ℕ_discrete (owner_in s w (page_of y)) 1)
        (ℕ_discrete (owner_in s w (page_of x)) (owner_in s w (page_of y)))
      where
        go : BeginsIn s w y → other (owner_in s w (page_of x)) (owner_in s w (page_of y)) ≡ 0 → Dec (owner_in s w (page_of y) ≡ 1) → Dec (owner_in s w (page_of x) ≡ owner_in s w (page_of y))
            → cross_ref h x (suc y) ≡ 0
        go v z (yes one) d =
            let e : home_in s w y ≡ 1 = used-home s w y v ∙ one in
            let e' : h.home y ≡ 1 = home-stayed s g r y (λ (c : home_in s w y ≡ r). omega arith) ∙ e in
            ap (λ (b : Bool). cond (not (eqb (h.home x) (h.home y)) && not b) 1 0) (eq-eqb (h.home y) 1 e') ∙ ap (λ (b : Bool). cond b 1 0) (and-false (not (eqb (h.home x) (h.home y))))
        go v z (no n) (yes d) =
            let e : home_in s w x ≡ home_in s w y = used-home s w x u ∙ d ∙ sym (used-home s w y v) in
            let e' : h.home x ≡ h.home y = stays ∙ e ∙ sym (home-stayed s g r y (λ c. out (e ∙ c))) in
            ap (λ (b : Bool). cond (not b && not (eqb (h.home y) 1)) 1 0) (eq-eqb (h.home x) (h.home y) e')
        go v z (no n) (no d) =
            let nz = used-owned s w k y v in
            let far : 1 < owner_in s w (page_of y) = omega arith in
            absurd (let b : ⊥ = omega (arith, other-yes (owner_in s w (page_of x)) (owner_in s w (page_of y)) far (λ z. d (sym z))) in b)

    field-still : (f : ℕ) → f < ref_count w x → still (field_at x f) ≡ cross_after p w'.cells w'.tables (h.home x) (field_of w'.cells x f)
    unfolding slot_crosses
    field-still f l = go (dec_lt 0 (cross_to p w.cells w.tables (field_at x f)))
      where
        inside : f < room_for (head_in w x)
        inside = ref-room s w k x f u l

        page : page_at (field_at x f) ≡ page_of x
        page = field-on p w.cells w.tables x u f inside

        now : owner_of p w'.tables (page_at (field_at x f)) ≡ home_in s w x
        now = ap (owner_of p w'.tables) page ∙ owner-now x u

        go : Dec (0 < cross_to p w.cells w.tables (field_at x f)) → still (field_at x f) ≡ cross_after p w'.cells w'.tables (h.home x) (field_of w'.cells x f)
        go (yes b) =
            still-yes (field_at x f) b
            ∙ ap (λ (t : Bool). cond t 0 (cross_after p w'.cells w'.tables (owner_of p w'.tables (page_at (field_at x f))) (field_of w'.cells x f)))
            (ne_eqb (owner_of p w'.tables (page_at (field_at x f))) r (λ z. out (sym now ∙ z)))
            ∙ ap (λ (a : ℕ). cross_after p w'.cells w'.tables a (field_of w'.cells x f)) (now ∙ sym stays)
        go (no b) =
            let ref = (k.objects x u).references f l in
            let z : crosses_to p w.tables x (field_of w.cells x f) ≡ 0 = sym (field-cross p w.cells w.tables x f u inside l) ∙ omega arith in
            still-no (field_at x f) b ∙ sym (quiet (field_of w.cells x f) ref z) ∙ cross-one x (field_of w.cells x f) ref (slot-alive x f some l)
            ∙ ap (cross_after p w'.cells w'.tables (h.home x)) (sym (kept_field M.kept x f (omega (arith, refs-few s w k x u))))

  -- an object of r counts with the survivors, a cell where none begins not at all
  object-sum : (x : ℕ) → slots_of p w.cells w.tables still x ≡ outside x
  unfolding slot_crosses
  object-sum x = go (begins? p w.cells w.tables x) (ℕ_discrete (home_in s w x) r)
    where
      go : Dec (BeginsIn s w x) → Dec (home_in s w x ≡ r) → slots_of p w.cells w.tables still x ≡ outside x
      go (no n) (yes e) = absurd (n (home-cell s w k x r e (omega arith)).0)
      go (no n) (no d) =
          ap (λ (b : Bool). cond b (sum (λ f. still (field_at x f)) (ref_count w x)) 0) (begins-false p w.cells w.tables x n)
          ∙ sym (ap (λ (b : Bool). cond b 0 (cross_at h x)) (ne_eqb (home_in s w x) r d) ∙ gone-cross h x (home-stayed s g r x d ∙ no-home s w x n))
      go (yes u) (yes e) =
          ap (λ (b : Bool). cond b (sum (λ f. still (field_at x f)) (ref_count w x)) 0) (begins-true p w.cells w.tables x u)
          ∙ sum-none (λ f. still (field_at x f)) (ref_count w x)
          (λ f l.
          let page = field-on p w.cells w.tables x u f (ref-room s w k x f u l) in
          cond-zero (ltb 0 (cross_to p w.cells w.tables (field_at x f))) (slot_crosses p w'.cells w'.tables r (field_at x f)) 0
          (ap (λ (b : Bool). cond b 0 (cross_after p w'.cells w'.tables (owner_of p w'.tables (page_at (field_at x f))) (field_of w'.cells x f)))
          (eq-eqb (owner_of p w'.tables (page_at (field_at x f))) r (ap (owner_of p w'.tables) page ∙ owner-now x u ∙ e))) refl)
          ∙ sym (ap (λ (b : Bool). cond b 0 (cross_at h x)) (eq-eqb (home_in s w x) r e))
      go (yes u) (no d) =
          ap (λ (b : Bool). cond b (sum (λ f. still (field_at x f)) (ref_count w x)) 0) (begins-true p w.cells w.tables x u)
          ∙ sum_same (λ f. still (field_at x f)) (λ f. cross_after p w'.cells w'.tables (h.home x) (field_of w'.cells x f)) (ref_count w x) (field-still x u d)
          ∙ sym (ap (λ (b : Bool). cond b 0 (cross_at h x)) (ne_eqb (home_in s w x) r d) ∙ slots-cross x u (some x u d))

  -- ---- entry by entry

  entries-paired : Paired (slot_in w.remember) (λ i. still (slot_in w.remember i)) (entries_used w.remember) still (cells_words s)
  entries-paired =
      record {
        goes = λ i l b. ((k.remember.entries.named i l).slot, refl);
        apart = λ i j l m a b e. same i j l m e (ℕ_discrete i j) (dec_lt i j);
        onto = λ q l b. let n = k.remember.every q l (crosses-now q b) in (n.0, n.1, subst (λ (z : ℕ). 0 < still z) (sym n.2) b, n.2);
      }
    where
      crosses-now : (q : ℕ) → 0 < still q → 0 < cross_to p w.cells w.tables q
      crosses-now q b = go (dec_lt 0 (cross_to p w.cells w.tables q))
        where
          go : Dec (0 < cross_to p w.cells w.tables q) → 0 < cross_to p w.cells w.tables q
          go (yes l) = l
          go (no n) = absurd (let z : ⊥ = omega (arith, still-no q n) in z)

      same : (i j : ℕ) → i < entries_used w.remember → j < entries_used w.remember → slot_in w.remember i ≡ slot_in w.remember j → Dec (i ≡ j) → Dec (i < j) → i ≡ j
      same i j l m e (yes d) b = d
      same i j l m e (no d) (yes b) = absurd (rising-once w.remember (entries_used w.remember) k.remember.entries.rising i j b m e)
      same i j l m e (no d) (no b) = absurd (rising-once w.remember (entries_used w.remember) k.remember.entries.rising j i (omega arith) l (sym e))

  entries-sum : entries_cross p w'.cells w.remember w'.tables r ≡ sum outside (cell_count s)
  entries-sum =
      sum_same (λ i. slot_crosses p w'.cells w'.tables r (slot_in w.remember i)) (λ i. still (slot_in w.remember i)) (entries_used w.remember)
      (λ i l. let n = k.remember.entries.named i l in sym (still-yes (slot_in w.remember i) (omega (arith, n.region, n.right))))
      ∙ sum-paired (slot_in w.remember) (λ i. still (slot_in w.remember i)) (entries_used w.remember) still (cells_words s) entries-paired
      ∙ slots-sum p w.cells w.tables still (λ q l n. still-no q (λ b. n (cross-slot p w.cells w.tables q b))) (refs-room s w k)
      ∙ sum_same (slots_of p w.cells w.tables still) outside (cell_count s) (λ x l. object-sum x)

  -- ---- both together

  split : (x : ℕ) → cross_at h x ≡ inside x + outside x
  split x = go (eqb (home_in s w x) r)
    where
      go : (b : Bool) → cross_at h x ≡ cond b (cross_at h x) 0 + cond b 0 (cross_at h x)
      go true = omega arith
      go false = omega arith

  -- what the code counts after marking is what would cross by the rules
  pub crossing-after : crossing_counted p w'.cells w'.remember w'.tables r ≡ crossing (ended s (graph_of s w) r)
  crossing-after =
      let a = ap (λ (m : List ℕ). entries_cross p w'.cells m w'.tables r) M.remember ∙ entries-sum in
      let b =
      over-cells p w'.tables (cell_crosses p w'.cells w'.tables)
      ∙ sum_same (λ c. marked p w'.tables c * cell_crosses p w'.cells w'.tables c) inside (cell_count s) survivor in
      let c = crossing-sum h ∙ ap (sum (cross_at h)) ended-count ∙ sum_same (cross_at h) (λ x. inside x + outside x) (cell_count s) (λ x l. split x) ∙ sum-plus inside outside (cell_count s) in
      omega (arith, a, b, c)

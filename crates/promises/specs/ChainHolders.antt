-- 02, W6: the chain of a region names all the slots outside it that point into it, each once, by rising position. An end takes its holding slots
-- from there.
use Rattle.std.specs.Prelude.{ℕ, suc, ◌+◌, ◌-◌, ◌≤◌, ◌<◌, ◌≡◌, refl, List, length, get_or}
use Rattle.std.proofs.Common.{arith, sym, ap, subst, ◌∙◌}
use Rattle.std.proofs.Math.Decide.{ℕ_discrete}
use Rattle.lists.specs.Members.{In, get_d-member}
use Rattle.rules.specs.declared.Sizes.{Sizes}
use Rattle.rules.specs.Regions.{control, regions}
use Rattle.layout.specs.Places.{cells_words, entries_used, slot_in, first_in}
use Rattle.layout.specs.Cells.{page_of, cell_named, field_of}
use Rattle.layout.specs.Objects.{Slot}
use Rattle.layout.specs.Words.{Words, owner_in}
use Rattle.remember.proofs.Crosses.{slot-crosses, cross-slot, Into, crosses-into, into-crosses}
use Rattle.remember.specs.Crossing.{crosses_from, cross_to}
use Rattle.remember.specs.Table.{region, nth_region, entries_in}
use Rattle.remember.specs.TableWords.{to-long, to_at}
use Rattle.chains.specs.Chains.{ChainsWhole, places_of, followed}
use Rattle.chains.proofs.Following.{places-right, places-all, places-rise}
use Rattle.chains.proofs.Linking.{chain-agreed}
use Rattle.chains.proofs.Walking.{whole_long, first-leads}
use Rattle.promises.specs.Whole.{WholeFor}

-- the word at position q is a slot of an object outside region r, and names an object of r
pub record HoldingSlot (s : Sizes) (w : Words) (r q : ℕ) : Type 0 where
  pub slot : Slot s w.cells w.tables q
  pub outside : owner_in s w (page_of slot.object) ≡ r → ⊥
  pub real : get_or w.cells q 0 ≡ 0 → ⊥
  pub page : page_of (cell_named (get_or w.cells q 0)) < s.pages
  pub into : owner_in s w (page_of (cell_named (get_or w.cells q 0))) ≡ r

-- the control space has no chain
pub control-none : (s : Sizes) (w : Words) (k : List ℕ) → WholeFor s w → ChainsWhole s w.remember k → first_in k control ≡ 0
control-none s w k whole chains = go (ℕ_discrete (first_in k control) 0)
  where
    m : List ℕ
    m = w.remember

    go : Dec (first_in k control ≡ 0) → first_in k control ≡ 0
    go (yes z) = z
    go (no z) =
        let l = first-leads whole.remember.entries.room chains control (omega arith) (omega arith) refl in
        let e = whole.remember.entries.named (first_in k control - 1) (omega (arith, l.low)) in
        let q = slot_in m (first_in k control - 1) in
        let c : 1 ≡ cross_to s w.cells w.tables q = sym (e.right ∙ l.region (omega arith)) in
        let o = cross-slot s w.cells w.tables q (omega (arith, c)) in
        let v = crosses-into s w.tables (owner_in s w (page_of o.object)) (field_of w.cells o.object o.field) 1 (c ∙ slot-crosses s w.cells w.tables q o) (λ x. omega arith) in
        absurd (let f : ⊥ = omega (arith, v.high) in f)

-- a walk along the chain of r, of as many steps as entries are used, or of more: it ends
module _ (s : Sizes) (w : Words) (k : List ℕ) (whole : WholeFor s w) (chains : ChainsWhole s w.remember k) (r : ℕ) (low : 2 ≤ r) (high : r ≤ regions s)
    (n : ℕ) (enough : entries_used w.remember ≤ n) where
  abbrev m : List ℕ
  m = w.remember

  abbrev N : ℕ
  N = s.entries

  -- the places that the chain of r leads to
  abbrev named : List ℕ
  named = followed (regions s) k n (first_in k r)

  long : length (entries_in N m) ≡ entries_used m
  long = to-long N m (entries_used m)

  names : named ≡ places_of r 0 (entries_in N m)
  names =
      let v : suc (r - 1) ≡ r = omega arith in
      chain-agreed (regions s) N (entries_in N m) k (omega (arith, long, whole.remember.entries.room)) (whole_long whole.remember.entries.room chains) chains.words
      n (omega (arith, long)) (r - 1) (omega arith)
      ∙ ap (λ (g : ℕ). places_of g 0 (entries_in N m)) v

  -- the region of an entry is what its slot crosses into
  at : (i : ℕ) → i < entries_used m → nth_region (entries_in N m) i ≡ cross_to s w.cells w.tables (slot_in m i)
  at i l = ap region (to_at N m (entries_used m) i l) ∙ sym (whole.remember.entries.named i l).right

  -- what a slot crosses into, by its object and its word
  crosses : {q : ℕ} (o : Slot s w.cells w.tables q) → cross_to s w.cells w.tables q ≡ crosses_from s w.tables (owner_in s w (page_of o.object)) (get_or w.cells q 0)
  crosses {q} o =
      slot-crosses s w.cells w.tables q o
      ∙ ap (λ (y : ℕ). crosses_from s w.tables (owner_in s w (page_of o.object)) (get_or w.cells y 0)) o.at

  -- each place that the chain names is that of an entry, whose slot lies outside r and points into r
  pub chain-right : (i : ℕ) → In i named → (i < entries_used m) × HoldingSlot s w r (slot_in m i)
  chain-right i h =
      let p = places-right r 0 (entries_in N m) i (subst (In i) names h) in
      let e : i ≡ p.0 = omega (arith, p.2) in
      let l : i < entries_used m = omega (arith, p.1, long) in
      let q = slot_in m i in
      let c : r ≡ cross_to s w.cells w.tables q = sym p.3 ∙ ap (nth_region (entries_in N m)) (sym e) ∙ at i l in
      let o = cross-slot s w.cells w.tables q (omega (arith, c)) in
      let v = crosses-into s w.tables (owner_in s w (page_of o.object)) (get_or w.cells q 0) r (c ∙ crosses o) (λ z. omega arith) in
      (l, record { slot = o; outside = λ z. v.other (sym z); real = v.real; page = v.page; into = sym v.region })

  -- and every such slot is there
  pub chain-all : (q : ℕ) → q < cells_words s → HoldingSlot s w r q → (i : ℕ) × In i named × (slot_in m i ≡ q)
  chain-all q b h =
      let v : Into s w.tables (owner_in s w (page_of h.slot.object)) (get_or w.cells q 0) r =
      record { real = h.real; page = h.page; region = sym h.into; high = omega arith; other = λ z. h.outside (sym z) } in
      let c : r ≡ cross_to s w.cells w.tables q = into-crosses s w.tables (owner_in s w (page_of h.slot.object)) (get_or w.cells q 0) r v ∙ sym (crosses h.slot) in
      let e = whole.remember.every q b (omega (arith, c)) in
      let g : nth_region (entries_in N m) e.0 ≡ r = at e.0 e.1 ∙ ap (cross_to s w.cells w.tables) e.2 ∙ sym c in
      let z : 0 + e.0 ≡ e.0 = omega arith in
      (e.0, subst (λ (j : ℕ). In j named) z (subst (In (0 + e.0)) (sym names) (places-all r 0 (entries_in N m) e.0 (omega (arith, e.1, long)) g)), e.2)

  -- by rising position, so each once
  pub chain-rises : (i j : ℕ) → i < j → j < length named → slot_in m (get_or named i 0) < slot_in m (get_or named j 0)
  chain-rises i j l h =
      let b = chain-right (get_or named j 0) (get_d-member named j h) in
      whole.remember.entries.rising (get_or named i 0) (get_or named j 0)
      (subst (λ (ps : List ℕ). get_or ps i 0 < get_or ps j 0) (sym names) (places-rise r 0 (entries_in N m) i j l (omega (arith, ap length names)))) b.0

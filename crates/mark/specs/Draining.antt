-- A drain: cells are popped and scanned until the stack is empty. Then just what the held cells lead to is marked.
use Rattle.std.specs.Prelude.{◌≡◌, refl, ◌≢◌, Bool, true, List, [], ◌∷◌, ◌++◌, ℕ, ◌+◌, ◌-◌, ◌≤◌, ◌<◌, length, set}
use Rattle.std.proofs.Common.{sym, ◌∙◌, subst, inl, ⊎_elim, arith, one-add, length-append}
use Rattle.lists.specs.Listed.{listed}
use Rattle.lists.specs.Members.{In, in-append, in_left, in_right}
use Rattle.lists.specs.Pigeonhole.{distinct-few}
use Rattle.lists.specs.Says.{Says}
use Rattle.rules.specs.declared.Sizes.{Sizes}
use Rattle.layout.specs.Places.{cells_words}
use Rattle.layout.specs.Cells.{work_at, work_of, field_of, page_of, refs_of, most_fields}
use Rattle.layout.specs.Marks.{marked}
use Rattle.layout.specs.Objects.{Begins, begins-page, cell_count}
use Rattle.promises.specs.Whole.{IsRef}
use Rattle.promises.specs.Reading.{ref-begins}
use Rattle.mark.specs.Marks.{owner, Shaped, shaped-few, Leads.held, Leads.via, leads-last, listed_in, in-listed, kept-refs, kept_field, kept-owner, AnyMarked}
use Rattle.mark.specs.Marking.{Marking, marking-start, shaped-then, popped-top}
use Rattle.mark.specs.Pushes.{Pushing, pushing-kept, pushing-shaped, pushing-mono, pushing-closed, pushing-marking}

-- after n turns, with S on the stack
pub record Draining (p : Sizes) (r g : ℕ) (W₀ T₀ S₀ S W T : List ℕ) (top n : ℕ) : Type 0 where
  pub done : List ℕ
  pub count : n ≡ length done
  pub marking : Marking p r g W₀ T₀ S₀ done S W T top
  -- every cell of r that a done cell's slots name is marked
  pub closed : (c f d : ℕ) → In c done → f < refs_of W₀ c → field_of W₀ c f ≡ 1 + d → owner p T₀ d ≡ r → marked p T d ≡ 1
  -- and so is every cell of r that is held
  pub all_held : (c : ℕ) → In (1 + c) S₀ → owner p T₀ c ≡ r → marked p T c ≡ 1

-- the held cells are on the stack, and nothing is done
abbrev pub Pending : (p : Sizes) (r g : ℕ) (W₀ T₀ S₀ W T : List ℕ) (top : ℕ) → Type 0
Pending p r g W₀ T₀ S₀ W T top = (S : List ℕ) × Draining p r g W₀ T₀ S₀ S W T top 0

-- the whole: what is reached is done, marked and with g in word 1, and nothing else is changed
abbrev pub Drained : (p : Sizes) (r g : ℕ) (W₀ T₀ S₀ W T : List ℕ) (n : ℕ) → Type 0
Drained p r g W₀ T₀ S₀ W T n = Draining p r g W₀ T₀ S₀ [] W T 0 n

-- no more turns than there are cells
draining-few : {p : Sizes} {r g : ℕ} {W₀ T₀ S₀ S W T : List ℕ} {top n : ℕ} → Draining p r g W₀ T₀ S₀ S W T top n → n ≤ cell_count p
draining-few {p} {S = S} h =
    let m = h.marking in
    let b : length (S ++ h.done) ≤ cell_count p = distinct-few (cell_count p) (S ++ h.done) m.distinct (λ c i. omega (arith, begins-page _ _ _ _ (leads-last (m.reached c i)).0.0)) in
    omega (arith, h.count, length-append S h.done)

pub drained : {p : Sizes} {r g : ℕ} {W₀ T₀ S₀ W T : List ℕ} {top n : ℕ} (S : List ℕ) → top ≡ 0 → Draining p r g W₀ T₀ S₀ S W T top n → Drained p r g W₀ T₀ S₀ W T n
drained {p} {r} {g} {W₀} {T₀} {S₀} {W} {T} {top} {n} [] z h = subst (λ (t : ℕ). Draining p r g W₀ T₀ S₀ [] W T t n) z h
drained (c ∷ S) z h = absurd (let y : ⊥ = omega (arith, h.marking.chain.0) in y)

-- ---- whether a drain popped a cell says whether it marked one

first_of : (D : List ℕ) → length D ≢ 0 → (c : ℕ) × In c D
first_of [] ne = absurd (ne refl)
first_of (c ∷ D) ne = (c, inl refl)

none_in : (D : List ℕ) (c : ℕ) → length D ≡ 0 → In c D → ⊥
none_in [] c z i = i
none_in (d ∷ D) c z i = omega arith

module _ {p : Sizes} {r g : ℕ} {W₀ T₀ S₀ W T : List ℕ} {n : ℕ} (d : Drained p r g W₀ T₀ S₀ W T n) where
  -- b is the answer now, a the one before
  pub says-popped : (b : Bool) → b ≡ true → n ≢ 0 → Says b (AnyMarked p T)
  says-popped b e ne =
      let m = d.marking in
      let f = first_of d.done (λ z. ne (d.count ∙ z)) in
      (λ y. (f.0, begins-page _ _ _ _ (leads-last (m.reached f.0 f.1)).0.0, m.on f.0 f.1), λ y. e)

  pub says-idle : (a b : Bool) → b ≡ a → n ≡ 0 → Says a (AnyMarked p T₀) → Says b (AnyMarked p T)
  says-idle a b e z s = (
    λ y. let f = s.0 (sym e ∙ y) in (f.0, f.1, same f.0 ∙ f.2),
    λ f. e ∙ s.1 (f.0, f.1, sym (same f.0) ∙ f.2),
  )
    where
      same : (c : ℕ) → marked p T c ≡ marked p T₀ c
      same c = d.marking.same-mark c (none_in d.done c (sym d.count ∙ z))

-- ---- a turn as the code has it

-- what a turn of the drain needs of numbers, and hands to the scan; b is the cell on top as the code has it
pub record Facts (p : Sizes) (b len n : ℕ) : Type 0 where
  pub page : page_of b < p.pages
  pub few : p.pages ≤ 1024
  pub long : cells_words p ≤ len
  pub counted : n ≤ cell_count p

module _ {p : Sizes} {r g : ℕ} {W₀ T₀ S₀ S W T : List ℕ} {top n : ℕ} (h : Draining p r g W₀ T₀ S₀ S W T top n) (ne : top ≢ 0) (b : ℕ) (e : b ≡ top - 1) where
  pub turn_facts : Facts p b (length W) n
  turn_facts =
      let s = shaped-then h.marking in
      record { page = begins-page _ _ _ _ (popped-top S b ne e refl refl h.marking).0; few = s.room.few; long = s.cells-long; counted = draining-few h }

  -- X is the cells after the pop, y the link that was read
  module _ {X : List ℕ} {y : ℕ} (a : X ≡ set W (work_at b) g) (l : y ≡ work_of W b) where
    pub turn-asks : Shaped p X T × Begins p X T b
    turn-asks = let q = popped-top S b ne e a l h.marking in (shaped-then q.2, q.0)

    pub turn-read : {W' T' : List ℕ} {top' : ℕ} → Pushing p r (field_of X b) X T y W' T' top' (refs_of X b) → (S' : List ℕ) × Draining p r g W₀ T₀ S₀ S' W' T' top' (n + 1)
    turn-read s =
        let q = popped-top S b ne e a l h.marking in
        let m = q.2 in
        let sh = shaped-then m in
        let few : refs_of X b ≤ most_fields = shaped-few sh b q.0 in
        let same : refs_of X b ≡ refs_of W₀ b = kept-refs m.kept b in
        let m' =
        pushing-marking m
        (λ f c lt e o. via (m.reached b (in_right b q.1 (b ∷ h.done) (inl refl))) f (omega arith) (sym (kept_field m.kept b f (omega arith)) ∙ e) o) s in (
          m'.0,
          record {
            done = b ∷ h.done;
            count = omega (arith, h.count);
            marking = m'.1;
            all_held = λ c i own. pushing-mono sh s c (h.all_held c i own);
            closed = λ c f d i lt e own.
                ⊎_elim
                (λ (z : c ≡ b).
                let lt' : f < refs_of W₀ b = subst (λ (x : ℕ). f < refs_of W₀ x) z lt in
                let e' : field_of X b f ≡ 1 + d = kept_field m.kept b f (omega arith) ∙ subst (λ (x : ℕ). field_of W₀ x f ≡ 1 + d) z e in
                let u = ref-begins p X T (field_of X b f) d ((sh.objects b q.0).references f (omega arith)) (e' ∙ one-add d) in
                pushing-closed sh s f d (omega arith) e' (kept-owner m.kept m.started.room d (begins-page _ _ _ _ u) ∙ own))
                (λ j. pushing-mono sh s d (h.closed c f d j lt e own))
                i;
          },
        )

-- ---- what two runs of pushes on an empty stack leave is pending

pub seeded : {p : Sizes} {r : ℕ} (g : ℕ) (ref ref' : ℕ → ℕ) (n n' : ℕ) {W T W' T' W'' T'' : List ℕ} {top top' : ℕ} → Shaped p W T
    → ((k : ℕ) → k < n' → IsRef p W T (ref' k)) → Pushing p r ref W T 0 W' T' top n → Pushing p r ref' W' T' top W'' T'' top' n'
    → Pending p r g W T (listed ref n ++ listed ref' n') W'' T'' top'
seeded {p} {r} g ref ref' n n' {W} {T} {W'} {T'} s used h i =
    let S₀ : List ℕ = listed ref n ++ listed ref' n' in
    let k = pushing-kept s h in
    let s' = pushing-shaped s h in
    let m = pushing-marking (marking-start r g S₀ s) (λ k c l e o. held (in_left (1 + c) (listed ref n) (listed ref' n') (listed_in ref n k (1 + c) l e)) o) h in
    let m' = pushing-marking m.1 (λ k c l e o. held (in_right (1 + c) (listed ref n) (listed ref' n') (listed_in ref' n' k (1 + c) l e)) o) i in (
      m'.0,
      record {
        done = [];
        count = refl;
        marking = m'.1;
        closed = λ c f d i. absurd i;
        all_held = λ c j own.
            ⊎_elim (λ j. let q = in-listed ref n (1 + c) j in pushing-mono s' i c (pushing-closed s h q.0 c q.1 q.2 own))
            (λ j.
            let q = in-listed ref' n' (1 + c) j in
            pushing-closed s' i q.0 c q.1 q.2 (kept-owner k s.room c (begins-page _ _ _ _ (ref-begins p W T (ref' q.0) c (used q.0 q.1) (q.2 ∙ one-add c))) ∙ own))
            (in-append (1 + c) (listed ref n) (listed ref' n') j);
      },
    )

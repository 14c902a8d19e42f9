-- Several drains, outermost level first: each cell of r that a held reference leads to goes to the first level of a holder whose chain reaches
-- it. `calls l` lists the references that holders of level l hold, `gs l` is the region that they call for.
use Rattle.std.specs.Prelude.{◌≡◌, refl, List, ℕ, ◌+◌, ◌≤◌, ◌<◌}
use Rattle.std.proofs.Common.{sym, ◌∙◌, subst, arith, one-add}
use Rattle.lists.specs.Below.{upto}
use Rattle.lists.specs.Members.{In, in?}
use Rattle.rules.specs.declared.Sizes.{Sizes}
use Rattle.layout.specs.Cells.{work_of, field_of, page_of, refs_of, most_fields}
use Rattle.layout.specs.Marks.{marked}
use Rattle.layout.specs.Objects.{Begins, begins-page}
use Rattle.promises.specs.Reading.{ref-begins}
use Rattle.mark.specs.Marks.{owner, Shaped, shaped-few, Ours, Fresh, Leads, Leads.held, Leads.via, leads-last, Kept, kept_refl, kept_trans, kept-refs, kept_field, kept-owner, in-use-kept}
use Rattle.mark.specs.Draining.{Drained}

-- a reference that a holder of level l holds leads to c inside r
abbrev pub Held : (p : Sizes) (r : ℕ) (W T : List ℕ) (calls : ℕ → List ℕ) (l c : ℕ) → Type 0
Held p r W T calls l c = Leads (Ours p r W T) W (calls l) c

-- l is the first level of a holder that leads to c, and it is below n
pub record First (p : Sizes) (r : ℕ) (W T : List ℕ) (calls : ℕ → List ℕ) (n c l : ℕ) : Type 0 where
  pub below : l < n
  pub reached : Held p r W T calls l c
  pub none : (j : ℕ) → j < l → Held p r W T calls j c → ⊥

-- levels below n are marked
pub record Levels (p : Sizes) (r n : ℕ) (gs : ℕ → ℕ) (calls : ℕ → List ℕ) (W₀ T₀ W T : List ℕ) : Type 0 where
  pub kept : Kept p W₀ T₀ W T
  pub found : (c : ℕ) → page_of c < p.pages → marked p T c ≡ 1 → (l : ℕ) × First p r W₀ T₀ calls n c l × (work_of W c ≡ gs l)
  pub lost : (c : ℕ) → page_of c < p.pages → marked p T c ≡ 0 → (work_of W c ≡ work_of W₀ c) × ((l : ℕ) → l < n → Held p r W₀ T₀ calls l c → ⊥)
  pub closed : (b f d : ℕ) → Begins p W₀ T₀ b → marked p T b ≡ 1 → f < refs_of W₀ b → field_of W₀ b f ≡ 1 + d → owner p T₀ d ≡ r → marked p T d ≡ 1

pub levels-start : {p : Sizes} (r : ℕ) (gs : ℕ → ℕ) (calls : ℕ → List ℕ) {W T : List ℕ} → ((c : ℕ) → page_of c < p.pages → marked p T c ≡ 0)
    → Levels p r 0 gs calls W T W T
levels-start {p} r gs calls {W} {T} clean =
    record {
      kept = kept_refl p W T;
      found = λ c u h. absurd (let y : ⊥ = omega (arith, clean c u) in y);
      lost = λ c u h. (refl, λ l lt. absurd (let y : ⊥ = omega arith in y));
      closed = λ b f d u h. absurd (let y : ⊥ = omega (arith, clean b (begins-page _ _ _ _ u)) in y);
    }

module _ {p : Sizes} {r n : ℕ} {gs : ℕ → ℕ} {calls : ℕ → List ℕ} {W₀ T₀ W T W' T' : List ℕ} {m : ℕ} (s₀ : Shaped p W₀ T₀)
    (L : Levels p r n gs calls W₀ T₀ W T) (d : Drained p r (gs n) W T (calls n) W' T' m) where
  mono : (c : ℕ) → marked p T c ≡ 1 → marked p T' c ≡ 1
  mono c h = go (in? c d.done)
    where
      go : Dec (In c d.done) → marked p T' c ≡ 1
      go (yes i) = d.marking.on c i
      go (no k) = d.marking.same-mark c k ∙ h

  -- a cell that the drain reached is held from this level
  ours-then : (c : ℕ) → Fresh p r W T c → Ours p r W₀ T₀ c
  ours-then c o =
      let u = in-use-kept L.kept s₀.room c o.0.0 in
      (u, sym (kept-owner L.kept s₀.room c (begins-page _ _ _ _ u)) ∙ o.0.1)

  reach-held : (c : ℕ) → Leads (Fresh p r W T) W (calls n) c → Held p r W₀ T₀ calls n c
  reach-held c (held i o) = held i (ours-then c o)
  reach-held c (via {b = b} q f lt e o) =
      let few : refs_of W b ≤ most_fields = shaped-few d.marking.started b (leads-last q).0.0 in
      via (reach-held b q) f (omega (arith, kept-refs L.kept b)) (sym (kept_field L.kept b f (omega arith)) ∙ e) (ours-then c o)

  next-closed : (b f c : ℕ) → Begins p W₀ T₀ b → marked p T' b ≡ 1 → f < refs_of W₀ b → field_of W₀ b f ≡ 1 + c → owner p T₀ c ≡ r → marked p T' c ≡ 1
  next-closed b f c u h lt e own = go (in? b d.done)
    where
      go : Dec (In b d.done) → marked p T' c ≡ 1
      go (yes i) =
          let few : refs_of W₀ b ≤ most_fields = shaped-few s₀ b u in
          let v = ref-begins p W₀ T₀ (field_of W₀ b f) c ((s₀.objects b u).references f lt) (e ∙ one-add c) in
          d.closed b f c i (omega (arith, kept-refs L.kept b)) (kept_field L.kept b f (omega arith) ∙ e)
          (kept-owner L.kept s₀.room c (begins-page _ _ _ _ v) ∙ own)
      go (no k) = mono c (L.closed b f c u (sym (d.marking.same-mark b k) ∙ h) lt e own)

  -- what this level holds is marked
  held-marked : (c : ℕ) → Held p r W₀ T₀ calls n c → marked p T' c ≡ 1
  held-marked c (held i o) = d.all_held c i (kept-owner L.kept s₀.room c (begins-page _ _ _ _ o.0) ∙ o.1)
  held-marked c (via {b = b} q f lt e o) = next-closed b f c (leads-last q).0 (held-marked b q) lt e o.1

  pub levels-next : Levels p r (n + 1) gs calls W₀ T₀ W' T'
  levels-next =
      record {
        kept = kept_trans L.kept d.marking.kept;
        found = λ c u h. found' c u h (in? c d.done);
        lost = λ c u h. lost' c u h (in? c d.done);
        closed = next-closed;
      }
    where
      found' : (c : ℕ) → page_of c < p.pages → marked p T' c ≡ 1 → Dec (In c d.done) → (l : ℕ) × First p r W₀ T₀ calls (n + 1) c l × (work_of W' c ≡ gs l)
      found' c u h (yes i) =
          let q = d.marking.reached c i in
          (n, record { below = omega arith; reached = reach-held c q; none = (L.lost c u (leads-last q).1).1 }, d.marking.done c i)
      found' c u h (no k) =
          let q = L.found c u (sym (d.marking.same-mark c k) ∙ h) in
          (q.0, record { below = omega (arith, q.1.below); reached = q.1.reached; none = q.1.none }, d.marking.same-work c k ∙ q.2)

      lost' : (c : ℕ) → page_of c < p.pages → marked p T' c ≡ 0 → Dec (In c d.done) → (work_of W' c ≡ work_of W₀ c) × ((l : ℕ) → l < n + 1 → Held p r W₀ T₀ calls l c → ⊥)
      lost' c u h (yes i) = absurd (let y : ⊥ = omega (arith, d.marking.on c i) in y)
      lost' c u h (no k) =
          let q = L.lost c u (sym (d.marking.same-mark c k) ∙ h) in
          (d.marking.same-work c k ∙ q.0, upto n {X = λ l. Held p r W₀ T₀ calls l c → ⊥} q.1 (λ h'. omega (arith, held-marked c h')))

pub levels-at : {p : Sizes} {r n m : ℕ} {gs : ℕ → ℕ} {calls : ℕ → List ℕ} {W₀ T₀ W T : List ℕ} → n ≡ m → Levels p r n gs calls W₀ T₀ W T → Levels p r m gs calls W₀ T₀ W T
levels-at {p} {r} {gs = gs} {calls} {W₀} {T₀} {W} {T} e L = subst (λ (k : ℕ). Levels p r k gs calls W₀ T₀ W T) e L

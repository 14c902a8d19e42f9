-- The words that the stages of an end leave, once its pages are given back, are those after an accepted end.
use Rattle.std.specs.Prelude.{◌≡◌, refl, ◌≢◌, ◌⊎◌, List, ℕ, ◌+◌, ◌≤◌, ◌<◌, length, get_or}
use Rattle.std.proofs.Common.{sym, ap, subst, ◌∙◌, inl, inr, ⊎_elim, arith}
use Rattle.std.proofs.Math.Decide.{dec_lt}
use Rattle.lists.specs.Stores.{drop-same}
use Rattle.rules.specs.declared.Sizes.{Sizes}
use Rattle.laws.specs.SameRules.{renamed}
use Rattle.layout.specs.Places.{Room, depth_at, var_at, owner_at, used_at, mark_at, count_at, var_of, owner_of, used_of, mark_of, cells_words, remember_words, tables_words, count_room, owners_from, vars_from, made_at, freed_at, var_count}
use Rattle.layout.specs.Cells.{head_at, work_at, field_at, head_of, field_of, room_for, cell_named, page_of, cell_on, cell_of, page_at, page-on, page-at, work-cell}
use Rattle.layout.specs.Objects.{InUse, in-use?, in-use-same, begins-page, begins-same, begins-back, begins-used, begins-there, field-on}
use Rattle.layout.specs.Words.{Words, words, Begins, Names, owner_in, head_in, ref_count}
use Rattle.remember.specs.Renewed.{Renewed}
use Rattle.promises.specs.Whole.{Open, UnusedWhole}
use Rattle.promises.specs.Reading.{ref-room}
use Rattle.promises.specs.StandsFor.{SameFrom}
use Rattle.promises.specs.Ends.{Part, Outside, Survivor, Lives, outside-lives, survivor-lives, lives-how}
use Rattle.mark.specs.Marks.{page-unmarked}
use Rattle.promises.specs.Regular.{Regular, regular-same}
use Rattle.copy.specs.Taking.{room-same}
use Rattle.settle.specs.Rewrite.{forward-same, link-same, begins-now, begins-then}
use Rattle.settle.specs.RewriteSlots.{Variables}
use Rattle.release.specs.Release.{Blank, Alike}
use Rattle.ended.specs.Evacuated.{Placement, Evacuated, Vacated}
use Rattle.mark.specs.MarkedWords.{table_same, var-same}
use Rattle.ending.specs.Placing.{Placing, LiveSlot, placed-page, outside-home, live-low}
use Rattle.ending.specs.Crossing.{Told, told-later, told-whole}
use Rattle.ending.specs.Copied.{HasMoved, placed, placing, forwarded-placed, placed-out, placed-only}
use Rattle.ending.specs.Rewriting.{copies-live, held-live, HasRewritten, slot-after, rest-after, head-after, work-after, unused-after}

-- two lists of one length with the same words from n on
pub same_from : (n : ℕ) (l k : List ℕ) → length k ≡ length l → ((x : ℕ) → n ≤ x → get_or k x 0 ≡ get_or l x 0) → SameFrom n l k
same_from n l k e h = record { long = e; rest = drop-same n l k e (λ x z. h x z) }

-- ---- the variables

module _ {s : Sizes} {w w₁ : Words} {e : Part} {W T : List ℕ} (h : HasMoved s w w₁ e W T) where
  variable-same : (i : ℕ) → i < var_count s → var_of s T i ≡ var_of s w.tables i
  variable-same i l = h.forwards.copying.rest (var_at s i) (inl (omega (arith, h.room))) ∙ var-same h.marks h.room i l

  pub variables-ask : (i : ℕ) → i < var_count s → Names s (var_of s T i)
  variables-ask i l =
      subst (Names s) (sym (variable-same i l))
      (λ n. begins-page _ _ _ _ (h.keeps.variables i (cell_named (var_of s w.tables i)) l (omega arith)).used)

  -- their rewriting leaves the pages and the counts as the copy left them, and what comes before them as it was
  module _ {X T₂ : List ℕ} (Y : Variables s (var_count s) X T T₂) where
    tables-room : Room s (length T)
    tables-room = h.ready.room

    pub owner₂ : (page : ℕ) → page < s.pages → owner_of s T₂ page ≡ owner_of s T page
    owner₂ page l = Y.same (owner_at s page) (λ z. omega (arith, tables-room))

    pub used₂ : (page : ℕ) → page < s.pages → used_of s T₂ page ≡ used_of s T page
    used₂ page l = Y.same (used_at s page) (λ z. omega (arith, tables-room))

    pub room₂ : Room s (length T₂)
    room₂ = room-same Y.size tables-room

    pub regular₂ : Regular s T₂
    regular₂ = regular-same (λ page l. record { owner = owner₂ page l; used = used₂ page l }) (λ g pos low. Y.same (count_at s g) (λ z. omega (arith, tables-room))) h.ready.regular

    pub word₂ : (x : ℕ) → (vars_from s ≤ x → made_at s ≤ x) → get_or T₂ x 0 ≡ get_or w.tables x 0
    word₂ x n = far (dec_lt x (vars_from s))
      where
        far : Dec (x < vars_from s) → get_or T₂ x 0 ≡ get_or w.tables x 0
        far (yes l) =
            Y.same x (λ z. omega arith) ∙ h.forwards.copying.rest x (inl (omega (arith, tables-room))) ∙ table_same h.marks h.room x (λ z. omega (arith, tables-room))
        far (no l) =
            let m : made_at s ≤ x = n (omega arith) in
            Y.same x (λ z. omega (arith, tables-room)) ∙ h.forwards.copying.rest x (inr m) ∙ table_same h.marks h.room x (λ z. omega (arith, tables-room))

-- ---- the release

-- The pages of the part are given back: they are blank, the other pages and every word but depths, counts and the freed objects are as they
-- were, and the regions of the objects that live on are open. The cells in use on them are zero, and every other cell is as it was.
pub record GaveBack (s : Sizes) (w : Words) (e : Part) (W T W' T' : List ℕ) : Type 0 where
  pub size : length T' ≡ length T
  pub regular : Regular s T'
  pub blank : (page : ℕ) → page < s.pages → e.ends page → Blank s T' page
  pub alike : (page : ℕ) → page < s.pages → (e.ends page → ⊥) → Alike s T T' page
  pub rest : (x : ℕ) → (depth_at 0 ≤ x → vars_from s ≤ x) → (owners_from s ≤ x → made_at s ≤ x) → x ≢ freed_at s → get_or T' x 0 ≡ get_or T x 0
  pub outside : (c : ℕ) → Outside s w e c → 1 < owner_in s w (page_of c) → Open s T' (owner_in s w (page_of c))
  pub survivor : (c : ℕ) → Survivor s w e c → 1 < e.goes c → Open s T' (e.goes c)
  pub cells-size : length W' ≡ length W
  pub emptied : (q : ℕ) → e.ends (page_at q) → InUse s T (cell_of q) → get_or W' q 0 ≡ 0
  pub kept : (q : ℕ) → (e.ends (page_at q) → InUse s T (cell_of q) → ⊥) → get_or W' q 0 ≡ get_or W q 0

module _ {s : Sizes} {w w₁ : Words} {e : Part} {W T : List ℕ} {S : ℕ → Type 0} {W' : List ℕ} (k : HasRewritten s w w₁ e W T S W')
    {E : ℕ → ℕ → Type 0} (told : Told s w e (words W w.remember T) (placed W) (Lives s w e) E) {M' : List ℕ} (U : Renewed E s.entries w.remember M')
    {T₂ : List ℕ} (Y : Variables s (var_count s) W' T T₂) {W'' T' : List ℕ} (Z : GaveBack s w e W' T₂ W'' T') where
  abbrev w' : Words
  w' = words W'' M' T'

  h : HasMoved s w w₁ e W T
  h = k.moved

  -- ---- the objects

  -- a page that does not end
  owner-end : (page : ℕ) → page < s.pages → (e.ends page → ⊥) → owner_of s T' page ≡ owner_of s T page
  owner-end page l n = (Z.alike page l n).owner ∙ owner₂ h Y page l

  used-end : (page : ℕ) → page < s.pages → (e.ends page → ⊥) → used_of s T' page ≡ used_of s T page
  used-end page l n = (Z.alike page l n).used ∙ used₂ h Y page l

  word_end : (q : ℕ) {page : ℕ} → page_at q ≡ page → (e.ends page → ⊥) → get_or W'' q 0 ≡ get_or W' q 0
  word_end q z n = Z.kept q (λ y u. n (subst e.ends z y))

  head-end : (d : ℕ) {page : ℕ} → page_of d ≡ page → (e.ends page → ⊥) → head_of W'' d ≡ head_of W' d
  head-end d z n = word_end (head_at d) (omega (arith, z)) n

  to_end : (d : ℕ) → Begins s W' T d → (e.ends (page_of d) → ⊥) → Begins s W'' T' d
  to_end d u n = begins-same s W' T W'' T' d (used-end (page_of d) (begins-page s W' T d u) n) (λ x b z. head-end x z n) u

  from_end : (d : ℕ) → Begins s W'' T' d → Begins s W' T d × (e.ends (page_of d) → ⊥)
  from_end d u = (begins-back s W' T W'' T' d (used-end (page_of d) l out) (λ x b z. head-end x z out) u, out)
    where
      l : page_of d < s.pages
      l = begins-page s W'' T' d u

      out : e.ends (page_of d) → ⊥
      out z = omega (arith, (begins-used s W'' T' d u).place, (Z.blank (page_of d) l z).used)

  home-end : (x : ℕ) → Lives s w e x → owner_of s T' (page_of (placed W x)) ≡ owner_of s T (page_of (placed W x))
  home-end x l = owner-end (page_of (placed W x)) (placed-page (placing h) x l) (placed-out h x l)

  placement : Placement s w e w' (placed W)
  placement =
      let p = (placing h).placement in
      record {
        used = λ x l. to_end (placed W x) (begins-now k.cells s T (placed W x) (p.used x l)) (placed-out h x l);
        head = λ x l. head-end (placed W x) refl (placed-out h x l) ∙ head-after k x l;
        stayed = λ x o.
            let z = (p.stayed x o).same in
            record { same = z; owner = ap (λ (d : ℕ). owner_of s T' (page_of d)) (sym z) ∙ home-end x (outside-lives o) ∙ outside-home (placing h) x o };
        went = λ x v. home-end x (survivor-lives v) ∙ p.went x v;
        apart = p.apart;
      }

  ended : Placing s w e w' (placed W)
  ended = record { whole = h.whole; keeps = h.keeps; placement = placement }

  -- there is no other
  only : (d : ℕ) → Begins s W'' T' d → (x : ℕ) × Lives s w e x × (placed W x ≡ d)
  only d u = let v = from_end d u in placed-only h d (begins-then k.cells s T d v.0) v.1

  -- the words of one that lives on are on a page that does not end
  field_end : (x f : ℕ) → Lives s w e x → f < room_for (head_in w x) → field_of W'' (placed W x) f ≡ field_of W' (placed W x) f
  field_end x f l m =
      let p = (placing h).placement in
      word_end (field_at (placed W x) f) (field-on s W T (placed W x) (p.used x l) f (subst (λ (n : ℕ). f < room_for n) (sym (p.head x l)) m)) (placed-out h x l)

  slot-end : (x f : ℕ) → Lives s w e x → f < ref_count w x → field_of W'' (placed W x) f ≡ renamed (placed W) (field_of w.cells x f)
  slot-end x f l m = field_end x f l (ref-room s w h.whole x f l.used m) ∙ slot-after k x f l m

  -- cells that are not in use: those given back are cleared, the others were not in use before
  unused-end : UnusedWhole s w'
  unused-end q n = go (e.ends? (page_at q)) (in-use? s T (cell_of q))
    where
      before : (InUse s T (cell_of q) → ⊥) → get_or W'' q 0 ≡ 0
      before m = Z.kept q (λ z u. m (in-use-same (λ page l. sym (used₂ h Y page l)) (cell_of q) u)) ∙ unused-after k q (record { low = n.low; unused = m })

      go : Dec (e.ends (page_at q)) → Dec (InUse s T (cell_of q)) → get_or W'' q 0 ≡ 0
      go (yes z) (yes u) = Z.emptied q z (in-use-same (used₂ h Y) (cell_of q) u)
      go (no m) (yes u) = absurd (n.unused (record { page = u.page; place = omega (arith, u.place, used-end (page_at q) u.page m) }))
      go (yes z) (no m) = before m
      go (no z) (no m) = before m

  -- ---- all of it

  page-open : (page : ℕ) → page < s.pages → 1 < owner_of s T' page → Open s T' (owner_of s T' page)
  page-open page l p =
      let o = only (cell_on page 0) (begins-there s W'' T' page 0 l (omega arith) ((Z.regular.pages page l).taken (omega arith))) in
      go o.0 (ap (owner_of s T') (sym (page-on page 0 (omega arith))) ∙ ap (λ (d : ℕ). owner_of s T' (page_of d)) (sym o.2)) (lives-how o.1)
    where
      go : (x : ℕ) → owner_of s T' page ≡ owner_of s T' (page_of (placed W x)) → Outside s w e x ⊎ Survivor s w e x → Open s T' (owner_of s T' page)
      go x own (inl o) = let z = own ∙ outside-home ended x o in subst (Open s T') (sym z) (Z.outside x o (omega arith))
      go x own (inr v) = let z = own ∙ placement.went x v in subst (Open s T') (sym z) (Z.survivor x v (omega arith))

  marks-end : (page : ℕ) → page < s.pages → mark_of s T' page ≡ 0
  marks-end page l = go (e.ends? page)
    where
      go : Dec (e.ends page) → mark_of s T' page ≡ 0
      go (yes z) = (Z.blank page l z).marks
      go (no n) =
          (Z.alike page l n).marks ∙ Y.same (mark_at s page) (λ z. omega (arith, h.ready.room))
          ∙ h.clean page l
          (page-unmarked s w₁.tables page (h.marks.small page l)
          (λ x z o. n (subst e.ends z (h.marks.only x (subst (λ (q : ℕ). q < s.pages) (sym z) l) o).1)))

  far : (x : ℕ) → cells_words s ≤ x → get_or W'' x 0 ≡ get_or w.cells x 0
  far x l =
      Z.kept x (λ z u. omega (arith, page-at s x u.page))
      ∙ k.cells.same x (⊎_elim (λ q. low (held-live h k.holding x q)) (λ q. low (copies-live h x q))) ∙ h.forwards.copying.beyond x l
      ∙ h.marks.cells x (λ d z u o. omega (arith, begins-page _ _ _ _ u))
    where
      low : LiveSlot s w e (placed W) x → ⊥
      low q = omega (arith, live-low ended x q)

  -- a word of the tables before the depths or after the tables
  same_word : (x : ℕ) → (depth_at 0 ≤ x → tables_words s ≤ x) → get_or T' x 0 ≡ get_or w.tables x 0
  same_word x n =
      let far : depth_at 0 ≤ x → made_at s + 2 ≤ x = λ z. omega (arith, n z, count_room s) in
      Z.rest x (λ z. omega (arith, far z, h.ready.room)) (λ z. omega (arith, far (omega (arith, h.ready.room)))) (λ z. omega (arith, far (omega (arith, z, h.ready.room))))
      ∙ word₂ h Y x (λ z. omega (arith, far (omega arith)))

  pub vacated : Vacated s e w'
  vacated page l z = (Z.blank page l z).owner

  pub evacuated : Evacuated s w e w' (placed W)
  evacuated =
      record {
        beyond =
            record {
              cells = same_from (cells_words s) w.cells W'' (Z.cells-size ∙ k.cells.size ∙ h.forwards.copying.cells-size ∙ h.marks.kept.cells-length) far;
              remember = same_from (remember_words s) w.remember M' U.edited.long U.edited.spare;
              tables =
                  same_from (tables_words s) w.tables T' (Z.size ∙ Y.size ∙ h.forwards.copying.tables-size ∙ h.marks.kept.tables-length) (λ x l. same_word x (λ z. l));
            };
        sizes = λ j l. same_word j (λ z. omega arith);
        entries = U.edited.size;
        variables = λ i l.
            let room = h.ready.room in
            Z.rest (var_at s i) (λ z. omega arith) (λ z. omega (arith, room)) (λ z. omega (arith, room))
            ∙ Y.moved i l ∙ forward-same W W' (var_of s T i) (link-same k.cells (cell_named (var_of s T i))) ∙ forwarded-placed W (var_of s T i)
            ∙ ap (renamed (placed W)) (variable-same h i l);
        placement = placement;
        object = λ x l.
            record {
              references = λ f m. slot-end x f l m;
              others = λ f ge m. field_end x f l m ∙ rest-after k x f l ge m;
              working = word_end (work_at (placed W x)) (ap page_of (work-cell (placed W x))) (placed-out h x l) ∙ work-after k x l;
            };
        only = only;
        regular = Z.regular;
        owners = page-open;
        marks = marks-end;
        remember = told-whole ended slot-end only (told-later (placing h) ended home-end told) U;
        unused = unused-end;
      }

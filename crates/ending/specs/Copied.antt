-- Survivors are copied: each object that lives on has a cell then, the one that it had outside the part, a survivor its copy. It is read off
-- word 1.
use Rattle.std.specs.Prelude.{◌≡◌, refl, ◌≢◌, ◌⊎◌, List, ℕ, zero, suc, ◌+◌, ◌<◌, length, get_or}
use Rattle.std.proofs.Common.{sym, ap, subst, ◌∙◌, inl, inr, ⊎_elim, arith}
use Rattle.std.proofs.Math.Decide.{ℕ_discrete}
use Rattle.rules.specs.declared.Sizes.{Sizes}
use Rattle.laws.specs.SameRules.{renamed}
use Rattle.layout.specs.Places.{Room, owner_of, mark_of}
use Rattle.layout.specs.Cells.{head_at, field_at, word_at, head_of, work_of, field_of, cell_named, ref_to, page_of, cell_of, cell_on, room_for, most_fields, cell_words, most-is, room_most, page-on}
use Rattle.layout.specs.Marks.{marked, mark?}
use Rattle.layout.specs.Objects.{InUse, unused-back, begins-page, begins-used, begins-there, work-used}
use Rattle.layout.specs.Words.{Words, words, Begins, BeginsIn, owner_in, head_in}
use Rattle.promises.specs.Whole.{UnusedWhole, WholeFor}
use Rattle.promises.specs.Ends.{Part, Outside, Survivor, Lives, outside-lives, survivor-lives, lives-how}
use Rattle.mark.specs.Marks.{kept-head, kept_field, kept-in-use, in-use-kept}
use Rattle.mark.specs.Survivors.{Marked}
use Rattle.copy.specs.Passing.{Ready}
use Rattle.copy.specs.Forward.{Forwards, Moved, forward}
use Rattle.settle.specs.Rewrite.{forwarded, forward-null, forward-still, forward-moved}
use Rattle.ended.specs.Living.{KeepsNamed}
use Rattle.ending.specs.Placing.{Placing}
use Rattle.mark.specs.MarkedWords.{marked-survivor, outside-work, owner-same, used-same}

-- What copying asks of the part: its pages have owners, and its survivors go to regions that do not end.
pub record Sends (s : Sizes) (w : Words) (e : Part) : Type 0 where
  pub owned : (page : ℕ) → page < s.pages → e.ends page → 0 < owner_in s w page
  pub away : (c page : ℕ) → Survivor s w e c → page < s.pages → e.ends page → owner_in s w page ≢ e.goes c

-- w is whole, the survivors of its part e are marked in w₁, and have been copied in W and T
pub record HasMoved (s : Sizes) (w w₁ : Words) (e : Part) (W T : List ℕ) : Type 0 where
  pub whole : WholeFor s w
  pub room : Room s (length w.tables)
  pub keeps : KeepsNamed s w e
  pub sends : Sends s w e
  pub marks : Marked s w e w₁
  pub forwards : Forwards s w₁.cells w₁.tables W T
  pub ready : Ready s W T
  pub clean : (page : ℕ) → page < s.pages → mark_of s w₁.tables page ≡ 0 → mark_of s T page ≡ 0

-- ---- the cell of an object, by word 1

unfoldable pub placed : List ℕ → ℕ → ℕ
placed W c = cell_named (forwarded W (ref_to c))

pub placed-still : (W : List ℕ) (c : ℕ) → work_of W c ≡ 0 → placed W c ≡ c
unfolding placed
placed-still W c e =
    let z : cell_named (ref_to c) ≡ c = omega arith in
    ap cell_named (forward-still W (ref_to c) (ap (work_of W) z ∙ e)) ∙ z

pub placed-moved : (W : List ℕ) (c d : ℕ) → work_of W c ≡ suc d → placed W c ≡ d
unfolding placed
placed-moved W c d e =
    let z : cell_named (ref_to c) ≡ c = omega arith in
    let v : work_of W (cell_named (ref_to c)) ≡ suc d = ap (work_of W) z ∙ e in
    ap cell_named (forward-moved W (ref_to c) (λ y. omega arith) (λ y. omega arith) ∙ v) ∙ omega arith

-- a reference is forwarded to the cell of what it names
pub forwarded-placed : (W : List ℕ) (x : ℕ) → forwarded W x ≡ renamed (placed W) x
unfolding placed
forwarded-placed W zero = forward-null W zero refl
forwarded-placed W (suc c) = go (ℕ_discrete (work_of W c) 0)
  where
    z : ref_to c ≡ suc c
    z = omega arith

    v : work_of W (cell_named (suc c)) ≡ work_of W c
    v = ap (work_of W) (let y : cell_named (suc c) ≡ c = omega arith in y)

    go : Dec (work_of W c ≡ 0) → forwarded W (suc c) ≡ suc (cell_named (forwarded W (ref_to c)))
    go (yes e) = let f = forward-still W (suc c) (v ∙ e) in omega (arith, f, ap (forwarded W) z)
    go (no n) = let f = forward-moved W (suc c) (λ y. omega arith) (λ y. n (sym v ∙ y)) in omega (arith, f, v, ap (forwarded W) z)

-- ---- after the copy

module _ {s : Sizes} {w w₁ : Words} {e : Part} {W T : List ℕ} (h : HasMoved s w w₁ e W T) where
  -- ---- the objects of before

  pub still-used : (c : ℕ) → BeginsIn s w c → BeginsIn s w₁ c
  still-used = kept-in-use h.marks.kept h.room

  -- they are in their cells still, on pages of their owners
  old-used : (c : ℕ) → BeginsIn s w c → Begins s W T c
  old-used c u = h.forwards.copying.keeps c (still-used c u)

  old-owner : (c : ℕ) → BeginsIn s w c → owner_of s T (page_of c) ≡ owner_in s w (page_of c)
  old-owner c u = h.forwards.copying.owner c (still-used c u) ∙ owner-same h.marks h.room (page_of c) (begins-page _ _ _ _ u)

  -- so an ending page, which is in use, keeps its owner
  pub page-kept : (page : ℕ) → page < s.pages → e.ends page → owner_of s T page ≡ owner_in s w page
  page-kept page l z =
      subst (λ (q : ℕ). owner_of s T q ≡ owner_in s w q) (page-on page 0 (omega arith))
      (old-owner (cell_on page 0) (begins-there s w.cells w.tables page 0 l (omega arith) ((h.whole.pages page l).filled.taken (h.sends.owned page l z))))

  module _ (c : ℕ) (o : Outside s w e c) where
    off : marked s w₁.tables c ≡ 0
    off = ⊎_elim (λ z. z) (λ on. absurd (o.out (h.marks.only c (begins-page _ _ _ _ o.used) on).1)) (mark? s w₁.tables c)

    pub outside-idle : work_of W c ≡ 0
    outside-idle = h.forwards.copying.links c (still-used c o.used) off ∙ outside-work h.marks h.whole c o

    outside-still : placed W c ≡ c
    outside-still = placed-still W c outside-idle

  module _ (c : ℕ) (v : Survivor s w e c) where
    pub on : marked s w₁.tables c ≡ 1
    on = h.marks.survives c v.used v.within v.goes

    pub copy : Moved s w₁.cells w₁.tables W T c (forward W c)
    copy = h.forwards.moved c (begins-page _ _ _ _ v.used) on

    pub survivor-forward : work_of W c ≡ suc (forward W c)
    survivor-forward = omega (arith, copy.forward)

    pub survivor-placed : placed W c ≡ forward W c
    survivor-placed = placed-moved W c (forward W c) survivor-forward

    survivor-fresh : BeginsIn s w (forward W c) → ⊥
    survivor-fresh u = copy.new (begins-used s w₁.cells w₁.tables (forward W c) (still-used (forward W c) u))

    survivor-owner : owner_of s T (page_of (forward W c)) ≡ e.goes c
    survivor-owner = copy.home ∙ h.marks.goes c v.used v.within

    -- its new page does not end, since an ending page keeps its owner
    survivor-out : e.ends (page_of (forward W c)) → ⊥
    survivor-out z =
        let l = begins-page s W T (forward W c) copy.used in
        h.sends.away c (page_of (forward W c)) v l z (sym (page-kept (page_of (forward W c)) l z) ∙ survivor-owner)

  -- ---- any object that lives on

  by_kind : (X : ℕ → Type 0) (c : ℕ) → (Outside s w e c → X c) → (Survivor s w e c → X (forward W c)) → Lives s w e c → X (placed W c)
  by_kind X c f g l = ⊎_elim (λ o. subst X (sym (outside-still c o)) (f o)) (λ v. subst X (sym (survivor-placed c v)) (g v)) (lives-how l)

  module _ (c : ℕ) (l : Lives s w e c) where
    pub placed-out : e.ends (page_of (placed W c)) → ⊥
    placed-out = by_kind (λ d. e.ends (page_of d) → ⊥) c (λ o. o.out) (survivor-out c) l

    -- the words of an old cell other than word 1 are as they were, and a copy has those of its survivor
    word : (i : ℕ) → i < cell_words → i ≢ 1 → get_or W (word_at (placed W c) i) 0 ≡ get_or w₁.cells (word_at c i) 0
    word i m n =
        by_kind (λ d. get_or W (word_at d i) 0 ≡ get_or w₁.cells (word_at c i) 0) c (λ o. h.forwards.copying.words c i m (still-used c o.used) n)
        (λ v. (copy c v).body i m n) l

    placed-head : head_of W (placed W c) ≡ head_in w c
    placed-head =
        let z : (d : ℕ) → head_at d ≡ word_at d 0 = λ d. omega arith in
        ap (λ (x : ℕ). get_or W x 0) (z (placed W c)) ∙ word 0 (omega arith) (λ y. omega arith) ∙ ap (λ (x : ℕ). get_or w₁.cells x 0) (sym (z c)) ∙ kept-head h.marks.kept c

    pub placed-field : (f : ℕ) → f < room_for (head_in w c) → field_of W (placed W c) f ≡ field_of w.cells c f
    placed-field f m =
        let z : (d : ℕ) → field_at d f ≡ word_at d (2 + f) = λ d. omega arith in
        let most : f < most_fields = omega (arith, room_most (head_in w c)) in
        ap (λ (x : ℕ). get_or W x 0) (z (placed W c)) ∙ word (2 + f) (omega (arith, most, most-is)) (λ y. omega arith) ∙ ap (λ (x : ℕ). get_or w₁.cells x 0) (sym (z c))
        ∙ kept_field h.marks.kept c f most

    pub placed-work : work_of W (placed W c) ≡ 0
    placed-work = by_kind (λ d. work_of W d ≡ 0) c (outside-idle c) (λ v. (copy c v).clear) l

  -- no two of them have one cell
  placed-apart : (b c : ℕ) → Lives s w e b → Lives s w e c → placed W b ≡ placed W c → b ≡ c
  placed-apart b c k l z = go (lives-how k) (lives-how l)
    where
      go : Outside s w e b ⊎ Survivor s w e b → Outside s w e c ⊎ Survivor s w e c → b ≡ c
      go (inl o) (inl q) = sym (outside-still b o) ∙ z ∙ outside-still c q
      go (inl o) (inr v) = absurd (survivor-fresh c v (subst (BeginsIn s w) (sym (outside-still b o) ∙ z ∙ survivor-placed c v) o.used))
      go (inr v) (inl o) = absurd (survivor-fresh b v (subst (BeginsIn s w) (sym (outside-still c o) ∙ sym z ∙ survivor-placed b v) o.used))
      go (inr v) (inr x) =
          h.forwards.once b c (begins-page _ _ _ _ v.used) (on b v) (begins-page _ _ _ _ x.used) (on c x) (sym (survivor-placed b v) ∙ z ∙ survivor-placed c x)

  -- an object off the ending pages is one of them
  pub placed-only : (d : ℕ) → Begins s W T d → (e.ends (page_of d) → ⊥) → (c : ℕ) × Lives s w e c × (placed W c ≡ d)
  placed-only d u n = ⊎_elim old new (h.forwards.only d u)
    where
      old : BeginsIn s w₁ d → (c : ℕ) × Lives s w e c × (placed W c ≡ d)
      old q = let o : Outside s w e d = record { used = in-use-kept h.marks.kept h.room d q; out = n } in (d, outside-lives o, outside-still d o)

      new : (c : ℕ) × (page_of c < s.pages) × (marked s w₁.tables c ≡ 1) × (forward W c ≡ d) → (c : ℕ) × Lives s w e c × (placed W c ≡ d)
      new q = let v = marked-survivor h.marks q.0 q.1 q.2 in (q.0, survivor-lives v, survivor-placed q.0 v ∙ q.3)

  -- cells that are not in use are zero still
  pub copied-unused : UnusedWhole s (words W w.remember T)
  copied-unused q n =
      let c = h.forwards.copying.unused q n in
      let u = unused-back (used-same h.marks h.room) q c.0 in
      c.1
      ∙ h.marks.cells q (λ d z b o. u.unused (subst (λ (i : ℕ). InUse s w.tables (cell_of i)) (sym z) (work-used s w.cells w.tables d b)))
      ∙ h.whole.unused q u

  pub placing : Placing s w e (words W w.remember T) (placed W)
  placing =
      record {
        whole = h.whole;
        keeps = h.keeps;
        placement = record {
          used = λ c. by_kind (Begins s W T) c (λ o. old-used c o.used) (λ v. (copy c v).used);
          head = placed-head;
          stayed = λ c o. record { same = outside-still c o; owner = old-owner c o.used };
          went = λ c v. ap (λ (d : ℕ). owner_of s T (page_of d)) (survivor-placed c v) ∙ survivor-owner c v;
          apart = placed-apart;
        };
      }

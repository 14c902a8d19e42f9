-- What a run of moves means for the objects: the forward reference in word 1 of a survivor's old cell is a one-to-one map from the survivors
-- to cells that were not in use; contents are equal, and nothing else in use is changed.
use Rattle.std.specs.Prelude.{◌≡◌, refl, ◌≢◌, ◌⊎◌, List, ℕ, ◌≤◌, ◌<◌, length, get_or}
use Rattle.std.proofs.Common.{sym, ap, ◌∙◌, subst, inl, inr, ⊎_elim, arith}
use Rattle.std.proofs.Math.Decide.{ℕ_discrete}
use Rattle.rules.specs.declared.Sizes.{Sizes}
use Rattle.layout.specs.Places.{owner_of, owners_from, made_at, cells_words}
use Rattle.layout.specs.Cells.{word_at, work_of, ref_to, cell_named, page_of, cell_of, cell_words, work-cell, page-at}
use Rattle.layout.specs.Marks.{marked}
use Rattle.layout.specs.Objects.{InUse, NotInUse, Begins, begins-used, used-begins, begins-page}
use Rattle.copy.specs.Marks.{copied}
use Rattle.copy.specs.Moves.{Step, step-size, step-rest, step-off, step-on, step-new, step-in-use, step-home, step_keeps, step-owner, step-only, step-link, step_words, step-unused}
use Rattle.copy.specs.Passing.{Ready, Moves, Moves.none, Moves.more, step_back, moves-ready}
use Rattle.copy.specs.Copying.{Plan, Copy, copy-clean, copy-copied}

-- the object of the old cell c stands in cell d
pub record Moved (p : Sizes) (W₀ T₀ W T : List ℕ) (c d : ℕ) : Type 0 where
  pub forward : work_of W c ≡ ref_to d
  pub new : InUse p T₀ d → ⊥
  pub used : Begins p W T d
  pub home : owner_of p T (page_of d) ≡ work_of W₀ c
  pub body : (i : ℕ) → i < cell_words → i ≢ 1 → get_or W (word_at d i) 0 ≡ get_or W₀ (word_at c i) 0
  pub clear : work_of W d ≡ 0

pub record Gone (p : Sizes) (T₀ T : List ℕ) (c : ℕ) : Type 0 where
  pub page : page_of c < p.pages
  pub was : marked p T₀ c ≡ 1
  pub now : marked p T c ≡ 0

pub record Copying (p : Sizes) (W₀ T₀ W T : List ℕ) : Type 0 where
  pub cells-size : length W ≡ length W₀
  pub tables-size : length T ≡ length T₀
  pub rest : (x : ℕ) → (x < owners_from p) ⊎ (made_at p ≤ x) → get_or T x 0 ≡ get_or T₀ x 0
  pub beyond : (x : ℕ) → cells_words p ≤ x → get_or W x 0 ≡ get_or W₀ x 0
  pub keeps : (x : ℕ) → Begins p W₀ T₀ x → Begins p W T x
  pub owner : (x : ℕ) → Begins p W₀ T₀ x → owner_of p T (page_of x) ≡ owner_of p T₀ (page_of x)
  pub back : (x : ℕ) → page_of x < p.pages → marked p T x ≡ 1 → (marked p T₀ x ≡ 1) × (work_of W x ≡ work_of W₀ x)
  pub words : (x i : ℕ) → i < cell_words → Begins p W₀ T₀ x → i ≢ 1 → get_or W (word_at x i) 0 ≡ get_or W₀ (word_at x i) 0
  -- a cell that is not in use was not, and has the same words
  pub unused : (q : ℕ) → NotInUse p T q → NotInUse p T₀ q × (get_or W q 0 ≡ get_or W₀ q 0)
  pub links : (x : ℕ) → Begins p W₀ T₀ x → marked p T₀ x ≡ 0 → work_of W x ≡ work_of W₀ x
  pub moved : (c : ℕ) → Gone p T₀ T c → (d : ℕ) × Moved p W₀ T₀ W T c d
  pub only : (d : ℕ) → Begins p W T d → Begins p W₀ T₀ d ⊎ ((c : ℕ) × Gone p T₀ T c × (work_of W c ≡ ref_to d))
  pub once : (b c : ℕ) → Gone p T₀ T b → Gone p T₀ T c → work_of W b ≡ work_of W c → b ≡ c

pub copying-start : (p : Sizes) (W T : List ℕ) → Copying p W T W T
copying-start p W T =
    record {
      cells-size = refl;
      tables-size = refl;
      rest = λ x h. refl;
      beyond = λ x h. refl;
      keeps = λ x u. u;
      owner = λ x u. refl;
      back = λ x l on. (on, refl);
      words = λ x i l u n. refl;
      unused = λ q n. (n, refl);
      links = λ x u off. refl;
      moved = λ c h. absurd (let z : ⊥ = omega (arith, h.was, h.now) in z);
      only = λ d u. inl u;
      once = λ b c h. absurd (let z : ⊥ = omega (arith, h.was, h.now) in z);
    }

module _ {p : Sizes} {g q e : ℕ} {W₀ T₀ W T W' T' : List ℕ} (a₀ : Ready p W₀ T₀) (a : Ready p W T) (h : Copying p W₀ T₀ W T)
    (s : Step p g q e W T W' T') where
  page : page_of e < p.pages
  page = begins-page p W T e s.can.used

  was-on : marked p T₀ e ≡ 1
  was-on = (h.back e page s.can.on).0

  old-used : Begins p W₀ T₀ e
  old-used = a₀.used e page was-on

  -- gone before, if it is not e
  before : (c : ℕ) → Gone p T₀ T' c → c ≢ e → Gone p T₀ T c
  before c w ne = record { page = w.page; was = w.was; now = sym (step-on s c w.page ne) ∙ w.now }

  used-now : (c : ℕ) → page_of c < p.pages → marked p T₀ c ≡ 1 → Begins p W T c
  used-now c l on = h.keeps c (a₀.used c l on)

  after : (c d : ℕ) → Gone p T₀ T c → c ≢ e → Moved p W₀ T₀ W T c d → Moved p W₀ T₀ W' T' c d
  after c d w ne m =
      let apart : d ≢ e = (λ z. m.new (subst (InUse p T₀) (sym z) (begins-used p W₀ T₀ e old-used))) in
      record {
        forward = step-link s c (used-now c w.page w.was) ne ∙ m.forward;
        new = m.new;
        used = step_keeps s d m.used;
        home = step-owner s d m.used ∙ m.home;
        body = λ i l n. step_words s d i l m.used (λ z. n) ∙ m.body i l n;
        clear = step-link s d m.used apart ∙ m.clear;
      }

  here : Moved p W₀ T₀ W' T' e s.new
  here =
      record {
        forward = s.copied.forward;
        new = λ u. step-new s (begins-used p W T s.new (h.keeps s.new (used-begins p W₀ T₀ s.new u)));
        used = step-in-use s;
        home = step-home s ∙ sym s.can.target ∙ (h.back e page s.can.on).1;
        body = λ i l n. s.copied.body i l n ∙ h.words e i l old-used n;
        clear = s.copied.clear;
      }

  not-e : (c : ℕ) → Gone p T₀ T c → c ≢ e
  not-e c w z = let on : marked p T c ≡ 1 = subst (λ (x : ℕ). marked p T x ≡ 1) (sym z) s.can.on in omega (arith, w.now)

  still : (c : ℕ) → Gone p T₀ T c → Gone p T₀ T' c
  still c w = record { page = w.page; was = w.was; now = step-on s c w.page (not-e c w) ∙ w.now }

  -- a reference to the new cell is e's alone
  alone : (c : ℕ) → Gone p T₀ T c → work_of W' c ≡ work_of W' e → ⊥
  alone c w z =
      let m = h.moved c w in
      let f : work_of W c ≡ ref_to m.0 = m.1.forward in
      let f' : work_of W' c ≡ work_of W c = step-link s c (used-now c w.page w.was) (not-e c w) in
      let y : m.0 ≡ s.new = omega (arith, s.copied.forward) in
      step-new s (subst (InUse p T) y (begins-used p W T m.0 m.1.used))

  pub copying-step : Copying p W₀ T₀ W' T'
  copying-step =
      record {
        cells-size = s.copied.size ∙ h.cells-size;
        tables-size = step-size s ∙ h.tables-size;
        rest = λ x w. step-rest s x w ∙ h.rest x w;
        beyond = λ x l.
            s.copied.same x (λ z. omega (arith, page-at p x (subst (λ (y : ℕ). page_of y < p.pages) (sym (ap cell_of z ∙ work-cell e)) page)))
            (λ z. omega (arith, page-at p x (subst (λ (y : ℕ). page_of y < p.pages) (sym z) (begins-page p W' T' s.new (step-in-use s)))))
            ∙ h.beyond x l;
        keeps = λ x u. step_keeps s x (h.keeps x u);
        owner = λ x u. step-owner s x (h.keeps x u) ∙ h.owner x u;
        back = λ x l on. let u = step_back a s x l on in let v = h.back x l u.0 in (v.0, u.1 ∙ v.1);
        words = λ x i l u n. step_words s x i l (h.keeps x u) (λ z. n) ∙ h.words x i l u n;
        unused = λ q n. let u = step-unused s q n in let v = h.unused q u.0 in (v.0, u.1 ∙ v.1);
        links = λ x u off.
            step-link s x (h.keeps x u)
            (λ z. let on : marked p T₀ x ≡ 1 = subst (λ (y : ℕ). marked p T₀ y ≡ 1) (sym z) was-on in omega arith)
            ∙ h.links x u off;
        moved = λ c w. moved' c w (ℕ_discrete c e);
        only = λ d u. ⊎_elim (λ v. was' d (h.only d v)) (λ z. inr (e, gone-e, s.copied.forward ∙ ap (λ (x : ℕ). ref_to x) (sym z))) (step-only s d u);
        once = λ b c v w z. once' b c v w z (ℕ_discrete b e) (ℕ_discrete c e);
      }
    where
      gone-e : Gone p T₀ T' e
      gone-e = record { page = page; was = was-on; now = step-off s }

      moved' : (c : ℕ) → Gone p T₀ T' c → Dec (c ≡ e) → (d : ℕ) × Moved p W₀ T₀ W' T' c d
      moved' c w (yes z) = (s.new, subst (λ (x : ℕ). Moved p W₀ T₀ W' T' x s.new) (sym z) here)
      moved' c w (no n) = let v = before c w n in let m = h.moved c v in (m.0, after c m.0 v n m.1)

      was' : (d : ℕ) → Begins p W₀ T₀ d ⊎ ((c : ℕ) × Gone p T₀ T c × (work_of W c ≡ ref_to d)) → Begins p W₀ T₀ d ⊎ ((c : ℕ) × Gone p T₀ T' c × (work_of W' c ≡ ref_to d))
      was' d (inl u) = inl u
      was' d (inr q) =
          inr (q.0, still q.0 q.1, step-link s q.0 (used-now q.0 q.1.page q.1.was) (not-e q.0 q.1) ∙ q.2)

      once' : (b c : ℕ) → Gone p T₀ T' b → Gone p T₀ T' c → work_of W' b ≡ work_of W' c → Dec (b ≡ e) → Dec (c ≡ e) → b ≡ c
      once' b c v w z (yes x) (yes y) = x ∙ sym y
      once' b c v w z (yes x) (no n) = absurd (alone c (before c w n) (sym z ∙ ap (λ (y : ℕ). work_of W' y) x))
      once' b c v w z (no n) (yes y) = absurd (alone b (before b v n) (z ∙ ap (λ (x : ℕ). work_of W' x) y))
      once' b c v w z (no n) (no m) =
          let v' = before b v n in
          let w' = before c w m in
          h.once b c v' w'
          (sym (step-link s b (used-now b v.page v.was) n) ∙ z ∙ step-link s c (used-now c w.page w.was) m)

pub moves-copying : {p : Sizes} {G : ℕ → Type 0} {n : ℕ} {W T : List ℕ} {m : ℕ} {W' T' : List ℕ} → Ready p W T → Moves p G n W T m W' T' → Copying p W T W' T'
moves-copying {p} {G} {n} {W} {T} a (none l) = copying-start p W T
moves-copying a (more b h u v s) = copying-step a (moves-ready a b) (moves-copying a b) s

-- ---- all survivors

-- the map on references to r's cells, as the words have it after the copy
abbrev pub forward : List ℕ → ℕ → ℕ
forward W c = cell_named (work_of W c)

pub record Forwards (p : Sizes) (W₀ T₀ W T : List ℕ) : Type 0 where
  pub copying : Copying p W₀ T₀ W T
  pub bits : (c : ℕ) → page_of c < p.pages → copied p T c ≡ marked p T₀ c
  pub moved : (c : ℕ) → page_of c < p.pages → marked p T₀ c ≡ 1 → Moved p W₀ T₀ W T c (forward W c)
  pub once : (b c : ℕ) → page_of b < p.pages → marked p T₀ b ≡ 1 → page_of c < p.pages → marked p T₀ c ≡ 1 → forward W b ≡ forward W c → b ≡ c
  pub only : (d : ℕ) → Begins p W T d → Begins p W₀ T₀ d ⊎ ((c : ℕ) × (page_of c < p.pages) × (marked p T₀ c ≡ 1) × (forward W c ≡ d))

pub copy-forwards : {p : Sizes} {n : ℕ} {gs : ℕ → ℕ} {W T W' T' : List ℕ} → Plan p n gs W T → Copy p n gs n W T W' T' → Forwards p W T W' T'
copy-forwards {p} {n} {gs} {W} {T} {W'} {T'} a b =
    record {
      copying = h;
      bits = copy-copied a b;
      moved = λ c l on. moved' c l on;
      once = λ x y lx ox ly oy e.
          h.once x y (gone x lx ox) (gone y ly oy)
          (let u = (moved' x lx ox).forward in let v = (moved' y ly oy).forward in omega arith);
      only = λ d u. ⊎_elim inl (λ q. inr (q.0, q.1.page, q.1.was, omega (arith, q.2))) (h.only d u);
    }
  where
    h : Copying p W T W' T'
    h = moves-copying a.ready b.moves

    gone : (c : ℕ) → page_of c < p.pages → marked p T c ≡ 1 → Gone p T T' c
    gone c l on = record { page = l; was = on; now = copy-clean a b c l }

    moved' : (c : ℕ) → page_of c < p.pages → marked p T c ≡ 1 → Moved p W T W' T' c (forward W' c)
    moved' c l on =
        let m = h.moved c (gone c l on) in
        let e : m.0 ≡ forward W' c = omega (arith, m.1.forward) in
        subst (λ (d : ℕ). Moved p W T W' T' c d) e m.1

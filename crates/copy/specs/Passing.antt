-- Runs of moves: one page, all pages, all targets.
use Rattle.std.specs.Prelude.{◌≡◌, refl, ◌≢◌, List, ℕ, ◌+◌, ◌*◌, ◌≤◌, ◌<◌, length}
use Rattle.std.proofs.Common.{sym, ap, ap₂, ◌∙◌, subst, ⊎_elim, zero-mul, mul-zero, one-mul, arith}
use Rattle.lists.specs.Counting.{sum-change, sum-part, sum-none}
use Rattle.rules.specs.Graph.{pages_of}
use Rattle.rules.specs.declared.Sizes.{Sizes}
use Rattle.rules.specs.Regions.{regions}
use Rattle.layout.specs.Places.{Room, mark_of, cells_words}
use Rattle.layout.specs.Cells.{work_of, page_of, most_cells, page-count, count-page}
use Rattle.layout.specs.Marks.{marked, mark?}
use Rattle.layout.specs.Objects.{Begins, begins-page, cell_count}
use Rattle.promises.specs.Whole.{objects_of}
use Rattle.promises.specs.Regular.{Regular}
use Rattle.promises.specs.OwnedPages.{owned_in}
use Rattle.promises.specs.Arriving.{goes_to, goes_same, goes-yes, goes-no, arriving}
use Rattle.copy.specs.Marks.{copied}
use Rattle.copy.specs.Taking.{Usable, Next, usable}
use Rattle.copy.specs.Moves.{Movable, Step, step_room, step-regular, step-size, step-objects, step-objects-other, step-pages, step-marks, step-off, step-on, step-copied-other, step-bits, step_keeps, step-link}

-- what holds before and after each move
pub record Ready (p : Sizes) (W T : List ℕ) : Type 0 where
  pub room : Room p (length T)
  pub regular : Regular p T
  pub cells-long : cells_words p ≤ length W
  pub used : (c : ℕ) → page_of c < p.pages → marked p T c ≡ 1 → Begins p W T c
  pub waits : (c : ℕ) → page_of c < p.pages → marked p T c ≡ 1 → copied p T c ≡ 0

module _ {p : Sizes} {g q c : ℕ} {W T W' T' : List ℕ} (a : Ready p W T) (s : Step p g q c W T W' T') where
  -- a cell that is marked still
  not-moved : (x : ℕ) → marked p T' x ≡ 1 → x ≢ c
  not-moved x on e = let z : marked p T' c ≡ 1 = subst (λ (y : ℕ). marked p T' y ≡ 1) e on in omega (arith, step-off s)

  pub step_back : (x : ℕ) → page_of x < p.pages → marked p T' x ≡ 1 → (marked p T x ≡ 1) × (work_of W' x ≡ work_of W x)
  step_back x l on =
      let ne : x ≢ c = not-moved x on in
      let was : marked p T x ≡ 1 = sym (step-on s x l ne) ∙ on in
      (was, step-link s x (a.used x l was) ne)

  pub step-ready : Ready p W' T'
  step-ready =
      record {
        room = step_room s;
        regular = step-regular s;
        cells-long = omega (arith, a.cells-long, s.copied.size);
        used = λ x l on. step_keeps s x (a.used x l (step_back x l on).0);
        waits = λ x l on. step-copied-other s x l (not-moved x on) ∙ a.waits x l (step_back x l on).0;
      }

  same-but : (h x : ℕ) → page_of x < p.pages → x ≢ c → marked p T x * goes_to W h x ≡ marked p T' x * goes_to W' h x
  same-but h x l ne =
      ⊎_elim
      (λ off.
      ap (λ (y : ℕ). y * goes_to W h x) off ∙ zero-mul (goes_to W h x)
      ∙ sym (ap (λ (y : ℕ). y * goes_to W' h x) (step-on s x l ne ∙ off) ∙ zero-mul (goes_to W' h x)))
      (λ on. ap₂ (λ (y z : ℕ). y * z) (sym (step-on s x l ne)) (sym (goes_same W W' h x (step-link s x (a.used x l on) ne)))) (mark? p T x)

  gone : (h : ℕ) → marked p T' c * goes_to W' h c ≡ 0
  gone h = ap (λ (y : ℕ). y * goes_to W' h c) (step-off s) ∙ zero-mul (goes_to W' h c)

  sums : (h : ℕ) → arriving p W T h + marked p T' c * goes_to W' h c ≡ arriving p W' T' h + marked p T c * goes_to W h c
  sums h =
      sum-change (λ x. marked p T x * goes_to W h x) (λ x. marked p T' x * goes_to W' h x) c (cell_count p) (page-count c (begins-page _ _ _ _ s.can.used))
      (λ x l ne. same-but h x (count-page x l) ne)

  pub step-arriving : arriving p W' T' g + 1 ≡ arriving p W T g
  step-arriving =
      let one : marked p T c * goes_to W g c ≡ 1 =
      ap (λ (y : ℕ). y * goes_to W g c) s.can.on ∙ one-mul (goes_to W g c) ∙ goes-yes W g c s.can.target in
      omega (arith, sums g, gone g, one)

  pub step-arriving-other : (h : ℕ) → h ≢ g → arriving p W' T' h ≡ arriving p W T h
  step-arriving-other h ne =
      let none : marked p T c * goes_to W h c ≡ 0 =
      ap (λ (y : ℕ). y * goes_to W h c) s.can.on ∙ one-mul (goes_to W h c) ∙ goes-no W h c (λ e. ne (sym e ∙ s.can.target)) in
      omega (arith, sums h, gone h, none)

-- ---- moves to targets of which G holds

-- the place of a survivor in the order of copying: by target region, then by old cell, of which there are at most as many as the largest heap has
abbrev pub order : ℕ → ℕ → ℕ
order g c = most_cells * g + c

-- moves in rising order, from place n on and below m
pub data Moves (p : Sizes) (G : ℕ → Type 0) (n : ℕ) (W T : List ℕ) : ℕ → List ℕ → List ℕ → Type 0 where
  none : {m : ℕ} → n ≤ m → Moves p G n W T m W T
  more : {m k : ℕ} {W' T' W'' T'' : List ℕ} {g q c : ℕ} → Moves p G n W T m W' T' → G g → m ≤ order g c → order g c < k → Step p g q c W' T' W'' T''
      → Moves p G n W T k W'' T''

pub moves-later : {p : Sizes} {G : ℕ → Type 0} {n m k : ℕ} {W T W' T' : List ℕ} → m ≤ k → Moves p G n W T m W' T' → Moves p G n W T k W' T'
moves-later {k = k} l (none h) = none {m = k} (omega arith)
moves-later {k = k} l (more b h u v s) = more {k = k} b h u (omega arith) s

pub moves-append : {p : Sizes} {G : ℕ → Type 0} {n : ℕ} {W T : List ℕ} {m : ℕ} {W' T' : List ℕ} {k : ℕ} {W'' T'' : List ℕ} → Moves p G n W T m W' T' → Moves p G m W' T' k W'' T'' → Moves p G n W T k W'' T''
moves-append a (none h) = moves-later h a
moves-append a (more b h u v s) = more (moves-append a b) h u v s

pub moves-map : {p : Sizes} {G H : ℕ → Type 0} {n : ℕ} {W T : List ℕ} {m : ℕ} {W' T' : List ℕ} → ((g : ℕ) → G g → H g) → Moves p G n W T m W' T' → Moves p H n W T m W' T'
moves-map f (none l) = none l
moves-map f (more {g = g} b h u v s) = more (moves-map f b) (f g h) u v s

pub moves-ready : {p : Sizes} {G : ℕ → Type 0} {n : ℕ} {W T : List ℕ} {m : ℕ} {W' T' : List ℕ} → Ready p W T → Moves p G n W T m W' T' → Ready p W' T'
moves-ready a (none l) = a
moves-ready a (more b h u v s) = step-ready (moves-ready a b) s

pub moves-cells : {p : Sizes} {G : ℕ → Type 0} {n : ℕ} {W T : List ℕ} {m : ℕ} {W' T' : List ℕ} → Moves p G n W T m W' T' → length W' ≡ length W
moves-cells (none l) = refl
moves-cells (more b h u v s) = s.copied.size ∙ moves-cells b

pub moves-tables : {p : Sizes} {G : ℕ → Type 0} {n : ℕ} {W T : List ℕ} {m : ℕ} {W' T' : List ℕ} → Moves p G n W T m W' T' → length T' ≡ length T
moves-tables (none l) = refl
moves-tables (more b h u v s) = step-size s ∙ moves-tables b

pub moves-back : {p : Sizes} {G : ℕ → Type 0} {n : ℕ} {W T : List ℕ} {m : ℕ} {W' T' : List ℕ} → Ready p W T → Moves p G n W T m W' T' → (x : ℕ) → page_of x < p.pages
    → marked p T' x ≡ 1 → (marked p T x ≡ 1) × (work_of W' x ≡ work_of W x)
moves-back a (none z) x l on = (on, refl)
moves-back a (more b h y z s) x l on =
    let u = step_back (moves-ready a b) s x l on in
    let v = moves-back a b x l u.0 in
    (v.0, u.1 ∙ v.1)

pub moves-bits : {p : Sizes} {G : ℕ → Type 0} {n : ℕ} {W T : List ℕ} {m : ℕ} {W' T' : List ℕ} → Moves p G n W T m W' T' → (x : ℕ) → page_of x < p.pages
    → marked p T' x + copied p T' x ≡ marked p T x + copied p T x
moves-bits (none z) x l = refl
moves-bits (more b h y z s) x l = step-bits s x l ∙ moves-bits b x l

-- a page without survivors keeps its mark word
pub moves-marks : {p : Sizes} {G : ℕ → Type 0} {n : ℕ} {W T : List ℕ} {m : ℕ} {W' T' : List ℕ} → Ready p W T → Moves p G n W T m W' T' → (q : ℕ) → q < p.pages
    → ((c : ℕ) → page_of c ≡ q → marked p T c ≡ 1 → ⊥) → mark_of p T' q ≡ mark_of p T q
moves-marks a (none z) q l off = refl
moves-marks a (more {c = c} b h y z s) q l off =
    step-marks s q l (λ e. off c (sym e) (moves-back a b c (begins-page _ _ _ _ s.can.used) s.can.on).0) ∙ moves-marks a b q l off

-- a target of none of the moves
pub record Others (p : Sizes) (h : ℕ) (W T W' T' : List ℕ) : Type 0 where
  pub objects : objects_of p T' h ≡ objects_of p T h
  pub arriving : arriving p W' T' h ≡ arriving p W T h

pub moves-others : {p : Sizes} {G : ℕ → Type 0} {n : ℕ} {W T : List ℕ} {m : ℕ} {W' T' : List ℕ} (h : ℕ) → 1 ≤ h → ((g : ℕ) → G g → h ≢ g) → Ready p W T
    → Moves p G n W T m W' T' → Others p h W T W' T'
moves-others h pos f a (none l) = record { objects = refl; arriving = refl }
moves-others h pos f a (more {g = g} b q l m s) =
    let u = moves-others h pos f a b in
    record {
      objects = step-objects-other s h pos (f g q) ∙ u.objects;
      arriving = step-arriving-other (moves-ready a b) s h (f g q) ∙ u.arriving;
    }

-- the one target of all moves
pub record Spent (p : Sizes) (g : ℕ) (W T W' T' : List ℕ) : Type 0 where
  pub total : objects_of p T' g + arriving p W' T' g ≡ objects_of p T g + arriving p W T g
  pub pages : pages_of (objects_of p T' g) + owned_in p T' 0 p.pages ≡ pages_of (objects_of p T g) + owned_in p T 0 p.pages

pub moves-spent : {p : Sizes} {g n : ℕ} {W T : List ℕ} {m : ℕ} {W' T' : List ℕ} → Ready p W T → Moves p (λ h. h ≡ g) n W T m W' T' → Spent p g W T W' T'
moves-spent a (none l) = record { total = refl; pages = refl }
moves-spent {p} {g} a (more {W' = X} {T' = Y} {W'' = X'} {T'' = Y'} {g = h} {q = o} {c = c} b e l m s) =
    let u = moves-spent a b in
    let s' : Step p g o c X Y X' Y' = subst (λ (z : ℕ). Step p z o c X Y X' Y') e s in
    record {
      total = omega (arith, u.total, step-objects s', step-arriving (moves-ready a b) s');
      pages = step-pages s' ∙ u.pages;
    }

-- ---- a pass: survivors that go to g

pub record Passing (p : Sizes) (g : ℕ) (W T : List ℕ) : Type 0 where
  pub ready : Ready p W T
  pub real : 1 ≤ g
  pub low : g ≤ regions p
  pub enough : pages_of (objects_of p T g + arriving p W T g) ≤ pages_of (objects_of p T g) + owned_in p T 0 p.pages

pub moves-passing : {p : Sizes} {g n m : ℕ} {W T W' T' : List ℕ} → Passing p g W T → Moves p (λ h. h ≡ g) n W T m W' T' → Passing p g W' T'
moves-passing a b =
    let u = moves-spent a.ready b in
    record {
      ready = moves-ready a.ready b;
      real = a.real;
      low = a.low;
      enough = omega (arith, a.enough, u.pages, ap pages_of u.total);
    }

-- a survivor that goes to g counts
pub arriving-some : (p : Sizes) (W T : List ℕ) (g c : ℕ) → page_of c < p.pages → marked p T c ≡ 1 → work_of W c ≡ g → arriving p W T g ≢ 0
arriving-some p W T g c l on e z =
    let one : marked p T c * goes_to W g c ≡ 1 = ap (λ (y : ℕ). y * goes_to W g c) on ∙ one-mul (goes_to W g c) ∙ goes-yes W g c e in
    omega (arith, one, sum-part (λ x. marked p T x * goes_to W g x) c (cell_count p) (page-count c l))

-- where no survivor goes to g none comes
pub none-arriving : (p : Sizes) (W T : List ℕ) (g : ℕ) → ((c : ℕ) → page_of c < p.pages → marked p T c ≡ 1 → work_of W c ≢ g) → arriving p W T g ≡ 0
none-arriving p W T g away =
    sum-none (λ c. marked p T c * goes_to W g c) (cell_count p)
    (λ c l.
    ⊎_elim (λ off. ap (λ (y : ℕ). y * goes_to W g c) off ∙ zero-mul (goes_to W g c))
    (λ on. ap (λ (y : ℕ). marked p T c * y) (goes-no W g c (away c (count-page c l) on)) ∙ mul-zero (marked p T c)) (mark? p T c))

pub passing-usable : {p : Sizes} {g : ℕ} {W T : List ℕ} → Passing p g W T → (c : ℕ) → page_of c < p.pages → marked p T c ≡ 1 → work_of W c ≡ g → Usable p g T
passing-usable {p} {g} {W} {T} a c l on e =
    usable a.ready.regular g a.real (arriving p W T g) (let n : arriving p W T g ≢ 0 = arriving-some p W T g c l on e in omega arith) a.enough

pub passing-movable : {p : Sizes} {g q : ℕ} {W T : List ℕ} → Passing p g W T → (c : ℕ) → page_of c < p.pages → marked p T c ≡ 1 → work_of W c ≡ g → Next p g q T
    → Movable p g q W T c
passing-movable a c l on e n =
    record {
      room = a.ready.room;
      regular = a.ready.regular;
      real = a.real;
      low = a.low;
      next = n;
      cells-long = a.ready.cells-long;
      used = a.ready.used c l on;
      on = on;
      fresh = a.ready.waits c l on;
      target = e;
    }

-- the survivors of which P holds went to g, in the order of their places from n on and below m
pub record Pass (p : Sizes) (g : ℕ) (P : ℕ → Type 0) (n m : ℕ) (W T W' T' : List ℕ) : Type 0 where
  pub moves : Moves p (λ h. h ≡ g) n W T m W' T'
  pub done : (c : ℕ) → P c → page_of c < p.pages → marked p T' c ≡ 1 → work_of W' c ≢ g

-- The survivors are copied: those of one page that go to one target, of all pages, of all targets.
use Rattle.std.specs.Prelude.{◌≡◌, refl, ◌≢◌, List, ℕ, ◌+◌, ◌-◌, ◌%◌, ◌^◌, ◌≤◌, ◌<◌}
use Rattle.std.proofs.Math.Path.{sym, ap₂}
use Rattle.std.proofs.Common.{ap, ◌∙◌, subst, ⊎_elim, arith}
use Rattle.std.proofs.Math.Decide.{ℕ_discrete, dec_lt}
use Rattle.std.specs.Int.Count.{count_trailing_zeros}
use Rattle.lists.specs.Bits.{bit_at, bit-zero, none-high, clear-same, clear-other, Lowest, trailing-low}
use Rattle.lists.specs.SetBits.{lower-bit}
use Rattle.lists.specs.Counting.{sum_more, sum_mono}
use Rattle.rules.specs.Regions.{regions}
use Rattle.rules.specs.Graph.{pages_of}
use Rattle.rules.specs.declared.Sizes.{Sizes}
use Rattle.layout.specs.Places.{mark_of}
use Rattle.layout.specs.Cells.{work_of, page_of, place_of, cell_on, first_on, page_cells, place-low, page-on, place-on, on-page, on-rises, on-above, on_below}
use Rattle.layout.specs.Marks.{marked, mark?}
use Rattle.promises.specs.Whole.{objects_of}
use Rattle.promises.specs.OwnedPages.{owned_in}
use Rattle.promises.specs.Arriving.{arriving, more_pages, region_more, more_below, more-none}
use Rattle.copy.specs.Marks.{copied}
use Rattle.copy.specs.Taking.{Next}
use Rattle.copy.specs.Cursor.{Points, Seeking}
use Rattle.copy.specs.Moves.{Movable, Step, step-off, step-on, step-points}
use Rattle.copy.specs.Passing.{Ready, Moves, Moves.none, Moves.more, order, moves-later, moves-append, moves-map, moves-ready, moves-back, moves-bits, moves-marks, step_back, Others, moves-others, Spent, moves-spent, Passing, moves-passing, arriving-some, none-arriving, passing-usable, passing-movable, Pass}

-- ---- one page

marked-at : (p : Sizes) (T : List ℕ) (q i : ℕ) → i < page_cells → marked p T (cell_on q i) ≡ bit_at (mark_of p T q) i
marked-at p T q i l =
    ap₂ (λ (x y : ℕ). bit_at (mark_of p T x) y) (page-on q i l) (place-on q i l)

-- the survivors on page q that go to g moved, but for those at the bits that are left; the pass is at page
pub record PageMoves (p : Sizes) (g q left page : ℕ) (W T W' T' : List ℕ) : Type 0 where
  pub last : ℕ
  pub moves : Moves p (λ h. h ≡ g) (order g (first_on q)) W T last W' T'
  pub later : (i : ℕ) → i < page_cells → bit_at left i ≡ 1 → last ≤ order g (cell_on q i)
  pub high : last ≤ order g (first_on (q + 1))
  pub points : Points p T' g page
  pub bits : (i : ℕ) → i < page_cells → bit_at left i ≡ 1 → marked p T' (cell_on q i) ≡ 1
  pub done : (i : ℕ) → i < page_cells → bit_at left i ≡ 0 → marked p T' (cell_on q i) ≡ 1 → work_of W' (cell_on q i) ≢ g

pub page-begin : {p : Sizes} {g : ℕ} (q : ℕ) {page : ℕ} {W T : List ℕ} → Points p T g page → PageMoves p g q (mark_of p T q % 2 ^ 16) page W T W T
page-begin {p} {g} q {page} {W} {T} a =
    record {
      last = order g (first_on q);
      moves = none {m = order g (first_on q)} (omega arith);
      later = λ i l e. omega (arith, on-above q i);
      high = omega (arith, on-above q 0, on_below q 0 (omega arith));
      points = a;
      bits = λ i l e. marked-at p T q i l ∙ sym (lower-bit (mark_of p T q) i l) ∙ e;
      done = λ i l e on. absurd (let z : ⊥ = omega (arith, marked-at p T q i l, lower-bit (mark_of p T q) i l) in z);
    }

module _ {p : Sizes} {g q left page : ℕ} {W T W' T' : List ℕ} (a : Passing p g W T) (lt : q < p.pages) (i x : ℕ) (e : x ≡ cell_on q i)
    (l : Lowest left i) (low : i ≡ count_trailing_zeros 32 left) (h : PageMoves p g q left page W T W' T') where
  here-page : page_of x < p.pages
  here-page = omega (arith, ap page_of e, page-on q i l.lt)

  here_on : marked p T' x ≡ 1
  here_on = subst (λ (y : ℕ). marked p T' y ≡ 1) (sym e) (h.bits i l.lt l.on)

  now : Passing p g W' T'
  now = moves-passing a h.moves

  pub page-seeking : work_of W' x ≡ g → Seeking p g T' page
  page-seeking t =
      record {
        room = now.ready.room;
        regular = now.ready.regular;
        real = a.real;
        low = a.low;
        usable = passing-usable now x here-page here_on t;
        points = h.points;
      }

  pub page-movable : work_of W' x ≡ g → {n : ℕ} → Next p g n T' → Movable p g n W' T' x
  page-movable t n = passing-movable now x here-page here_on t n

  -- a bit that is left still was left, and lies above i
  still : (j : ℕ) → bit_at (left - 2 ^ i) j ≡ 1 → (bit_at left j ≡ 1) × (i < j)
  still j b = go (ℕ_discrete j i) (dec_lt j i)
    where
      go : Dec (j ≡ i) → Dec (j < i) → (bit_at left j ≡ 1) × (i < j)
      go (yes z) d =
          absurd (let y : bit_at (left - 2 ^ i) j ≡ 0 = subst (λ (m : ℕ). bit_at (left - 2 ^ i) m ≡ 0) (sym z) (clear-same i left l.on) in let w : ⊥ = omega arith in w)
      go (no n) (yes m) =
          absurd (let y : bit_at left j ≡ 0 = trailing-low 32 left j (omega arith) in let w : ⊥ = omega (arith, clear-other i j left l.on n) in w)
      go (no n) (no m) = (sym (clear-other i j left l.on n) ∙ b, omega arith)

  pub page_moved : {n : ℕ} {W'' T'' : List ℕ} → Step p g n x W' T' W'' T'' → PageMoves p g q (left - 2 ^ i) n W T W'' T''
  page_moved {n} {W''} {T''} s =
      record {
        last = order g x + 1;
        moves = more {k = order g x + 1} {c = x} h.moves refl (omega (arith, h.later i l.lt l.on)) (omega arith) s;
        later = λ j lj b. omega (arith, on-rises q (still j b).1);
        high = omega (arith, on_below q i l.lt);
        points = step-points s;
        bits = λ j lj b.
            let u = still j b in
            step-on s (cell_on q j) (omega (arith, page-on q j lj)) (λ z. omega (arith, on-rises q u.1)) ∙ h.bits j lj u.0;
        done = λ j lj b on. done' j lj b on (ℕ_discrete j i);
      }
    where
      done' : (j : ℕ) → j < page_cells → bit_at (left - 2 ^ i) j ≡ 0 → marked p T'' (cell_on q j) ≡ 1 → Dec (j ≡ i) → work_of W'' (cell_on q j) ≢ g
      done' j lj b on (yes z) =
          absurd (let w : marked p T'' (cell_on q j) ≡ 0 = subst (λ (y : ℕ). marked p T'' y ≡ 0) (e ∙ ap (cell_on q) (sym z)) (step-off s) in
          let y : ⊥ = omega arith in y)
      done' j lj b on (no n) =
          let u = step_back (moves-ready a.ready h.moves) s (cell_on q j) (omega (arith, page-on q j lj)) on in
          λ z. h.done j lj (sym (clear-other i j left l.on n) ∙ b) u.0 (sym u.1 ∙ z)

  pub page-left : work_of W' x ≢ g → PageMoves p g q (left - 2 ^ i) page W T W' T'
  page-left ne =
      record {
        last = h.last;
        moves = h.moves;
        later = λ j lj b. h.later j lj (still j b).0;
        high = h.high;
        points = h.points;
        bits = λ j lj b. h.bits j lj (still j b).0;
        done = λ j lj b on. done' j lj b on (ℕ_discrete j i);
      }
    where
      done' : (j : ℕ) → j < page_cells → bit_at (left - 2 ^ i) j ≡ 0 → marked p T' (cell_on q j) ≡ 1 → Dec (j ≡ i) → work_of W' (cell_on q j) ≢ g
      done' j lj b on (yes z) = subst (λ (y : ℕ). work_of W' y ≢ g) (e ∙ ap (cell_on q) (sym z)) ne
      done' j lj b on (no n) = h.done j lj (sym (clear-other i j left l.on n) ∙ b) on

-- the survivors of page q that go to g moved; the pass is at page
pub record PagePass (p : Sizes) (g q page : ℕ) (W T W' T' : List ℕ) : Type 0 where
  pub pass : Pass p g (λ c. page_of c ≡ q) (order g (first_on q)) (order g (first_on (q + 1))) W T W' T'
  pub points : Points p T' g page

pub page-pass : {p : Sizes} {g q left page : ℕ} {W T W' T' : List ℕ} → left ≡ 0 → PageMoves p g q left page W T W' T' → PagePass p g q page W T W' T'
page-pass {p} {g} {q} {left} {page} {W} {T} {W'} {T'} z h =
    record {
      pass =
          record {
            moves = moves-later h.high h.moves;
            done = λ c e l on.
                let s : c ≡ cell_on q (place_of c) = on-page e in
                subst (λ (y : ℕ). work_of W' y ≢ g) (sym s)
                (h.done (place_of c) (place-low c) (ap (λ (y : ℕ). bit_at y (place_of c)) z ∙ bit-zero (place_of c)) (subst (λ (y : ℕ). marked p T' y ≡ 1) s on));
          };
      points = h.points;
    }

-- ---- all pages: those below q are done

pub record PassMoves (p : Sizes) (g q page : ℕ) (W T W' T' : List ℕ) : Type 0 where
  pub pass : Pass p g (λ c. page_of c < q) (order g 0) (order g (first_on q)) W T W' T'
  pub points : Points p T' g page

pub pass-begin : {p : Sizes} {g page : ℕ} {W T : List ℕ} → Points p T g page → PassMoves p g 0 page W T W T
pass-begin {g = g} a = record { pass = record { moves = none {m = order g (first_on 0)} (omega arith); done = λ c l. absurd (let z : ⊥ = omega arith in z) }; points = a }

pub pass-next : {p : Sizes} {g q page n : ℕ} {W T W' T' W'' T'' : List ℕ} → Ready p W T → PassMoves p g q page W T W' T' → PagePass p g q n W' T' W'' T''
    → PassMoves p g (q + 1) n W T W'' T''
pass-next {p} {g} {q} {page} {n} {W} {T} {W'} {T'} {W''} {T''} a b d =
    record {
      pass =
          record {
            moves = moves-append b.pass.moves d.pass.moves;
            done = λ c l lp on. go c l lp on (ℕ_discrete (page_of c) q);
          };
      points = d.points;
    }
  where
    go : (c : ℕ) → page_of c < q + 1 → page_of c < p.pages → marked p T'' c ≡ 1 → Dec (page_of c ≡ q) → work_of W'' c ≢ g
    go c l lp on (yes e) = d.pass.done c e lp on
    go c l lp on (no n) =
        let u = moves-back (moves-ready a b.pass.moves) d.pass.moves c lp on in
        λ z. b.pass.done c (omega arith) lp u.0 (sym u.1 ∙ z)

-- a page without marks has no survivors
pub no-marks : (p : Sizes) (T : List ℕ) (q : ℕ) → mark_of p T q ≡ 0 → (c : ℕ) → page_of c ≡ q → marked p T c ≡ 1 → ⊥
no-marks p T q z c e on =
    omega (arith, ap (λ (x : ℕ). bit_at (mark_of p T x) (place_of c)) e, ap (λ (x : ℕ). bit_at x (place_of c)) z, bit-zero (place_of c))

pub pass-skip : {p : Sizes} {g q page : ℕ} {W T W' T' : List ℕ} → Ready p W T → mark_of p T q ≡ 0 → PassMoves p g q page W T W' T' → PassMoves p g (q + 1) page W T W' T'
pass-skip {p} {g} {q} {page} {W} {T} {W'} {T'} a z b =
    record {
      pass = record { moves = moves-later (omega (arith, on-above q 0, on_below q 0 (omega arith))) b.pass.moves; done = λ c l lp on. go c l lp on (ℕ_discrete (page_of c) q) };
      points = b.points;
    }
  where
    go : (c : ℕ) → page_of c < q + 1 → page_of c < p.pages → marked p T' c ≡ 1 → Dec (page_of c ≡ q) → work_of W' c ≢ g
    go c l lp on (yes e) = absurd (no-marks p T q z c e (moves-back a b.pass.moves c lp on).0)
    go c l lp on (no n) = b.pass.done c (omega arith) lp on

-- ---- all targets: gs l for l below n, rising

pub record Plan (p : Sizes) (n : ℕ) (gs : ℕ → ℕ) (W T : List ℕ) : Type 0 where
  pub ready : Ready p W T
  pub small : (q : ℕ) → q < p.pages → mark_of p T q < 2 ^ 16
  pub real : (l : ℕ) → l < n → 1 ≤ gs l
  pub low : (l : ℕ) → l < n → gs l ≤ regions p
  pub rising : (i j : ℕ) → i < j → j < n → gs i < gs j
  pub all : (c : ℕ) → page_of c < p.pages → marked p T c ≡ 1 → (l : ℕ) × (l < n) × (work_of W c ≡ gs l)
  pub enough : more_below p T (arriving p W T) gs n ≤ owned_in p T 0 p.pages

-- the targets below l are done
pub record Copy (p : Sizes) (n : ℕ) (gs : ℕ → ℕ) (l : ℕ) (W T W' T' : List ℕ) : Type 0 where
  pub last : ℕ
  pub moves : Moves p (λ g. (j : ℕ) × (j < l) × (g ≡ gs j)) 0 W T last W' T'
  pub later : (j : ℕ) → l ≤ j → j < n → last ≤ order (gs j) 0
  pub done : (j : ℕ) → j < l → (c : ℕ) → page_of c < p.pages → marked p T' c ≡ 1 → work_of W' c ≢ gs j
  -- the free pages that they took are the new pages that they need
  pub took : owned_in p T 0 p.pages ≡ owned_in p T' 0 p.pages + more_below p T (arriving p W T) gs l

pub copy_begin : {p : Sizes} {n : ℕ} {gs : ℕ → ℕ} {W T : List ℕ} → Plan p n gs W T → Copy p n gs 0 W T W T
copy_begin a =
    record {
      last = 0;
      moves = none {m = 0} (omega arith);
      later = λ j l m. omega arith;
      done = λ j l. absurd (let z : ⊥ = omega arith in z);
      took = omega arith;
    }

module _ {p : Sizes} {n : ℕ} {gs : ℕ → ℕ} {l : ℕ} {W T W' T' : List ℕ} (a : Plan p n gs W T) (lt : l < n) (b : Copy p n gs l W T W' T') where
  others : Others p (gs l) W T W' T'
  others =
      moves-others (gs l) (a.real l lt)
      (λ g q e. let u : g ≡ gs q.0 = q.2 in omega (arith, a.rising q.0 l q.1 lt)) a.ready b.moves

  -- the new pages of the targets, and of this one by its objects now
  abbrev needed : ℕ → ℕ
  needed i = region_more p T (arriving p W T) (gs i)

  needed-now : needed l ≡ more_pages (objects_of p T' (gs l)) (arriving p W' T' (gs l))
  unfolding region_more
  needed-now =
      ap₂ (λ (x y : ℕ). more_pages x y) (a.ready.regular.counts (gs l) (a.real l lt) (a.low l lt) ∙ sym others.objects) (sym others.arriving)

  pub copy-passing : Passing p (gs l) W' T'
  copy-passing =
      record {
        ready = moves-ready a.ready b.moves;
        real = a.real l lt;
        low = a.low l lt;
        enough =
            omega (arith, b.took, a.enough, needed-now, sum_more needed l, sum_mono needed (l + 1) n (omega arith));
      }

  pub copy-next : {W'' T'' : List ℕ} → Pass p (gs l) (λ c. page_of c < p.pages) (order (gs l) 0) (order (gs l) (first_on p.pages)) W' T' W'' T'' → Copy p n gs (l + 1) W T W'' T''
  copy-next {W''} {T''} d =
      record {
        last = order (gs l) (first_on p.pages);
        moves =
            moves-append (moves-later (b.later l (omega arith) lt) (moves-map (λ g q. (q.0, omega (arith, q.1), q.2)) b.moves))
            (moves-map (λ g e. (l, omega arith, e)) d.moves);
        later = λ j u v. omega (arith, a.rising l j (omega arith) v, a.ready.room.few);
        done = λ j lj c lp on. go j lj c lp on (ℕ_discrete j l);
        took = omega (arith, b.took, needed-now, sum_more needed l, spent.pages, ap pages_of all_there, mono);
      }
    where
      spent : Spent p (gs l) W' T' W'' T''
      spent = moves-spent copy-passing.ready d.moves

      mono : pages_of (objects_of p T' (gs l)) ≤ pages_of (objects_of p T' (gs l) + arriving p W' T' (gs l))
      mono = omega arith

      -- nobody waits to go there
      all_there : objects_of p T'' (gs l) ≡ objects_of p T' (gs l) + arriving p W' T' (gs l)
      all_there = omega (arith, spent.total, none-arriving p W'' T'' (gs l) (λ c lp on. d.done c lp lp on))

      go : (j : ℕ) → j < l + 1 → (c : ℕ) → page_of c < p.pages → marked p T'' c ≡ 1 → Dec (j ≡ l) → work_of W'' c ≢ gs j
      go j lj c lp on (yes e) = subst (λ (y : ℕ). work_of W'' c ≢ gs y) (sym e) (d.done c lp lp on)
      go j lj c lp on (no ne) =
          let u = moves-back copy-passing.ready d.moves c lp on in
          λ z. b.done j (omega arith) c lp u.0 (sym u.1 ∙ z)

  -- a target that nobody goes to
  pub copy-skip : arriving p W T (gs l) ≡ 0 → Copy p n gs (l + 1) W T W' T'
  copy-skip z =
      record {
        last = b.last;
        moves = moves-map (λ g q. (q.0, omega (arith, q.1), q.2)) b.moves;
        later = λ j u v. b.later j (omega arith) v;
        done = λ j lj c lp on. go j lj c lp on (ℕ_discrete j l);
        took = omega (arith, b.took, sum_more needed l, more-none p T (arriving p W T) (gs l) z);
      }
    where
      go : (j : ℕ) → j < l + 1 → (c : ℕ) → page_of c < p.pages → marked p T' c ≡ 1 → Dec (j ≡ l) → work_of W' c ≢ gs j
      go j lj c lp on (yes e) =
          let u = moves-back a.ready b.moves c lp on in
          λ y. arriving-some p W T (gs l) c lp u.0 (sym u.1 ∙ y ∙ ap gs e) z
      go j lj c lp on (no ne) = b.done j (omega arith) c lp on

-- after all targets no survivor waits
pub copy-clean : {p : Sizes} {n : ℕ} {gs : ℕ → ℕ} {W T W' T' : List ℕ} → Plan p n gs W T → Copy p n gs n W T W' T' → (c : ℕ) → page_of c < p.pages → marked p T' c ≡ 0
copy-clean {p} {n} {gs} {W} {T} {W'} {T'} a b c l =
    ⊎_elim (λ off. off)
    (λ on.
    let u = moves-back a.ready b.moves c l on in
    let v = a.all c l u.0 in
    absurd (b.done v.0 v.1 c l on (u.1 ∙ v.2)))
    (mark? p T' c)

-- the survivors are those that are copied
pub copy-copied : {p : Sizes} {n : ℕ} {gs : ℕ → ℕ} {W T W' T' : List ℕ} → Plan p n gs W T → Copy p n gs n W T W' T' → (c : ℕ) → page_of c < p.pages → copied p T' c ≡ marked p T c
copy-copied {p} {T = T} a b c l =
    omega (
      arith,
      moves-bits b.moves c l,
      copy-clean a b c l,
      none-high page_cells (mark_of p T (page_of c)) (page_cells + place_of c) (a.small (page_of c) l) (omega arith),
    )

pub copy-marks : {p : Sizes} {n l : ℕ} {gs : ℕ → ℕ} {W T W' T' : List ℕ} → Plan p n gs W T → Copy p n gs l W T W' T' → (q : ℕ) → q < p.pages → mark_of p T q ≡ 0
    → mark_of p T' q ≡ 0
copy-marks {p} {T = T} a b q l z = moves-marks a.ready b.moves q l (no-marks p T q z) ∙ z

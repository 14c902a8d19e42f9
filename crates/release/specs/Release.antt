-- r's pages become free, its count 0, the thread's depth one less, and what is freed is counted.
use Rattle.std.specs.Prelude.{◌≡◌, ℕ, ◌+◌, ◌-◌, ◌<◌, ◌≤◌, ◌≢◌, ◌⊎◌, List, length, slice_index, slice_set, refl}
use Rattle.std.proofs.Common.{sym, ◌∙◌, inl, inr, arith}
use Rattle.std.proofs.Math.Path.{ap, subst}
use Rattle.std.proofs.Math.Decide.{ℕ_discrete}
use Rattle.std.proofs.Math.ListN.{length-set}
use Rattle.std.proofs.Math.Seq.{get_or-set_same, get_or-set_other}
use Rattle.rules.specs.declared.Sizes.{Sizes}
use Rattle.rules.specs.Regions.{regions}
use Rattle.rules.specs.Rules.{counted}
use Rattle.lists.specs.Counting.{sum_same, sum-none}
use Rattle.layout.specs.Places.{Room, depth_at, owner_at, used_at, mark_at, count_at, depth_of, owner_of, used_of, mark_of, count_of, freed_at, freed_of, counts_from, owners_from}
use Rattle.promises.specs.Whole.{PageFilled, Partial, objects_on, objects_of}
use Rattle.promises.specs.Regular.{Regular, objects-no, SamePage, filled-same, partial-same, on_same}

-- the three words of page q
pub record Blank (p : Sizes) (T : List ℕ) (q : ℕ) : Type 0 where
  pub owner : owner_of p T q ≡ 0
  pub used : used_of p T q ≡ 0
  pub marks : mark_of p T q ≡ 0

pub record Alike (p : Sizes) (T T' : List ℕ) (q : ℕ) : Type 0 where
  pub owner : owner_of p T' q ≡ owner_of p T q
  pub used : used_of p T' q ≡ used_of p T q
  pub marks : mark_of p T' q ≡ mark_of p T q

-- of the pages below n
pub record Released (p : Sizes) (r n : ℕ) (T T' : List ℕ) : Type 0 where
  pub size : length T' ≡ length T
  pub freed : (q : ℕ) → q < n → owner_of p T q ≡ r → Blank p T' q
  pub kept : (q : ℕ) → q < p.pages → (q < n → owner_of p T q ≢ r) → Alike p T T' q
  pub rest : (x : ℕ) → (x < owners_from p) ⊎ (counts_from p ≤ x) → slice_index T' x ≡ slice_index T x

pub release-start : (p : Sizes) (r : ℕ) (T : List ℕ) → Released p r 0 T T
release-start p r T =
    record {
      size = refl;
      freed = λ q l. absurd (let z : ⊥ = omega arith in z);
      kept = λ q l n. record { owner = refl; used = refl; marks = refl };
      rest = λ x h. refl;
    }

module _ {p : Sizes} {r n : ℕ} {T T' : List ℕ} (room : Room p (length T)) (lt : n < p.pages) (h : Released p r n T T') where
  -- page n is not r's
  pub release-left : owner_of p T n ≢ r → Released p r (n + 1) T T'
  release-left ne =
      record {
        size = h.size;
        freed = λ q l e. freed' q l e (ℕ_discrete q n);
        kept = λ q l k. h.kept q l (λ m. k (omega arith));
        rest = h.rest;
      }
    where
      freed' : (q : ℕ) → q < n + 1 → owner_of p T q ≡ r → Dec (q ≡ n) → Blank p T' q
      freed' q l e (yes z) = absurd (ne (ap (λ (x : ℕ). owner_of p T x) (sym z) ∙ e))
      freed' q l e (no z) = h.freed q (omega arith) e

  X : List ℕ
  X = slice_set T' (owner_at p n) 0

  Y : List ℕ
  Y = slice_set (slice_set T' (owner_at p n) 0) (used_at p n) 0

  Z : List ℕ
  Z = slice_set (slice_set (slice_set T' (owner_at p n) 0) (used_at p n) 0) (mark_at p n) 0

  other : (x : ℕ) → x ≢ owner_at p (n) → x ≢ used_at p (n) → x ≢ mark_at p (n) → slice_index (slice_set (slice_set (slice_set T' (owner_at p n) 0) (used_at p n) 0) (mark_at p n) 0) x ≡ slice_index T' x
  unfolding X Y
  other x a b c = get_or-set_other Y (mark_at p n) x 0 0 c ∙ get_or-set_other X (used_at p n) x 0 0 b ∙ get_or-set_other T' (owner_at p n) x 0 0 a

  blank : Blank p (slice_set (slice_set (slice_set T' (owner_at p n) 0) (used_at p n) 0) (mark_at p n) 0) n
  unfolding X Y
  blank =
      record {
        owner =
            get_or-set_other Y (mark_at p n) (owner_at p n) 0 0 (λ e. omega arith) ∙ get_or-set_other X (used_at p n) (owner_at p n) 0 0 (λ e. omega arith)
            ∙ get_or-set_same T' (owner_at p n) 0 0 (omega (arith, h.size));
        used =
            get_or-set_other Y (mark_at p n) (used_at p n) 0 0 (λ e. omega arith)
            ∙ get_or-set_same X (used_at p n) 0 0 (omega (arith, h.size, length-set T' (owner_at p n) 0));
        marks =
            get_or-set_same Y (mark_at p n) 0 0 (omega (arith, h.size, length-set T' (owner_at p n) 0, length-set X (used_at p n) 0));
      }

  alike : (q : ℕ) → q < p.pages → q ≢ n → Alike p T' (slice_set (slice_set (slice_set T' (owner_at p n) 0) (used_at p n) 0) (mark_at p n) 0) q
  alike q l ne =
      record {
        owner = other (owner_at p q) (λ e. ne (omega arith)) (λ e. omega arith) (λ e. omega arith);
        used = other (used_at p q) (λ e. omega arith) (λ e. ne (omega arith)) (λ e. omega arith);
        marks = other (mark_at p q) (λ e. omega arith) (λ e. omega arith) (λ e. ne (omega arith));
      }

  pub release-page : owner_of p T n ≡ r → Released p r (n + 1) T (slice_set (slice_set (slice_set T' (owner_at p n) 0) (used_at p n) 0) (mark_at p n) 0)
  unfolding X Y Z
  release-page own =
      record {
        size = length-set Y (mark_at p n) 0 ∙ length-set X (used_at p n) 0 ∙ length-set T' (owner_at p n) 0 ∙ h.size;
        freed = λ q l e. freed' q l e (ℕ_discrete q n);
        kept = λ q l k. kept' q l k (ℕ_discrete q n);
        rest = λ x k. rest' x k ∙ h.rest x k;
      }
    where
      freed' : (q : ℕ) → q < n + 1 → owner_of p T q ≡ r → Dec (q ≡ n) → Blank p Z q
      freed' q l e (yes z) = subst (λ (x : ℕ). Blank p Z x) (sym z) blank
      freed' q l e (no z) =
          let a = alike q (omega arith) z in
          let b = h.freed q (omega arith) e in
          record { owner = a.owner ∙ b.owner; used = a.used ∙ b.used; marks = a.marks ∙ b.marks }

      kept' : (q : ℕ) → q < p.pages → (q < n + 1 → owner_of p T q ≢ r) → Dec (q ≡ n) → Alike p T Z q
      kept' q l k (yes z) = absurd (k (omega arith) (ap (λ (x : ℕ). owner_of p T x) z ∙ own))
      kept' q l k (no z) =
          let a = alike q l z in
          let b = h.kept q l (λ m. k (omega arith)) in
          record { owner = a.owner ∙ b.owner; used = a.used ∙ b.used; marks = a.marks ∙ b.marks }

      rest' : (x : ℕ) → (x < owners_from p) ⊎ (counts_from p ≤ x) → slice_index Z x ≡ slice_index T' x
      rest' x (inl l) = other x (λ e. omega arith) (λ e. omega arith) (λ e. omega arith)
      rest' x (inr l) = other x (λ e. omega arith) (λ e. omega arith) (λ e. omega arith)

-- ---- the whole release, by thread t, which frees n objects

pub record Ended (p : Sizes) (r t n : ℕ) (T T' : List ℕ) : Type 0 where
  pub mid : List ℕ
  pub pages : Released p r p.pages T mid
  pub tables : T' ≡ slice_set (slice_set (slice_set mid (count_at p r) 0) (depth_at t) (depth_of T t - 1)) (freed_at p) (counted (freed_of p T + n))

module _ {p : Sizes} {r t n : ℕ} {T T' : List ℕ} (room : Room p (length T)) (real : 1 ≤ r) (low : r ≤ regions p) (thread : t < p.threads) (h : Ended p r t n T T') where
  -- the tables before the counter is set
  M : List ℕ
  M = slice_set (slice_set h.mid (count_at p r) 0) (depth_at t) (depth_of T t - 1)

  long : length M ≡ length T
  unfolding M
  long = simp length-set h.pages.size

  pub ended-size : length T' ≡ length T
  unfolding M
  ended-size = ap length h.tables ∙ length-set M (freed_at p) (counted (freed_of p T + n)) ∙ long

  ended_mid : (x : ℕ) → x ≢ freed_at p → slice_index T' x ≡ slice_index M x
  unfolding M
  ended_mid x f = ap (λ (L : List ℕ). slice_index L x) h.tables ∙ get_or-set_other M (freed_at p) x (counted (freed_of p T + n)) 0 f

  pub ended-word : (x : ℕ) → x ≢ depth_at t → x ≢ count_at p r → x ≢ freed_at p → slice_index T' x ≡ slice_index h.mid x
  unfolding M
  ended-word x d m f =
      ended_mid x f
      ∙ get_or-set_other (slice_set h.mid (count_at p r) 0) (depth_at t) x (depth_of T t - 1) 0 d
      ∙ get_or-set_other h.mid (count_at p r) x 0 0 m

  pub ended-freed : freed_of p T' ≡ counted (freed_of p T + n)
  unfolding M
  ended-freed = ap (λ (L : List ℕ). slice_index L (freed_at p)) h.tables ∙ get_or-set_same M (freed_at p) (counted (freed_of p T + n)) 0 (omega (arith, room, long))

  pub ended-depth : depth_of T' t ≡ depth_of T t - 1
  unfolding M
  ended-depth =
      ended_mid (depth_at t) (λ e. omega (arith, room))
      ∙ get_or-set_same (slice_set h.mid (count_at p r) 0) (depth_at t) (depth_of T t - 1) 0
      (omega (arith, room, h.pages.size, length-set h.mid (count_at p r) 0))

  pub ended-count : count_of p T' r ≡ 0
  unfolding M
  ended-count =
      ended_mid (count_at p r) (λ e. omega (arith, room))
      ∙ get_or-set_other (slice_set h.mid (count_at p r) 0) (depth_at t) (count_at p r) (depth_of T t - 1) 0 (λ e. omega arith)
      ∙ get_or-set_same h.mid (count_at p r) 0 0 (omega (arith, room, h.pages.size))

  -- words of the tables that are neither a page's, nor r's count, nor the depth, nor the counter
  pub ended-rest : (x : ℕ) → x ≢ depth_at t → x ≢ count_at p r → x ≢ freed_at p → (x < owners_from p) ⊎ (counts_from p ≤ x) → slice_index T' x ≡ slice_index T x
  ended-rest x d m f k = ended-word x d m f ∙ h.pages.rest x k

  pub ended-blank : (q : ℕ) → q < p.pages → owner_of p T q ≡ r → Blank p T' q
  ended-blank q l e =
      let b = h.pages.freed q l e in
      record {
        owner = ended-word (owner_at p q) (λ z. omega arith) (λ z. omega arith) (λ z. omega arith) ∙ b.owner;
        used = ended-word (used_at p q) (λ z. omega arith) (λ z. omega arith) (λ z. omega arith) ∙ b.used;
        marks = ended-word (mark_at p q) (λ z. omega arith) (λ z. omega arith) (λ z. omega arith) ∙ b.marks;
      }

  pub ended-alike : (q : ℕ) → q < p.pages → owner_of p T q ≢ r → Alike p T T' q
  ended-alike q l n =
      let b = h.pages.kept q l (λ m. n) in
      record {
        owner = ended-word (owner_at p q) (λ z. omega arith) (λ z. omega arith) (λ z. omega arith) ∙ b.owner;
        used = ended-word (used_at p q) (λ z. omega arith) (λ z. omega arith) (λ z. omega arith) ∙ b.used;
        marks = ended-word (mark_at p q) (λ z. omega arith) (λ z. omega arith) (λ z. omega arith) ∙ b.marks;
      }

  ended-page : (q : ℕ) → q < p.pages → owner_of p T q ≢ r → SamePage p T T' q
  ended-page q l n = let b = ended-alike q l n in record { owner = b.owner; used = b.used }

  pub ended-objects : (g : ℕ) → 1 ≤ g → g ≢ r → objects_of p T' g ≡ objects_of p T g
  ended-objects g pos ne = sum_same (objects_on p T' g) (objects_on p T g) p.pages (λ q l. go q l (ℕ_discrete (owner_of p T q) r))
    where
      go : (q : ℕ) → q < p.pages → Dec (owner_of p T q ≡ r) → objects_on p T' g q ≡ objects_on p T g q
      go q l (yes e) = objects-no p T' g q (λ z. omega (arith, (ended-blank q l e).owner)) ∙ sym (objects-no p T g q (λ z. ne (sym z ∙ e)))
      go q l (no n) = on_same (ended-page q l n) g

  pub ended-none : objects_of p T' r ≡ 0
  ended-none = sum-none (objects_on p T' r) p.pages (λ q l. go q l (ℕ_discrete (owner_of p T q) r))
    where
      go : (q : ℕ) → q < p.pages → Dec (owner_of p T q ≡ r) → objects_on p T' r q ≡ 0
      go q l (yes e) = objects-no p T' r q (λ z. omega (arith, (ended-blank q l e).owner))
      go q l (no n) = objects-no p T' r q (λ z. n (sym (ended-alike q l n).owner ∙ z))

  pub ended-regular : Regular p T → Regular p T'
  ended-regular a =
      record {
        pages = λ q l. filled q l (ℕ_discrete (owner_of p T q) r);
        partial = λ g pos x y l m u v. a.partial g pos x y l m (part g x pos (omega arith) u (ℕ_discrete (owner_of p T x) r)) (part g y pos m v (ℕ_discrete (owner_of p T y) r));
        counts = λ g pos le. count g pos le (ℕ_discrete g r);
      }
    where
      filled : (q : ℕ) → q < p.pages → Dec (owner_of p T q ≡ r) → PageFilled p T' q
      filled q l (yes e) =
          let b = ended-blank q l e in
          record { free = λ z. b.used; taken = λ z. absurd (let y : ⊥ = omega (arith, b.owner) in y); cells = omega (arith, b.used) }
      filled q l (no n) = filled-same (ended-page q l n) (a.pages q l)

      part : (g x : ℕ) → 1 ≤ g → x < p.pages → Partial p T' g x → Dec (owner_of p T x ≡ r) → Partial p T g x
      part g x pos l u (yes e) = absurd (let y : ⊥ = omega (arith, (ended-blank x l e).owner, u.owner) in y)
      part g x pos l u (no n) = partial-same (ended-page x l n) u

      count : (g : ℕ) → 1 ≤ g → g ≤ regions p → Dec (g ≡ r) → count_of p T' g ≡ objects_of p T' g
      count g pos le (yes e) = subst (λ (x : ℕ). count_of p T' x ≡ objects_of p T' x) (sym e) (ended-count ∙ sym ended-none)
      count g pos le (no n) =
          ended-rest (count_at p g) (λ z. omega arith) (λ z. n (omega arith)) (λ z. omega arith) (inr (omega arith)) ∙ a.counts g pos le
          ∙ sym (ended-objects g pos n)

-- the depth of a thread, after pages were released and a count set
pub kept-depth : {p : Sizes} {r n t : ℕ} (g : ℕ) {T M X : List ℕ} → Room p (length T) → Released p r n T M → t < p.threads → X ≡ slice_set M (count_at p g) 0
    → depth_of X t ≡ depth_of T t
kept-depth {p} {r} {n} {t} g {T} {M} rm h l e =
    ap (λ (L : List ℕ). depth_of L t) e ∙ get_or-set_other M (count_at p g) (depth_at t) 0 0 (λ z. omega (arith, rm))
    ∙ h.rest (depth_at t) (inl (omega (arith, rm)))

-- and the counter, after the depth was set too
pub kept-freed : {p : Sizes} {r n t : ℕ} (g d : ℕ) {T M X Y : List ℕ} → Room p (length T) → Released p r n T M → t < p.threads → g ≤ regions p → X ≡ slice_set M (count_at p g) 0 → Y ≡ slice_set X (depth_at t) d
    → freed_of p Y ≡ freed_of p T
kept-freed {p} {r} {n} {t} g d {T} {M} {X} rm h l low e f =
    ap (λ (L : List ℕ). freed_of p L) f ∙ get_or-set_other X (depth_at t) (freed_at p) d 0 (λ z. omega (arith, rm))
    ∙ ap (λ (L : List ℕ). freed_of p L) e ∙ get_or-set_other M (count_at p g) (freed_at p) 0 0 (λ z. omega (arith, rm))
    ∙ h.rest (freed_at p) (inr (omega (arith, rm)))

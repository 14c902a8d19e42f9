-- From turn to turn: the program is where the machine is that was fed all pieces so far.
use Rattle.std.specs.Prelude.{ℕ, ◌+◌, ◌≤◌, ◌≡◌, Bool, true, false, length, take}
use native.Mathlib.Omega.{arith}
use Rattle.std.proofs.Math.Path.{refl, sym, ap}
use Rattle.std.proofs.Common.{ap₂, subst, subst₂, ◌∙◌, length-take-le}
use mathlib.Core.List.{List, [], ◌∷◌, ◌++◌, flatten, append_assoc, append-nil}
use Rattle.std.proofs.Math.ListN.{length-append}
use Rattle.lists.specs.Says.{true-not-false}
use Rattle.promises.specs.Slices.{Slices}
use Rattle.script.specs.Reading.{started}
use Rattle.script.specs.TextLaws.{found}
use Rattle.printed.specs.Printed.{Session, stopped, prints_all, takes_all, ends_with, printed}
use Rattle.printed.specs.Pieces.{stopped-takes, stopped-prints, Machine, first, feed, feed_prints, missing, close_prints, prints_pieces, prints-all}
use Rattle.lines.specs.Lines.{Lent}
use Rattle.stages.specs.declared.Stage.{Stage}
use Rattle.stages.specs.declared.Stage.TheVariants.{Opening, Running, Stopped}
use Rattle.stages.specs.declared.Fed.{Fed}
use Rattle.stages.specs.Stages.{At, line_of, Feeds, Closes}
use Rattle.stages.specs.StagesLaws.{at-stopped, at_first, line-fed}
use Rattle.std.specs.Prelude.{Result, Ok}
use Rattle.stream.specs.declared.Unread.{Unread}
use Rattle.stream.specs.declared.Ending.{Ending}
use Rattle.stream.specs.declared.Ending.TheVariants.{More, Finished}
use Rattle.stream.specs.declared.Outcome.{Outcome}
use Rattle.stream.specs.Turns.{within, ending_of, goes_on, Advances, Turned, unread, moved, Serves}

-- ---- a piece, or the end of the input

module _ {m : Machine} {l l' : Slices} {out after : List ℕ} where
  pub advances-end : (piece : List ℕ) {end : ℕ} → length piece ≡ 0 → Closes m l out end after l' → Advances m piece l out (record { stage = Stopped; length = end }) after l'
  unfolding Advances
  advances-end [] e c = (c, refl)
  advances-end (b ∷ bs) e c = absurd (let z : ⊥ = omega arith in z)

  pub advances-on : (piece : List ℕ) {x : Fed} → (length piece ≡ 0 → ⊥) → Feeds m piece l out x after l' → Advances m piece l out x after l'
  unfolding Advances
  advances-on [] n f = absurd (n refl)
  advances-on (b ∷ bs) n f = f

-- ---- what a turn did

pub bytes-short : {p : Result ℕ Unread} {n most : ℕ} → p ≡ Ok n → within p ≤ most → n ≤ most
bytes-short {most = most} e h = subst (λ (q : Result ℕ Unread). within q ≤ most) e h

pub turn_moved : {stage : Stage} {l l' : Slices} {out text after : List ℕ} {x : Fed} {ending : Ending} {n count : ℕ} (taken : Bool) → ending ≡ ending_of x.stage taken
    → ((m : Machine) → At m stage l → Advances m (take n text) l out x after l') → count ≡ x.length
    → Turned stage l out (record { ending = ending; stage = x.stage; read = n; printed = count }) text after l'
turn_moved {l = l} {l'} {out} {text} {after} {x} {n = n} taken e f q =
    moved taken e (λ m a. subst (λ (k : ℕ). Advances m (take n text) l out (record { stage = x.stage; length = k }) after l') (sym q) (f m a))

-- ---- the pieces so far

unfoldable pub feed_all : Machine → List (List ℕ) → Machine
feed_all m [] = m
feed_all m (x ∷ xs) = feed_all (feed m x) xs

unfoldable pub feed_all_prints : Machine → List (List ℕ) → List ℕ
feed_all_prints m [] = []
feed_all_prints m (x ∷ xs) = feed_prints m x ++ feed_all_prints (feed m x) xs

module _ (x : List ℕ) where
  feed-last : (xs : List (List ℕ)) (m : Machine) → feed_all m (xs ++ x ∷ []) ≡ feed (feed_all m xs) x
  unfolding feed_all
  feed-last [] m = refl
  feed-last (y ∷ ys) m = feed-last ys (feed m y)

  prints-last : (xs : List (List ℕ)) (m : Machine) → feed_all_prints m (xs ++ x ∷ []) ≡ feed_all_prints m xs ++ feed_prints (feed_all m xs) x
  unfolding feed_all feed_all_prints
  prints-last [] m = append-nil (feed_prints m x)
  prints-last (y ∷ ys) m =
      ap (λ (t : List ℕ). feed_prints m y ++ t) (prints-last ys (feed m y)) ∙ sym (append_assoc (feed_prints m y) (feed_all_prints (feed m y) ys) (feed_prints (feed_all (feed m y) ys) x))

  length_last : (xs : List (List ℕ)) → length (flatten (xs ++ x ∷ [])) ≡ length (flatten xs) + length x
  unfolding flatten
  length_last [] = omega (arith, length-append x [])
  length_last (y ∷ ys) = omega (arith, length-append y (flatten (ys ++ x ∷ [])), length-append y (flatten ys), length_last ys)

-- all that is printed for the pieces, and at the end
all-pieces : (xs : List (List ℕ)) (m : Machine) → prints_pieces m xs ≡ feed_all_prints m xs ++ close_prints (feed_all m xs)
unfolding prints_pieces feed_all feed_all_prints
all-pieces [] m = refl
all-pieces (x ∷ xs) m = ap (λ (t : List ℕ). feed_prints m x ++ t) (all-pieces xs (feed m x)) ∙ sym (append_assoc (feed_prints m x) (feed_all_prints (feed m x) xs) (close_prints (feed_all (feed m x) xs)))

printed-pieces : (xs : List (List ℕ)) → length (printed (flatten xs)) ≡ length (feed_all_prints first xs) + length (close_prints (feed_all first xs))
printed-pieces xs = ap (length {A = ℕ}) (sym (prints-all xs) ∙ all-pieces xs first) ∙ length-append (feed_all_prints first xs) (close_prints (feed_all first xs))

-- a program that was stopped prints nothing at the end
stopped-closes : {m : Machine} {l : Slices} → At m Stopped l → close_prints m ≡ []
unfolding close_prints feed feed_prints ends_with
stopped-closes {m} a =
    let e : m.session ≡ stopped = at-stopped a refl in
    let ls = found m.reader (missing m) in
    ap₂ (λ (t : List ℕ) (y : Session). t ++ ends_with y) (ap (λ (y : Session). prints_all y ls) e ∙ stopped-prints ls) (ap (λ (y : Session). takes_all y ls) e ∙ stopped-takes ls)

pub record FedSoFar (stage : Stage) (l : Slices) (read printed-bytes : ℕ) : Type 0 where
  pub pieces : List (List ℕ)
  pub is_at : At (feed_all first pieces) stage l
  pub read_is : read ≡ length (flatten pieces)
  pub printed-is : printed-bytes ≡ length (feed_all_prints first pieces)

pub so-far-first : {stage : Stage} {l : Slices} → stage ≡ Opening started → Lent l → FedSoFar stage l 0 0
unfolding feed_all feed_all_prints flatten
so-far-first e lent = record { pieces = []; is_at = at_first e lent; read_is = refl; printed-is = refl }

-- a piece more
so-far-on : {stage : Stage} {l l' : Slices} {read printed-bytes : ℕ} {out after : List ℕ} {x : Fed} (g : FedSoFar stage l read printed-bytes) (piece : List ℕ) (n : ℕ) → n ≡ length piece
    → Feeds (feed_all first g.pieces) piece l out x after l' → FedSoFar x.stage l' (read + n) (printed-bytes + x.length)
so-far-on {l' = l'} {x = x} g piece n e f =
    record {
      pieces = g.pieces ++ piece ∷ [];
      is_at = subst (λ (m : Machine). At m x.stage l') (sym (feed-last piece g.pieces first)) f.is_at;
      read_is = omega (arith, length_last piece g.pieces, g.read_is);
      printed-is = omega (
        arith,
        ap (length {A = ℕ}) (prints-last piece g.pieces first),
        length-append (feed_all_prints first g.pieces) (feed_prints (feed_all first g.pieces) piece),
        g.printed-is,
        f.text.end_is,
      );
    }

-- the loop may end here, but has not finished
pub so-far-serves : {stage : Stage} {l : Slices} {read printed-bytes : ℕ} (e : Ending) → (e ≡ Finished → ⊥) → (e ≡ More → 281474976710656 ≤ read) → FedSoFar stage l read printed-bytes
    → Serves (record { ending = e; read = read; printed = printed-bytes })
so-far-serves e n u g =
    record {
      pieces = g.pieces;
      read_all = g.read_is;
      no_more = omega (arith, printed-pieces g.pieces, g.printed-is);
      all-printed = λ q. absurd (n q);
      given-up = u;
    }

-- or it has, at a stage that is stopped
stopped-serves : {l : Slices} {read printed-bytes : ℕ} (e : Ending) → (e ≡ More → 281474976710656 ≤ read) → FedSoFar Stopped l read printed-bytes → Serves (record { ending = e; read = read; printed = printed-bytes })
stopped-serves e u g =
    let q : length (close_prints (feed_all first g.pieces)) ≡ 0 = ap (length {A = ℕ}) (stopped-closes g.is_at) in
    record {
      pieces = g.pieces;
      read_all = g.read_is;
      no_more = omega (arith, printed-pieces g.pieces, g.printed-is);
      all-printed = λ (f : e ≡ Finished). omega (arith, printed-pieces g.pieces, g.printed-is);
      given-up = u;
    }

-- or at the end of the input
closed-serves : {stage : Stage} {l l' : Slices} {read printed-bytes : ℕ} {out after : List ℕ} {end n : ℕ} (e : Ending) → (e ≡ More → 281474976710656 ≤ read + n) → (g : FedSoFar stage l read printed-bytes) → n ≡ 0
    → Closes (feed_all first g.pieces) l out end after l' → Serves (record { ending = e; read = read + n; printed = printed-bytes + end })
closed-serves e u g z c =
    record {
      pieces = g.pieces;
      read_all = omega (arith, g.read_is);
      no_more = omega (arith, printed-pieces g.pieces, g.printed-is, c.text.end_is);
      all-printed = λ (f : e ≡ Finished). omega (arith, printed-pieces g.pieces, g.printed-is, c.text.end_is);
      given-up = u;
    }

-- ---- a turn

not-finished : (s : Stage) (taken : Bool) → (s ≡ Stopped → ⊥) → ending_of s taken ≡ Finished → ⊥
not-finished s false n e = let z : ◌≡◌ {A = ℕ} 0 1 = cc in omega arith
not-finished (Opening r) true n e = let z : ◌≡◌ {A = ℕ} 0 1 = cc in omega arith
not-finished (Running r k) true n e = let z : ◌≡◌ {A = ℕ} 0 1 = cc in omega arith
not-finished Stopped true n e = n refl

fed-serves : (s : Stage) {l : Slices} {read printed-bytes : ℕ} (e : Ending) (taken : Bool) → e ≡ ending_of s taken → (e ≡ More → 281474976710656 ≤ read) → FedSoFar s l read printed-bytes
    → Serves (record { ending = e; read = read; printed = printed-bytes })
fed-serves (Opening r) e taken q u g = so-far-serves e (λ f. not-finished (Opening r) taken (λ z. let o : ◌≡◌ {A = ℕ} 0 1 = cc in let b : ⊥ = omega arith in b) (sym q ∙ f)) u g
fed-serves (Running r k) e taken q u g = so-far-serves e (λ f. not-finished (Running r k) taken (λ z. let o : ◌≡◌ {A = ℕ} 0 1 = cc in let b : ⊥ = omega arith in b) (sym q ∙ f)) u g
fed-serves Stopped e taken q u g = stopped-serves e u g

ends : {x : Ending} {A : Type 0} → goes_on x ≡ false → x ≡ More → A
ends q f = absurd (true-not-false (sym q ∙ ap goes_on f))

-- the loop may end after any turn that does not go on
pub turned-serves : {stage : Stage} {l l' : Slices} {out text after : List ℕ} {t : Outcome} {read printed-bytes : ℕ} → FedSoFar stage l read printed-bytes
    → Turned stage l out t text after l' → t.read ≤ length text → goes_on t.ending ≡ false
    → Serves (record { ending = t.ending; read = read + t.read; printed = printed-bytes + t.printed })
unfolding Advances
turned-serves {t = t} {read = read} {printed-bytes = printed-bytes} g (unread e r p k o) short q =
    subst₂ (λ (i j : ℕ). Serves (record { ending = t.ending; read = i; printed = j })) (let z : read ≡ read + t.read = omega arith in z) (let z : printed-bytes ≡ printed-bytes + t.printed = omega arith in z)
    (so-far-serves t.ending (λ (f : t.ending ≡ Finished). let z : ◌≡◌ {A = ℕ} 0 1 = cc in let b : ⊥ = omega arith in b) (ends q) g)
turned-serves {l = l} {l'} {out} {text} {after} {t} {read} {printed-bytes} g (moved taken e f) short q =
    go (take t.read text) (sym (length-take-le t.read text short)) (f (feed_all first g.pieces) g.is_at)
  where
    go : (piece : List ℕ) → t.read ≡ length piece → Advances (feed_all first g.pieces) piece l out (record { stage = t.stage; length = t.printed }) after l'
        → Serves (record { ending = t.ending; read = read + t.read; printed = printed-bytes + t.printed })
    go [] n a = closed-serves t.ending (ends q) g n a.0
    go (b ∷ bs) n a = fed-serves t.stage t.ending taken e (ends q) (so-far-on g (b ∷ bs) t.read n a)

-- one that goes on has fed a piece, and not an empty one
pub record FedPiece (m : Machine) (l : Slices) (t : Outcome) (l' : Slices) : Type 0 where
  pub piece : List ℕ
  pub read_is : t.read ≡ length piece
  pub read_some : 1 ≤ t.read
  pub out : List ℕ
  pub after : List ℕ
  pub feeds : Feeds m piece l out (record { stage = t.stage; length = t.printed }) after l'

turned-fed : {stage : Stage} {l l' : Slices} {out text after : List ℕ} {t : Outcome} {m : Machine} → At m stage l
    → Turned stage l out t text after l' → t.read ≤ length text → goes_on t.ending ≡ true → FedPiece m l t l'
unfolding Advances
turned-fed a (unread e r p k o) short q = absurd (true-not-false (sym (ap goes_on e) ∙ q))
turned-fed {l = l} {l'} {out} {text} {after} {t} {m} a (moved taken e f) short q =
    go (take t.read text) (sym (length-take-le t.read text short)) (f m a)
  where
    over : (b : Bool) → goes_on (ending_of Stopped b) ≡ true → ⊥
    over true z = true-not-false z
    over false z = true-not-false z

    go : (piece : List ℕ) → t.read ≡ length piece → Advances m piece l out (record { stage = t.stage; length = t.printed }) after l' → FedPiece m l t l'
    go [] n a = absurd (over taken (ap goes_on (sym (e ∙ ap (λ (s : Stage). ending_of s taken) a.1)) ∙ q))
    go (b ∷ bs) n a = record { piece = b ∷ bs; read_is = n; read_some = omega arith; out = out; after = after; feeds = a }

-- and the program is where the machine is then
module _ {stage : Stage} {l l' : Slices} {out text after : List ℕ} {t : Outcome} {read printed-bytes : ℕ} (g : FedSoFar stage l read printed-bytes)
    (k : Turned stage l out t text after l') (short : t.read ≤ length text) (q : goes_on t.ending ≡ true) where
  pub turned_on : FedSoFar t.stage l' (read + t.read) (printed-bytes + t.printed)
  turned_on = let p = turned-fed g.is_at k short q in so-far-on g p.piece t.read p.read_is p.feeds

  pub turned-line : line_of t.stage ≤ line_of stage + t.read
  turned-line = let p = turned-fed g.is_at k short q in omega (arith, line-fed g.is_at p.feeds, p.read_is)

  pub turned-some : 1 ≤ t.read
  turned-some = (turned-fed g.is_at k short q).read_some

use Rattle.std.proofs.Common.{ℕ, ◌+◌, ◌*◌, ◌<◌, ◌≡◌, List, ◌++◌, length, drop, get_or, set, ◌≤◌, sym, ap, ◌∙◌, arith, rules}
use Rattle.std.proofs.lemmas.List.{drop_at, drop-drop, get_or-drop, get_or_append_left, length-drop, length_push}
use Rattle.std.proofs.Common.{length-append}
use Rattle.whole_test.specs.Changed.{changed, changed-none, changed-more}
use Rattle.whole_test.proofs.change.Goals as goal

-- the pair x begins what is left after n pairs
module _ (changes : List ℕ) (n : ℕ) (x left : List ℕ) (e : x ++ left ≡ drop (2 * n) changes) (two : length x ≡ 2) where
  word : (i j : ℕ) → i < 2 → 2 * n + i ≡ j → get_or x i 0 ≡ get_or changes j 0
  word i j h f =
      sym (get_or_append_left x left 0 i (omega arith)) ∙ ap (λ (l : List ℕ). get_or l i 0) e ∙ get_or-drop (2 * n) changes i 0
      ∙ ap (λ (k : ℕ). get_or changes k 0) f

  module _ {k : ℕ} (f : k ≡ n + 1) where
    others : left ≡ drop (2 * k) changes
    others =
        let g : 2 * n + 2 ≡ 2 * k = omega arith in
        sym (drop_at x left 2 two) ∙ ap (drop 2) e ∙ drop-drop 2 (2 * n) changes ∙ ap (λ (j : ℕ). drop j changes) g

    among : 2 * n ≤ length changes → 2 * k ≤ length changes
    among h = omega (arith, length-append x left, ap length e, length-drop (2 * n) changes)

pub loop-pair-init : goal.loop-pair-init
loop-pair-init c = record { size = search rules; within = omega arith; rest = search rules; done = changed-none _ _ }

pub loop-pair-preserved : goal.loop-pair-preserved
loop-pair-preserved c =
    let l = c.loop-pair in
    let step = c.in-Some.ensures.steps in
    let changes : List ℕ = c.args.changes.now in
    let n : ℕ = length l.yielded in
    let x : List ℕ = c.in-Some.pair.now in
    let e = sym step.1.0 ∙ l.invariant.rest in
    let two = step.1.1 ∙ l.invariant.size in
    let more = length_push l.yielded c.in-Some.pair in
    record {
      size = step.0 ∙ l.invariant.size;
      within = among changes n x _ e two more l.invariant.within;
      rest = others changes n x _ e two more;
      done =
          changed-more c.args.words.now changes n l.words c.put.new.words (get_or x 0 0) l.invariant.done (word changes n x _ e two 0 (2 * n) (omega arith) (omega arith))
          (c.put.ensures ∙ ap (λ (y : ℕ). set l.words (get_or x 0 0) y) (word changes n x _ e two 1 (2 * n + 1) (omega arith) (omega arith)))
          ∙ ap (changed c.args.words.now changes) (sym more);
    }

pub returns : goal.returns
returns c =
    let l = c.loop-pair in
    l.invariant.done ∙ ap (changed c.args.words.now c.args.changes.now)
    (omega (arith, l.invariant.within, c.in-None.ensures.steps.1.0, l.invariant.size, ap length l.invariant.rest, length-drop (2 * length l.yielded) c.args.changes.now))

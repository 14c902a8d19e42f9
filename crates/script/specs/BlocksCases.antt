-- What `filled` does at one byte, case by case, as the code tells the cases apart; and lines one after the other.
use Rattle.std.specs.Prelude.{ℕ, ◌+◌, ◌<◌, ◌≤◌, Bool, ◌≡◌, length, get_or, drop, ltb}
use mathlib.Core.List.{List}
use Rattle.std.proofs.Math.Bool.{cond}
use Rattle.std.proofs.Common.{sym, ◌∙◌, arith, add-one, length-set, drop_of_length-le, drop-cons, lt-ltb, le-ltb}
use Rattle.std.proofs.Math.Path.{ap, ap₂}
use Rattle.std.specs.Prelude.{Ok, Err}
use Rattle.script.specs.declared.Malformed.{Malformed}
use Rattle.script.specs.declared.Reader.{Reader}
use Rattle.script.specs.declared.Step.{Step}
use Rattle.script.specs.declared.Step.TheVariants.{More, Ended}
use Rattle.script.specs.declared.Filled.{Filled}
use Rattle.script.specs.declared.Filled.TheVariants.{Done, Full, Broken}
use Rattle.script.specs.Reading.{started, step_of}
use Rattle.script.specs.Blocks.{words_put, filled, Took}

-- what a step does to a block
unfoldable pub stepped : Step → List ℕ → ℕ → List ℕ → ℕ → Filled × List ℕ
stepped x xs at block n =
    elim x [
      | More s ↦ filled s xs at block n
      | Ended l ↦ elim l [
        | Ok ns ↦
            cond (ltb (length block) (n + 5 + 5))
            (Full at (n + 5), words_put block n ns)
            (filled started xs at (words_put block n ns) (n + 5))
        | Err e ↦ (Broken n, block)
      ]
    ]

pub took : {r : Reader} {bytes : List ℕ} {at : ℕ} {block : List ℕ} {n : ℕ} {x : Filled} {after : List ℕ}
    → filled r bytes at block n ≡ (x, after) → Took r bytes at block n x after
took e = record { answer = sym (ap (λ z. z.0) e); words = sym (ap (λ z. z.1) e) }

pub length-words : (block : List ℕ) (n : ℕ) (ns : List ℕ) → length (words_put block n ns) ≡ length block
length-words block n ns = simp length-set

module _ (r : Reader) (text : List ℕ) (at : ℕ) (block : List ℕ) (n : ℕ) where
  pub fill_done : length text ≤ at → filled r (drop at text) at block n ≡ (Done r n, block)
  unfolding filled
  fill_done h = ap (λ (l : List ℕ). filled r l at block n) (drop_of_length-le text h)

  module _ (h : at < length text) where
    fill_step : (x : Step) → step_of r (get_or text at 0) ≡ x → filled r (drop at text) at block n ≡ stepped x (drop (at + 1) text) (at + 1) block n
    unfolding filled stepped
    fill_step x e =
        ap (λ (l : List ℕ). filled r l at block n) (drop-cons text at 0 h)
        ∙ ap₂ (λ (y : Step) (k : ℕ). stepped y (drop k text) (at + 1) block n) e (sym (add-one at))

    pub fill_more : (s : Reader) → step_of r (get_or text at 0) ≡ More s → filled r (drop at text) at block n ≡ filled s (drop (at + 1) text) (at + 1) block n
    unfolding stepped
    fill_more s e = fill_step (More s) e

    pub fill-broken : (m : Malformed) → step_of r (get_or text at 0) ≡ Ended (Err m) → filled r (drop at text) at block n ≡ (Broken n, block)
    unfolding stepped
    fill-broken m e = fill_step (Ended (Err m)) e

    module _ (ns : List ℕ) (e : step_of r (get_or text at 0) ≡ Ended (Ok ns))
        (after : List ℕ) (g : after ≡ words_put block n ns) where
      same-room : length after ≡ length block
      same-room = ap length g ∙ length-words block n ns

      pub fill-full : length after < n + 5 + 5 → filled r (drop at text) at block n ≡ (Full (at + 1) (n + 5), after)
      unfolding stepped
      fill-full k =
          fill_step (Ended (Ok ns)) e
          ∙ ap (λ (t : Bool). cond t (Full (at + 1) (n + 5), words_put block n ns) (filled started (drop (at + 1) text) (at + 1) (words_put block n ns) (n + 5)))
          (lt-ltb (length block) (n + 5 + 5) (omega (arith, same-room)))
          ∙ ap (λ (w : List ℕ). (Full (at + 1) (n + 5), w)) (sym g)

      pub fill_on : n + 5 + 5 ≤ length after → (s : Reader) → s ≡ started → filled r (drop at text) at block n ≡ filled s (drop (at + 1) text) (at + 1) after (n + 5)
      unfolding stepped
      fill_on k s i =
          fill_step (Ended (Ok ns)) e
          ∙ ap (λ (t : Bool). cond t (Full (at + 1) (n + 5), words_put block n ns) (filled started (drop (at + 1) text) (at + 1) (words_put block n ns) (n + 5)))
          (le-ltb (length block) (n + 5 + 5) (omega (arith, same-room)))
          ∙ ap₂ (λ (w : List ℕ) (q : Reader). filled q (drop (at + 1) text) (at + 1) w (n + 5)) (sym g) (sym i)

-- ---- lines one after the other

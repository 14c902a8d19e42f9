-- The first entry of a region from a place on, and the words of the chains by it.
use Prim.Native.Nat.{ℕ, zero, suc, ◌+◌, ◌≤◌, ◌<◌}
use Rattle.std.specs.Prelude.{Bool, cond, List, [], ◌∷◌, ◌≡◌, refl, length, drop, eqb}
use Rattle.std.proofs.Common.{sym, ◌∙◌, arith, zero-add, drop_of_length-le, drop-cons, eq-eqb, ne_eqb}
use Rattle.std.proofs.Math.Path.{ap, ap₂}
use Rattle.std.proofs.Math.ListN.{get_or, length-append, get_or-append, get_or-eq_default}
use Rattle.std.proofs.Math.Seq.{get_or-append-add}
use Rattle.lists.specs.Listed.{listed, length-listed, get_d-listed}
use Rattle.remember.specs.Table.{Entry, nth_region, unused, padded}
use Rattle.remember.specs.TableWords.{length-padded, get_d-padded}
use Rattle.chains.specs.Chains.{first_of, nexts_of, chains_of}
use Rattle.chains.specs.Firsts.{first_from, next_of}

module _ (g : ℕ) (es : List Entry) (i : ℕ) where
  pub first-end : length es ≤ i → first_from g es i ≡ 0
  unfolding first_of
  first-end l = ap (first_of g i) (drop_of_length-le es l)

  split : i < length es → first_from g es i ≡ cond (eqb (nth_region es i) g) (suc i) (first_from g es (suc i))
  unfolding first_of
  split l = ap (first_of g i) (drop-cons es i unused l)

  pub first-here : i < length es → nth_region es i ≡ g → first_from g es i ≡ suc i
  first-here l e = split l ∙ ap (λ (b : Bool). cond b (suc i) (first_from g es (suc i))) (eq-eqb (nth_region es i) g e)

  pub first-other : i < length es → (nth_region es i ≡ g → ⊥) → first_from g es i ≡ first_from g es (suc i)
  first-other l e = split l ∙ ap (λ (b : Bool). cond b (suc i) (first_from g es (suc i))) (ne_eqb (nth_region es i) g e)

-- ---- next words

nexts-long : (k : ℕ) (es : List Entry) → length (nexts_of k es) ≡ length es
unfolding nexts_of
nexts-long k [] = refl
nexts-long k (e ∷ es) = ap suc (nexts-long (suc k) es)

next-at : (k : ℕ) (es : List Entry) (i : ℕ) → i < length es → get_or (nexts_of k es) i 0 ≡ first_of (nth_region es i) (suc (k + i)) (drop (suc i) es)
unfolding nexts_of
next-at k [] i l = absurd (let z : ⊥ = omega arith in z)
next-at k (e ∷ es) zero l = let q : k ≡ k + 0 = omega arith in ap (λ (j : ℕ). first_of e.region (suc j) es) q
next-at k (e ∷ es) (suc i) l =
    let q : suc k + i ≡ k + suc i = omega arith in
    next-at (suc k) es i (omega arith) ∙ ap (λ (j : ℕ). first_of (nth_region es i) (suc j) (drop (suc i) es)) q

pub next-is : (es : List Entry) (i : ℕ) → i < length es → next_of es i ≡ first_from (nth_region es i) es (suc i)
next-is es i l = next-at 0 es i l ∙ ap (λ (j : ℕ). first_of (nth_region es i) (suc j) (drop (suc i) es)) (zero-add i)

pub next-end : (es : List Entry) (i : ℕ) → length es ≤ i → next_of es i ≡ 0
next-end es i l = get_or-eq_default (nexts_of 0 es) 0 (omega (arith, nexts-long 0 es))

-- ---- the words of the chains, position by position

module _ (R N : ℕ) (es : List Entry) (few : length es ≤ N) where
  firsts : List ℕ
  firsts = listed (λ r. first_of (suc r) 0 es) R

  firsts-long : length firsts ≡ R
  unfolding firsts
  firsts-long = length-listed (λ r. first_of (suc r) 0 es) R

  nexts-padded : length (padded N (nexts_of 0 es)) ≡ N
  nexts-padded = length-padded N (nexts_of 0 es) (omega (arith, nexts-long 0 es))

  pub chains-long : length (chains_of R N es) ≡ R + N
  unfolding chains_of firsts
  chains-long = length-append firsts (padded N (nexts_of 0 es)) ∙ ap₂ ◌+◌ firsts-long nexts-padded

  pub chain_first : (r : ℕ) → r < R → get_or (chains_of R N es) r 0 ≡ first_from (suc r) es 0
  unfolding chains_of firsts
  chain_first r l =
      get_or-append firsts (padded N (nexts_of 0 es)) 0 r (omega (arith, firsts-long))
      ∙ get_d-listed (λ r. first_of (suc r) 0 es) R r 0 l

  pub chain_next : (i : ℕ) → get_or (chains_of R N es) (R + i) 0 ≡ next_of es i
  unfolding chains_of firsts
  chain_next i =
      ap (λ (k : ℕ). get_or (chains_of R N es) (k + i) 0) (sym firsts-long) ∙ get_or-append-add firsts (padded N (nexts_of 0 es)) i 0
      ∙ get_d-padded N (nexts_of 0 es) i

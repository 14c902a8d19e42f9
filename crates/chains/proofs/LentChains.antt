-- The lent slice: what it is to have the chains of a remember table, and to be given them.
use Rattle.std.specs.Prelude.{ℕ, suc, ◌+◌, ◌-◌, ◌≤◌, ◌<◌, List, [], ◌++◌, ◌≡◌, length, get_or, take, drop, replicate}
use Rattle.std.proofs.Common.{sym, ap, subst, ◌∙◌, arith, mul-le-mul, take-append-drop, length-append, length-drop, take_at}
use Rattle.std.proofs.Math.Decide.{dec_lt}
use Rattle.std.proofs.Math.Seq.{drop-append_seam}
use Rattle.lists.specs.Zeros.{all-zero}
use Rattle.rules.specs.declared.Sizes.{Sizes}
use Rattle.rules.specs.Regions.{regions}
use Rattle.layout.specs.Places.{entries_used, chains_words}
use Rattle.remember.specs.Table.{entries_in}
use Rattle.remember.specs.TableWords.{to-long}
use Rattle.chains.specs.Chains.{chains_of, Listed, Chainable, ChainsWhole, chains_in, with_chains}
use Rattle.chains.proofs.Firsts.{first-end, next-end, chains-long, chain_first, chain_next}

-- with the last region, as read
module _ {s : Sizes} {m : List ℕ} (c : Chainable s m) {R : ℕ} (e : R ≡ regions s) where
  pub chainable-listed : Listed R s.entries m
  chainable-listed =
      subst (λ (r : ℕ). Listed r s.entries m) (sym e)
      (record { few = omega (arith, mul-le-mul c.threads c.depth); entries = c.entries; long = c.long; room = c.room; among = c.among })

module _ (s : Sizes) (m : List ℕ) {R : ℕ} (e : R ≡ regions s) (k : List ℕ) where
  pub chains-written : {k' : List ℕ} → k' ≡ chains_of R s.entries (entries_in s.entries m) ++ drop (R + s.entries) k → k' ≡ with_chains s m k
  chains-written q = q ∙ ap (λ (r : ℕ). chains_of r s.entries (entries_in s.entries m) ++ drop (r + s.entries) k) e

  pub chains-agree : take (R + s.entries) k ≡ chains_of R s.entries (entries_in s.entries m) → ChainsWhole s m k
  chains-agree q = record { words = subst (λ (r : ℕ). take (r + s.entries) k ≡ chains_of r s.entries (entries_in s.entries m)) e q }

  pub agreed-words : ChainsWhole s m k → take (R + s.entries) k ≡ chains_of R s.entries (entries_in s.entries m)
  agreed-words w = subst (λ (r : ℕ). take (r + s.entries) k ≡ chains_of r s.entries (entries_in s.entries m)) (sym e) w.words

-- words that have the chains are as they would be written
pub chains-same : {s : Sizes} {m k : List ℕ} → ChainsWhole s m k → k ≡ with_chains s m k
chains-same {s} {m} {k} w = sym (take-append-drop (chains_words s) k) ∙ ap (λ (l : List ℕ). l ++ drop (chains_words s) k) w.words

module _ (s : Sizes) (m k : List ℕ) (room : entries_used m ≤ s.entries) where
  pub chains-in-long : length (chains_in s m) ≡ chains_words s
  chains-in-long = chains-long (regions s) s.entries (entries_in s.entries m) (omega (arith, to-long s.entries m (entries_used m)))

  -- and those that were written have them
  pub written-whole : ChainsWhole s m (with_chains s m k)
  written-whole = record { words = take_at (chains_in s m) (drop (chains_words s) k) (chains_words s) chains-in-long }

  pub written-long : chains_words s ≤ length k → length (with_chains s m k) ≡ length k
  written-long l = omega (arith, length-append (chains_in s m) (drop (chains_words s) k), chains-in-long, length-drop (chains_words s) k)

-- a table without entries has no chains
pub no-chains : (s : Sizes) (m : List ℕ) → entries_used m ≡ 0 → chains_in s m ≡ replicate (chains_words s) 0
no-chains s m none =
    all-zero (chains_in s m) (chains_words s) (chains-in-long s m [] (omega arith)) (λ i l. go i l (dec_lt i (regions s)))
  where
    empty : length (entries_in s.entries m) ≡ 0
    empty = to-long s.entries m (entries_used m) ∙ none

    go : (i : ℕ) → i < chains_words s → Dec (i < regions s) → get_or (chains_in s m) i 0 ≡ 0
    go i l (yes h) =
        chain_first (regions s) s.entries (entries_in s.entries m) (omega (arith, empty)) i h ∙ first-end (suc i) (entries_in s.entries m) 0 (omega (arith, empty))
    go i l (no h) =
        let e : regions s + (i - regions s) ≡ i = omega arith in
        ap (λ (j : ℕ). get_or (chains_in s m) j 0) (sym e) ∙ chain_next (regions s) s.entries (entries_in s.entries m) (omega (arith, empty)) (i - regions s)
        ∙ next-end (entries_in s.entries m) (i - regions s) (omega (arith, empty))

-- written twice, the second time alone counts
pub written-again : (s : Sizes) (m m' k : List ℕ) → entries_used m ≤ s.entries → with_chains s m' (with_chains s m k) ≡ with_chains s m' k
written-again s m m' k room =
    ap (λ (l : List ℕ). chains_in s m' ++ l) (ap (λ (n : ℕ). drop n (with_chains s m k)) (sym (chains-in-long s m k room)) ∙ drop-append_seam (chains_in s m) (drop (chains_words s) k))

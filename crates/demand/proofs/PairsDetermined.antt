-- The history of the pairs leaves no choice: what the runs did to the words determines which objects are paired.
use Rattle.std.specs.Prelude.{ℕ, zero, suc, ◌<◌, ◌≡◌, refl, List, [], ◌∷◌, map, length, get_or}
use Rattle.std.proofs.Common.{arith, sym, ap, ap₂, subst, ◌∙◌, inl, inr, ⊎_elim}
use Rattle.std.proofs.Math.Decide.{ℕ_discrete}
use Rattle.std.proofs.Math.ListN.{get_or-append}
use Rattle.std.proofs.lemmas.List.{get_or_at}
use Rattle.lists.specs.Members.{In, in-append, in_bounds}
use Rattle.rules.specs.declared.Sizes.{Sizes}
use Rattle.rules.specs.declared.Command.{Command}
use Rattle.rules.specs.declared.Answer.{Answer}
use Rattle.rules.specs.NeverFreeing.{Effect, opens, ends, collects, makes, assigns, meaning_of}
use Rattle.rules.specs.Regions.{control, region_at}
use Rattle.rules.specs.Rules as ru
use Rattle.laws.specs.RulesLaws.{region-pos, control-pos}
use Rattle.layout.specs.Words.{Words, BeginsIn, sizes_in, depth_in, var_in, heap_of}
use Rattle.promises.specs.Whole.{WholeFor}
use Rattle.promises.specs.Slices.{Slices}
use Rattle.promises.specs.Promises.{Chain, none, more, Did, Ran}
use Rattle.promises.specs.Reading.{used-alive}
use Rattle.promises.specs.Agreed.{heap-stands, back}
use Rattle.promises.specs.Chained.{asked-whole, did-whole}
use Rattle.demand.specs.DemandThree.{Block, Runs, stop, next, Moves, PairsAfter, Changes, Followed, Traced}
use Rattle.demand.specs.Pairing.{pairs_of, pair-alive, stands-paired}
use Rattle.demand.specs.MovesUnique.{moves-unique}
use Rattle.demand.proofs.Following.{did-changes}

-- every pair leads to an object's cell
abbrev pub Living : Sizes → Words → List ℕ → Type 0
Living s w pairs = (c : ℕ) → In (suc c) pairs → BeginsIn s w c

-- ---- one command, of whole words

module _ {s : Sizes} {w w₁ : Words} {m : Command} {a : Answer} (k : WholeFor s w) (did : Did s w m w₁ a) where
  -- the pairs of every object's cell with itself, before and after
  pairs : List ℕ
  pairs = pairs_of (heap_of s w) (λ c. c)

  pairs₁ : List ℕ
  pairs₁ = pairs_of (ru.step s (heap_of s w) m).next (did.next (heap_of s w) (λ c. c) (heap-stands s w k)).cell

  before : (c : ℕ) → BeginsIn s w c → get_or pairs c 0 ≡ suc c
  unfolding pairs
  before c u = pair-alive s w (heap_of s w) (λ x. x) (heap-stands s w k) c (back s w k c (used-alive s w k c u))

  after : (x c : ℕ) → get_or pairs₁ x 0 ≡ suc c → BeginsIn s w₁ c
  unfolding pairs₁
  after x c e = ((stands-paired s w₁ (ru.step s (heap_of s w) m).next (did.next (heap_of s w) (λ c. c) (heap-stands s w k)).cell (did.next (heap_of s w) (λ c. c) (heap-stands s w k)).stands).used x c e).0

  change : Changes s w m a w₁ pairs pairs₁
  unfolding pairs pairs₁
  change = did-changes s did (heap_of s w) (λ c. c) (heap-stands s w k)

  -- where all pairs are kept, the objects stay where they are
  kept-living : pairs₁ ≡ pairs → (p p₁ : List ℕ) → Living s w p → p₁ ≡ p → Living s w₁ p₁
  kept-living k p p₁ l e c i = after c c (ap (λ (l : List ℕ). get_or l c 0) k ∙ before c (l c (subst (λ (q : List ℕ). In (suc c) q) e i)))

  -- what moves takes its pair along to an object's cell
  moved-living : {r : ℕ} {move : ℕ → ℕ} → Moves s w r w₁ move → (p : List ℕ) → Living s w p → (c : ℕ) → In (suc c) (map move p) → BeginsIn s w₁ c
  moved-living {r = r} {move = move} mv [] h c x'' = elim x'' [ ]
  moved-living {r} {move} mv (v ∷ p) h c (inl q) = from v (λ d y. h d (inl (sym y))) q
    where
      from : (v : ℕ) → ((d : ℕ) → v ≡ suc d → BeginsIn s w d) → suc c ≡ move v → BeginsIn s w₁ c
      from zero h q = absurd (let y : ⊥ = omega (arith, mv.null) in y)
      from (suc d) h q = mv.lands d c (h d refl) (sym q)
  moved-living mv (v ∷ p) h c (inr j) = moved-living mv p (λ d y. h d (inr y)) c j

  effect-living : (t : ℕ) (x : Effect) → PairsAfter s w w₁ t x pairs pairs₁ → (p p₁ : List ℕ) → Living s w p → PairsAfter s w w₁ t x p p₁ → Living s w₁ p₁
  effect-living t opens k p p₁ l e c i = kept-living k p p₁ l e c i
  effect-living t ends k p p₁ l (move, mv, e) c i = moved-living mv p l c (subst (λ (q : List ℕ). In (suc c) q) e i)
  effect-living t collects k p p₁ l (move, mv, e) c i = moved-living mv p l c (subst (λ (q : List ℕ). In (suc c) q) e i)
  effect-living t (makes a b d) k p p₁ l e c i = ⊎_elim old new (in-append (suc c) p (var_in s w₁ t a ∷ []) (subst (λ (q : List ℕ). In (suc c) q) e i))
    where
      old : In (suc c) p → BeginsIn s w₁ c
      old j = after c c (ap (λ (l : List ℕ). get_or l c 0) k ∙ get_or-append pairs (var_in s w₁ t a ∷ []) 0 c (in_bounds pairs c (λ z. omega (arith, before c (l c j)))) ∙ before c (l c j))

      -- the variable of a new object names it
      new : In (suc c) (var_in s w₁ t a ∷ []) → BeginsIn s w₁ c
      new (inl v) = after (length pairs) c (ap (λ (l : List ℕ). get_or l (length pairs) 0) k ∙ get_or_at pairs (var_in s w₁ t a) [] 0 (length pairs) refl ∙ sym v)
      new (inr j) = absurd j
  effect-living t (assigns x) k p p₁ l e c i = kept-living k p p₁ l e c i

  pub living-next : {p p₁ : List ℕ} → Living s w p → Changes s w m a w₁ p p₁ → Living s w₁ p₁
  living-next {p} {p₁} l d = go (ℕ_discrete a.number 0)
    where
      go : Dec (a.number ≡ 0) → Living s w₁ p₁
      go (yes z) = effect-living m.thread (meaning_of m).effect (change.done z) p p₁ l (d.done z)
      go (no n) = kept-living (change.refused n) p p₁ l (d.refused n)

  -- two moves of the same end or collection give the same pairs
  moved_same : (r : ℕ) → 0 < r → (f g : ℕ → ℕ) → Moves s w r w₁ f → Moves s w r w₁ g → (p : List ℕ) → Living s w p → map f p ≡ map g p
  moved_same r pos f g mf mg [] l = refl
  moved_same r pos f g mf mg (v ∷ p) l =
      ap₂ (λ (x : ℕ) (xs : List ℕ). x ∷ xs) (at v (λ d y. l d (inl (sym y)))) (moved_same r pos f g mf mg p (λ d y. l d (inr y)))
    where
      at : (v : ℕ) → ((d : ℕ) → v ≡ suc d → BeginsIn s w d) → f v ≡ g v
      at zero h = mf.null ∙ sym mg.null
      at (suc d) h = moves-unique s w w₁ k (did-whole s k did) r pos f g mf mg d (h d refl)

  effect-same : (t : ℕ) (x : Effect) (p q₁ q₂ : List ℕ) → Living s w p → PairsAfter s w w₁ t x p q₁ → PairsAfter s w w₁ t x p q₂ → q₁ ≡ q₂
  effect-same t opens p q₁ q₂ l e f = e ∙ sym f
  effect-same t ends p q₁ q₂ l e f = e.2 ∙ moved_same (region_at s t (depth_in w t)) (region-pos s t (depth_in w t)) e.0 f.0 e.1 f.1 p l ∙ sym f.2
  effect-same t collects p q₁ q₂ l e f = e.2 ∙ moved_same control control-pos e.0 f.0 e.1 f.1 p l ∙ sym f.2
  effect-same t (makes a b c) p q₁ q₂ l e f = e ∙ sym f
  effect-same t (assigns x) p q₁ q₂ l e f = e ∙ sym f

  pub changes-same : {p q₁ q₂ : List ℕ} → Living s w p → Changes s w m a w₁ p q₁ → Changes s w m a w₁ p q₂ → q₁ ≡ q₂
  changes-same {p} {q₁} {q₂} l d e = go (ℕ_discrete a.number 0)
    where
      go : Dec (a.number ≡ 0) → q₁ ≡ q₂
      go (yes z) = effect-same m.thread (meaning_of m).effect p q₁ q₂ l (d.done z) (e.done z)
      go (no n) = d.refused n ∙ sym (e.refused n)

-- ---- the commands of a block

pub record OneHistory (s : Sizes) (w : Words) (p q : List ℕ) : Type 0 where
  pub same : p ≡ q
  pub whole : WholeFor s w
  pub living : Living s w p

followed_same : (s : Sizes) {w w' : Words} {ms : List Command} {as' : List Answer} (c : Chain s w ms as' w') → WholeFor s w → (start p q : List ℕ) → Living s w start
    → Followed s c start p → Followed s c start q → OneHistory s w' p q
followed_same s {w} none k start p q l e f =
    record { same = e ∙ sym f; whole = k; living = subst (λ (x : List ℕ). Living s w x) (sym e) l }
followed_same s (more did rest) k start p q l e f =
    followed_same s rest (did-whole s k did) e.0 p q (living-next k did l e.1) e.2
    (subst (λ (x : List ℕ). Followed s rest x q) (sym (changes-same k did l e.1 f.1)) f.2)

-- ---- the list of blocks

-- the pairs after a block, which a refused one does not change
module _ {l : Slices} (b : Block) (ran : Ran l b.block b.lent b.number b.left b.answers) (start p q : List ℕ) (i : Living (sizes_in l.words) l.words start)
    (e : (z : b.number ≡ 0) → Followed (sizes_in l.words) (ran.obeyed z) start p) (f : (z : b.number ≡ 0) → Followed (sizes_in l.words) (ran.obeyed z) start q)
    (e' : (b.number ≡ 0 → ⊥) → p ≡ start) (f' : (b.number ≡ 0 → ⊥) → q ≡ start) where
  block_same : (p ≡ q) × Living (sizes_in b.left.words) b.left.words p
  block_same = go (ℕ_discrete b.number 0)
    where
      go : Dec (b.number ≡ 0) → (p ≡ q) × Living (sizes_in b.left.words) b.left.words p
      go (yes z) =
          let h = followed_same (sizes_in l.words) (ran.obeyed z) (asked-whole ran.asked z).words start p q i (e z) (f z) in
          (h.same, subst (λ (s : Sizes). Living s b.left.words p) (sym h.whole.sized.sizes) h.living)
      go (no n) = (
        e' n ∙ sym (f' n),
        subst (λ (x : List ℕ). Living (sizes_in b.left.words) b.left.words x) (sym (e' n)) (subst (λ (v : Slices). Living (sizes_in v.words) v.words start) (sym (ran.refused n).0) i),
      )

-- from any pairs that lead to objects' cells
pub traced-same : {l l' : Slices} {bs : List Block} (runs : Runs l bs l') (start p q : List ℕ) → Living (sizes_in l.words) l.words start → Traced runs start p → Traced runs start q → p ≡ q
traced-same stop start p q l e f = e ∙ sym f
traced-same (next {b = b} ran rest) start p q l e f =
    let h = block_same b ran start e.0 f.0 l e.1 f.1 e.2 f.2 in
    traced-same rest e.0 p q h.1 e.3 (subst (λ (x : List ℕ). Traced rest x q) (sym h.0) f.3)

-- from prepare on: after it there is no pair
pub pairs-determined : {l l' : Slices} {bs : List Block} (runs : Runs l bs l') (p q : List ℕ) → Traced runs [] p → Traced runs [] q → p ≡ q
pairs-determined runs p q e f = traced-same runs [] p q (λ c i. absurd i) e f

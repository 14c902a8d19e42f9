-- The notes after pages are released: note 0 counts no more pages than lie above the last of them, so that none of those it counts is free.
use Rattle.std.specs.Prelude.{◌≡◌, ℕ, ◌+◌, ◌-◌, ◌<◌, ◌≤◌, Bool, cond, List, length, set, ◌==◌, nat_lt, slice_index, slice_index_or, slice_set, refl}
use Rattle.std.proofs.Common.{sym, ap, subst, ◌∙◌, arith, length-set, get_or-set_same, eq-eqb, ne_eqb, lt-ltb, le-ltb}
use Rattle.std.proofs.Math.Path.{ap₂}
use Rattle.std.proofs.Math.Logic.{by_cases}
use Rattle.std.proofs.Math.Decide.{ℕ_discrete, dec_lt}
use Rattle.lists.specs.Part.{Rises, Lists}
use Rattle.rules.specs.declared.Sizes.{Sizes}
use Rattle.rules.specs.Regions.{regions}
use Rattle.layout.specs.Places.{Room, owner_of}
use Rattle.pages.specs.Noted.{Noted}
use Rattle.release.specs.Release.{Ended, ended-alike}

-- of so many pages, those above the last of the first n of the list l
abbrev pub above_last : ℕ → List ℕ → ℕ → ℕ
above_last pages l n = pages - 1 - slice_index l (n - 1)

-- the first n of the list l are released
unfoldable pub noted : ℕ → List ℕ → List ℕ → ℕ → List ℕ
noted pages notes l n = cond (n == 0) notes (cond (nat_lt (above_last pages l n) (slice_index notes 0)) (slice_set notes 0 (above_last pages l n)) notes)

module _ (pages : ℕ) (notes l : List ℕ) (n : ℕ) where
  noted-is : {a b : Bool} → (n == 0) ≡ a → nat_lt (above_last pages l n) (slice_index notes 0) ≡ b → noted pages notes l n ≡ cond a notes (cond b (slice_set notes 0 (above_last pages l n)) notes)
  unfolding noted
  noted-is e f = ap₂ (λ (a b : Bool). cond a notes (cond b (slice_set notes 0 (above_last pages l n)) notes)) e f

  pub noted-none : n ≡ 0 → notes ≡ noted pages notes l n
  noted-none z = sym (noted-is (eq-eqb n 0 z) refl)

  module _ (some : n ≡ 0 → ⊥) where
    -- a is the pages above the last as the code has them
    pub noted-falls : (a : ℕ) → a ≡ above_last pages l n → a < slice_index notes 0 → slice_set notes 0 a ≡ noted pages notes l n
    noted-falls a e h = ap (set notes 0) e ∙ sym (noted-is (ne_eqb n 0 some) (lt-ltb (above_last pages l n) (slice_index notes 0) (omega arith)))

    pub noted-stays : slice_index_or notes 0 0 ≤ above_last pages l n → notes ≡ noted pages notes l n
    noted-stays h = sym (noted-is (ne_eqb n 0 some) (le-ltb (above_last pages l n) (slice_index notes 0) h))

-- note 0 counts no page that it did not, and none that is listed
pub record NoteLowered (pages : ℕ) (notes l : List ℕ) (n : ℕ) (notes' : List ℕ) : Type 0 where
  pub long : length notes' ≡ length notes
  pub less : slice_index_or notes' 0 0 ≤ slice_index notes 0
  pub below : (i : ℕ) → i < n → slice_index l i + slice_index notes' 0 < pages

pub lowered : (pages : ℕ) (notes l : List ℕ) (n : ℕ) → 0 < length notes → Rises pages n l → NoteLowered pages notes l n (noted pages notes l n)
lowered pages notes l n some r =
    by_cases (ℕ_discrete n 0)
    (λ z. subst (NoteLowered pages notes l n) (noted-none pages notes l n z) (record { long = refl; less = omega arith; below = λ i m. absurd (let y : ⊥ = omega arith in y) }))
    (λ z. by_cases (dec_lt (above_last pages l n) (slice_index notes 0))
    (λ h. subst (NoteLowered pages notes l n) (noted-falls pages notes l n z (above_last pages l n) refl h)
    (record {
      long = length-set notes 0 (above_last pages l n);
      less = omega (arith, put);
      below = λ i m. omega (arith, put, last i m, r.low (n - 1) (omega arith));
    }))
    (λ h. subst (NoteLowered pages notes l n) (noted-stays pages notes l n z (omega arith))
    (record { long = refl; less = omega arith; below = λ i m. omega (arith, last i m, r.low (n - 1) (omega arith)) })))
  where
    put : slice_index_or (slice_set notes 0 (above_last pages l n)) 0 0 ≡ above_last pages l n
    put = get_or-set_same notes 0 (above_last pages l n) 0 some

    last : (i : ℕ) → i < n → slice_index l i ≤ slice_index l (n - 1)
    last i m =
        by_cases (ℕ_discrete i (n - 1)) (λ e. omega (arith, ap (λ (x : ℕ). slice_index l x) e)) (λ e. omega (arith, r.rising i (n - 1) (omega arith) (omega arith)))

-- the notes are right again once the listed pages of region r are free
pub ended-noted : {p : Sizes} {r t k n : ℕ} {T T' l notes notes' : List ℕ} → Room p (length T) → 1 ≤ r → r ≤ regions p → t < p.threads → Ended p r t k T T'
    → Lists (λ page. owner_of p T page ≡ r) p.pages n l → Noted p T notes → notes' ≡ noted p.pages notes l n → Noted p T' notes'
ended-noted {p} {r} {t} {k} {n} {T} {T'} {l} {notes} room real low thread h list a e =
    subst (Noted p T') (sym e)
    (record {
      long = omega (arith, a.long, d.long);
      passed = λ x m b z. by_cases (ℕ_discrete (owner_of p T x) r)
          (λ o. list.all x b o (λ i u y. omega (arith, d.below i u)))
          (λ o. a.passed x (omega (arith, d.less)) b (sym (ended-alike room real low thread h x b o).owner ∙ z));
    })
  where
    d : NoteLowered p.pages notes l n (noted p.pages notes l n)
    d = lowered p.pages notes l n (omega (arith, a.long)) list.rises

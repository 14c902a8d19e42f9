-- A field of the object that a reference names: questions 9 and 10, and that it lies in the cells.
use Rattle.std.specs.Prelude.{◌≡◌, ℕ, ◌+◌, ◌<◌, ◌≤◌, Bool, not, List, length, ◌≢◌, nat_lt}
use Rattle.std.proofs.Common.{sym, ap, ap₂, ◌∙◌, arith, lt-ltb, le-ltb, eq-eqb, ne_eqb}
use Rattle.std.proofs.Math.Decide.{ℕ_discrete, dec_lt}
use Rattle.rules.specs.Terms.{ask}
use Rattle.rules.specs.NeverFreeing.{used}
use Rattle.layout.specs.declared.Kind.{Kind}
use Rattle.layout.specs.Cells.{head_of, field_at, field_count, first_field, kind_at, cell_named, most_fields, CellIn}

-- x is null, or its cell lies in n words
abbrev pub NamesCell : ℕ → ℕ → Type 0
NamesCell x n = 0 < x → CellIn (cell_named x) n

-- field f of x's object, one of the most it may have
pub record Field (k : Kind) (c : List ℕ) (x f : ℕ) : Type 0 where
  pub real : 0 < x
  pub inside : CellIn (cell_named x) (length c)
  pub field : first_field k (head_of c (cell_named x)) + f < most_fields

-- ---- questions 9 and 10 as the code asks them

pub used-null : (x f n : ℕ) → x ≡ 0 → 9 ≡ used x f n
unfolding ask
used-null x f n e = sym (ap (λ (b : Bool). ask (not b) 9 (ask (nat_lt f n) 10 0)) (eq-eqb x 0 e))

pub used-past : (x f n : ℕ) → (x ≢ 0) → n ≤ f → 10 ≡ used x f n
unfolding ask
used-past x f n e l = sym (ap₂ (λ (b d : Bool). ask (not b) 9 (ask d 10 0)) (ne_eqb x 0 e) (le-ltb f n l))

pub used-fine : (x f n : ℕ) → (x ≢ 0) → f < n → 0 ≡ used x f n
unfolding ask
used-fine x f n e l = sym (ap₂ (λ (b d : Bool). ask (not b) 9 (ask d 10 0)) (ne_eqb x 0 e) (lt-ltb f n l))

pub used-both : (x f n : ℕ) → used x f n ≡ 0 → (0 < x) × (f < n)
used-both x f n e = go (ℕ_discrete x 0) (dec_lt f n)
  where
    go : Dec (x ≡ 0) → Dec (f < n) → (0 < x) × (f < n)
    go (yes z) d = absurd (let o : ⊥ = omega (arith, used-null x f n z) in o)
    go (no z) (yes l) = (omega arith, l)
    go (no z) (no l) = absurd (let o : ⊥ = omega (arith, used-past x f n z (omega arith)) in o)

-- b is the cell that x names, h its word 0, n the count of its fields
module _ (k : Kind) (c : List ℕ) (x f b h n : ℕ) (q : b ≡ cell_named x) (g : h ≡ head_of c b) (e : n ≡ field_count k h) where
  count-is : n ≡ field_count k (head_of c (cell_named x))
  count-is = e ∙ ap (field_count k) (g ∙ ap (head_of c) q)

  pub asked-fine : (x ≢ 0) → f < n → 0 ≡ used x f (field_count k (head_of c (cell_named x)))
  asked-fine z l = used-fine x f (field_count k (head_of c (cell_named x))) z (omega (arith, count-is))

  pub asked-past : (x ≢ 0) → n ≤ f → 10 ≡ used x f (field_count k (head_of c (cell_named x)))
  asked-past z l = used-past x f (field_count k (head_of c (cell_named x))) z (omega (arith, count-is))

-- the first field of its kind, and the field's place among all
pub first-is : (k : Kind) (c : List ℕ) (x b h n : ℕ) → b ≡ cell_named x → h ≡ head_of c b → n ≡ first_field k h → n ≡ first_field k (head_of c (cell_named x))
first-is k c x b h n q g e = e ∙ ap (first_field k) (g ∙ ap (head_of c) q)

pub place_is : (k : Kind) (c : List ℕ) (x f b i : ℕ) → b ≡ cell_named x → i ≡ first_field k (head_of c (cell_named x)) + f → field_at b i ≡ kind_at k c (cell_named x) f
place_is k c x f b i q e = ap₂ field_at q e

-- References go by the forward reference in word 1 of the cell that they name: one reference, one word, sets of positions.
use Rattle.std.specs.Prelude.{◌≡◌, refl, ◌≢◌, ◌⊎◌, cond, List, ℕ, ◌≤◌, ◌<◌, eqb, length, get_or, set}
use Rattle.std.proofs.Common.{sym, ap, ◌∙◌, subst, inl, inr, ⊎_elim, arith, eq-eqb, ne_eqb, length-set, get_or-set_same, get_or-set_other}
use Rattle.std.proofs.Math.Decide.{ℕ_discrete}
use Rattle.layout.specs.Cells.{work_of, head_of, refs_of, cell_named, head_at, work_at, word_of, field_count, head-there, work-there}
use Rattle.layout.specs.declared.Kind.TheVariants.{Reference}
use Rattle.layout.specs.Objects.{Begins, begins-same, begins-back}
use Rattle.rules.specs.declared.Sizes.{Sizes}

-- the reference x, by way of word 1 of the cell that it names, where that is not zero
unfoldable pub forwarded : List ℕ → ℕ → ℕ
forwarded W x = cond (eqb x 0) 0 (cond (eqb (work_of W (cell_named x)) 0) x (work_of W (cell_named x)))

pub forward-null : (W : List ℕ) (x : ℕ) → x ≡ 0 → forwarded W x ≡ 0
unfolding forwarded
forward-null W x e = rw (eq-eqb _ _ e)

pub forward-moved : (W : List ℕ) (x : ℕ) → x ≢ 0 → work_of W (cell_named x) ≢ 0 → forwarded W x ≡ work_of W (cell_named x)
unfolding forwarded
forward-moved W x n m = rw (ne_eqb _ _ n, ne_eqb _ _ m)

pub forward-still : (W : List ℕ) (x : ℕ) → work_of W (cell_named x) ≡ 0 → forwarded W x ≡ x
unfolding forwarded
forward-still W x e = go (ℕ_discrete x 0)
  where
    go : Dec (x ≡ 0) → forwarded W x ≡ x
    go (yes z) = forward-null W x z ∙ sym z
    go (no n) = rw (ne_eqb _ _ n, eq-eqb _ _ e)

-- it looks at word 1 of cells alone
pub forward-same : (W W' : List ℕ) (x : ℕ) → work_of W' (cell_named x) ≡ work_of W (cell_named x) → forwarded W' x ≡ forwarded W x
unfolding forwarded
forward-same W W' x e = ap (λ (y : ℕ). cond (eqb x 0) 0 (cond (eqb y 0) x y)) e

-- ---- the words at the positions of P are rewritten, and nothing else

pub record Rewritten (P : ℕ → Type 0) (W W' : List ℕ) : Type 0 where
  pub size : length W' ≡ length W
  pub fields : (x : ℕ) → P x → 2 ≤ word_of x
  pub moved : (x : ℕ) → P x → get_or W' x 0 ≡ forwarded W (get_or W x 0)
  pub same : (x : ℕ) → (P x → ⊥) → get_or W' x 0 ≡ get_or W x 0

module _ {P : ℕ → Type 0} {W W' : List ℕ} (h : Rewritten P W W') where
  pub head-same : (x : ℕ) → word_of x < 2 → get_or W' x 0 ≡ get_or W x 0
  head-same x l = h.same x (λ q. let z : 2 ≤ word_of x = h.fields x q in omega arith)

  pub link-same : (c : ℕ) → work_of W' c ≡ work_of W c
  link-same c = head-same (work_at c) (omega (arith, work-there c))

  pub heads-same : (c : ℕ) → head_of W' c ≡ head_of W c
  heads-same c = head-same (head_at c) (omega (arith, head-there c))

  pub refs-same : (c : ℕ) → refs_of W' c ≡ refs_of W c
  refs-same c = ap (field_count Reference) (heads-same c)

  -- the objects begin where they began
  pub begins-now : (p : Sizes) (T : List ℕ) (c : ℕ) → Begins p W T c → Begins p W' T c
  begins-now p T c = begins-same p W T W' T c refl (λ j b e. heads-same j)

  pub begins-then : (p : Sizes) (T : List ℕ) (c : ℕ) → Begins p W' T c → Begins p W T c
  begins-then p T c = begins-back p W T W' T c refl (λ j b e. heads-same j)

  pub ref-same : (x : ℕ) → forwarded W' x ≡ forwarded W x
  ref-same x = forward-same W W' x (link-same (cell_named x))

pub rewritten-none : (P : ℕ → Type 0) (W : List ℕ) → ((x : ℕ) → P x → ⊥) → Rewritten P W W
rewritten-none P W n = record { size = refl; fields = λ x q. absurd (n x q); moved = λ x q. absurd (n x q); same = λ x q. refl }

-- one word
pub rewritten-one : {W : List ℕ} (x v : ℕ) → x < length W → 2 ≤ word_of x → v ≡ forwarded W (get_or W x 0) → Rewritten (λ y. y ≡ x) W (set W x v)
rewritten-one {W} x v l f e =
    record {
      size = length-set W x v;
      fields = λ y q. subst (λ (z : ℕ). 2 ≤ word_of z) (sym q) f;
      moved = λ y q. subst (λ (z : ℕ). get_or (set W x v) z 0 ≡ forwarded W (get_or W z 0)) (sym q) (get_or-set_same W x v 0 l ∙ e);
      same = λ y n. get_or-set_other W x y v 0 n;
    }

-- one set of positions after another that has none of the first
pub rewritten-join : {P Q R : ℕ → Type 0} {W W' W'' : List ℕ} → Rewritten P W W' → Rewritten Q W' W''
    → ((x : ℕ) → P x → Q x → ⊥) → ((x : ℕ) → R x → P x ⊎ Q x) → ((x : ℕ) → P x ⊎ Q x → R x) → Rewritten R W W''
rewritten-join {P} {Q} {R} {W} {W'} {W''} a b apart from to =
    record {
      size = b.size ∙ a.size;
      fields = λ x q. ⊎_elim (a.fields x) (b.fields x) (from x q);
      moved = λ x q. moved' x (from x q);
      same = λ x n. b.same x (λ q. n (to x (inr q))) ∙ a.same x (λ q. n (to x (inl q)));
    }
  where
    moved' : (x : ℕ) → P x ⊎ Q x → get_or W'' x 0 ≡ forwarded W (get_or W x 0)
    moved' x (inl q) = b.same x (apart x q) ∙ a.moved x q
    moved' x (inr q) = b.moved x q ∙ ref-same a (get_or W' x 0) ∙ ap (forwarded W) (a.same x (λ z. apart x z q))

-- the same positions, said in another way
pub rewritten-like : {P R : ℕ → Type 0} {W W' : List ℕ} → Rewritten P W W' → ((x : ℕ) → R x → P x) → ((x : ℕ) → P x → R x) → Rewritten R W W'
rewritten-like h from to =
    record { size = h.size; fields = λ x q. h.fields x (from x q); moved = λ x q. h.moved x (from x q); same = λ x n. h.same x (λ q. n (to x q)) }

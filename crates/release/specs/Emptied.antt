-- The cells in use on r's pages become zero, and no other word changes.
use Rattle.std.specs.Prelude.{◌≡◌, ℕ, ◌+◌, ◌<◌, ◌≤◌, ◌≢◌, List, length, slice_index, refl}
use Rattle.std.proofs.Common.{sym, ap, ◌∙◌, arith}
use Rattle.std.proofs.Math.Logic.{by_cases}
use Rattle.std.proofs.Math.Decide.{ℕ_discrete, dec_lt}
use Rattle.lists.specs.Zeros.{Cleared}
use Rattle.rules.specs.declared.Sizes.{Sizes}
use Rattle.layout.specs.Places.{owner_of, used_of}
use Rattle.layout.specs.Cells.{head_at, cell_on, cell_of, page_at, page_cells}
use Rattle.layout.specs.Objects.{InUse}

-- of the pages below n
pub record Emptied (p : Sizes) (r n : ℕ) (T W W' : List ℕ) : Type 0 where
  pub size : length W' ≡ length W
  pub zero : (q : ℕ) → page_at q < n → owner_of p T (page_at q) ≡ r → InUse p T (cell_of q) → slice_index W' q ≡ 0
  pub same : (q : ℕ) → (page_at q < n → owner_of p T (page_at q) ≡ r → InUse p T (cell_of q) → ⊥) → slice_index W' q ≡ slice_index W q

pub emptied-start : (p : Sizes) (r : ℕ) (T W : List ℕ) → Emptied p r 0 T W W
emptied-start p r T W = record { size = refl; zero = λ q l. absurd (let z : ⊥ = omega arith in z); same = λ q n. refl }

module _ {p : Sizes} {r n : ℕ} {T W W' : List ℕ} (h : Emptied p r n T W W') where
  -- page n is not r's
  pub emptied-left : owner_of p T n ≢ r → Emptied p r (n + 1) T W W'
  emptied-left ne =
      record {
        size = h.size;
        zero = λ q l own u.
            by_cases (ℕ_discrete (page_at q) n) (λ e. absurd (ne (ap (owner_of p T) (sym e) ∙ own))) (λ m. h.zero q (omega arith) own u);
        same = λ q m. h.same q (λ l. m (omega arith));
      }

  -- it is, and the words of its cells in use were cleared
  module _ {W'' : List ℕ} (lt : n < p.pages) (own : owner_of p T n ≡ r) (few : used_of p T n ≤ page_cells)
      (c : Cleared (head_at (cell_on n 0)) (head_at (cell_on n (used_of p T n))) W' W'') where
    -- they are the words of the stretch
    in_use : (q : ℕ) → head_at (cell_on n 0) ≤ q → q < head_at (cell_on n (used_of p T n)) → (page_at q ≡ n) × InUse p T (cell_of q)
    in_use q l m =
        let e : page_at q ≡ n = omega arith in
        (e, record { page = omega arith; place = omega (arith, ap (used_of p T) e) })

    pub emptied-page : Emptied p r (n + 1) T W W''
    emptied-page =
        record {
          size = c.long ∙ h.size;
          zero = λ q l own u.
              by_cases (ℕ_discrete (page_at q) n) (λ e. c.zeros q (omega arith) (omega (arith, u.place, ap (used_of p T) e)))
              (λ m. c.low q (omega arith) ∙ h.zero q (omega arith) own u);
          same = λ q m.
              by_cases (dec_lt q (head_at (cell_on n 0))) (λ l. c.low q l ∙ h.same q (λ a. m (omega arith)))
              (λ l. by_cases (dec_lt q (head_at (cell_on n (used_of p T n))))
              (λ k. let u = in_use q (omega arith) k in absurd (m (omega (arith, u.0)) (ap (owner_of p T) u.0 ∙ own) u.1))
              (λ k. c.high q (omega arith) ∙ h.same q (λ a. m (omega arith))));
        }

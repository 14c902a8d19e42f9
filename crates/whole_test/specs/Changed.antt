-- Words with changes: pairs of a position and the word that it becomes.
use Rattle.std.specs.Prelude.{ℕ, zero, suc, ◌+◌, ◌*◌, List, ◌≡◌, refl, get_or, set}
use Rattle.std.proofs.Common.{sym, ap, ap₂, ◌∙◌, add-one}

-- the words after the first n changes; a position past the end changes nothing
unfoldable pub changed : List ℕ → List ℕ → ℕ → List ℕ
changed words changes zero = words
changed words changes (suc n) = set (changed words changes n) (get_or changes (2 * n) 0) (get_or changes (2 * n + 1) 0)

pub changed-none : (words changes : List ℕ) → words ≡ changed words changes 0
unfolding changed
changed-none words changes = refl

-- k became m by change n, as the code made it
pub changed-more : (words changes : List ℕ) (n : ℕ) (k m : List ℕ) (at : ℕ) → k ≡ changed words changes n → at ≡ get_or changes (2 * n) 0
    → m ≡ set k at (get_or changes (2 * n + 1) 0) → m ≡ changed words changes (n + 1)
unfolding changed
changed-more words changes n k m at e f g =
    g ∙ ap₂ (λ (l : List ℕ) (i : ℕ). set l i (get_or changes (2 * n + 1) 0)) e f ∙ sym (ap (changed words changes) (add-one n))

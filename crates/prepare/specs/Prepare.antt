-- The words that prepare writes, and the questions that it asks.
use Rattle.std.specs.Prelude.{ℕ, zero, suc, ◌+◌, ◌-◌, ◌≤◌, ◌<◌, List, [], ◌∷◌, ◌++◌, ◌≡◌, refl, get_or, length, set, drop, replicate}
use Rattle.std.proofs.Common.{sym, ap, subst, ◌∙◌, arith, length-set, length-append, length-drop, ext_get_or, get_or-append-add, get_or-drop}
use Rattle.std.proofs.Math.Decide.{dec_lt}
use Rattle.std.proofs.lemmas.List.{length-replicate, get_or-replicate}
use Rattle.std.proofs.Math.ListN.{get_or-append}
use Rattle.rules.specs.declared.Sizes.{Sizes}
use Rattle.rules.specs.Terms.{InRange}
use Rattle.layout.specs.Places.{with_sizes, cells_words, remember_words, tables_words, chains_words}
use Rattle.lists.specs.Stores.{put, past}
use Rattle.lists.specs.Zeros.{Cleared, cleared-to}
use Rattle.promises.specs.Slices.{Slices, slices}
use Rattle.promises.specs.Promises.{LongEnough, PrepareAsked, out_of_range, short, accepted, Prepared}

-- a list of n words that begins with h and is zero up to n, and then as l
pub headed : (h : List ℕ) (n : ℕ) (l k : List ℕ) → length h ≤ n → n ≤ length l → length k ≡ length l
    → ((i : ℕ) → i < length h → get_or k i 0 ≡ get_or h i 0) → ((i : ℕ) → length h ≤ i → i < n → get_or k i 0 ≡ 0) → ((i : ℕ) → n ≤ i → get_or k i 0 ≡ get_or l i 0)
    → k ≡ h ++ (replicate (n - length h) 0 ++ drop n l)
headed h n l k a b e first zeros rest = ext_get_or 0 k _ long (λ i m. go i (dec_lt i (length h)) (dec_lt i n))
  where
    Z : List ℕ
    Z = replicate (n - length h) 0

    zl : length Z ≡ n - length h
    zl = length-replicate {A = ℕ} (n - length h) 0

    long : length k ≡ length (h ++ (Z ++ drop n l))
    long = omega (arith, e, length-append h (Z ++ drop n l), length-append Z (drop n l), zl, length-drop n l)

    go : (i : ℕ) → Dec (i < length h) → Dec (i < n) → get_or k i 0 ≡ get_or (h ++ (Z ++ drop n l)) i 0
    go i (yes x) d = first i x ∙ sym (get_or-append h (Z ++ drop n l) 0 i x)
    go i (no x) (yes y) =
        let j : i ≡ length h + (i - length h) = omega arith in
        zeros i (omega arith) y
        ∙ sym (ap (λ (m : ℕ). get_or (h ++ (Z ++ drop n l)) m 0) j ∙ get_or-append-add h (Z ++ drop n l) (i - length h) 0
        ∙ get_or-append Z (drop n l) 0 (i - length h) (omega (arith, zl)) ∙ get_or-replicate (n - length h) (i - length h) 0 0 (omega arith))
    go i (no x) (no y) =
        let j : i ≡ length h + (i - length h) = omega arith in
        let u : i - length h ≡ length Z + (i - n) = omega (arith, zl) in
        let v : n + (i - n) ≡ i = omega arith in
        rest i (omega arith)
        ∙ sym (ap (λ (m : ℕ). get_or (h ++ (Z ++ drop n l)) m 0) j ∙ get_or-append-add h (Z ++ drop n l) (i - length h) 0
        ∙ ap (λ (m : ℕ). get_or (Z ++ drop n l) m 0) u ∙ get_or-append-add Z (drop n l) (i - n) 0 ∙ get_or-drop n l (i - n) 0 ∙ ap (λ (m : ℕ). get_or l m 0) v)

abbrev pub sizes : ℕ → ℕ → ℕ → ℕ → ℕ → Sizes
sizes threads variables depth pages entries = record { threads = threads; variables = variables; depth = depth; pages = pages; entries = entries }

-- the five sizes over zeros
pub tables-unused : (s : Sizes) (l k : List ℕ) → 5 ≤ tables_words s → tables_words s ≤ length l → Cleared 0 (tables_words s) l k
    → with_sizes k s.threads s.variables s.depth s.pages s.entries
    ≡ s.threads ∷ s.variables ∷ s.depth ∷ s.pages ∷ s.entries ∷ replicate (tables_words s - 5) 0 ++ drop (tables_words s) l
tables-unused s l k a b c =
    headed (s.threads ∷ s.variables ∷ s.depth ∷ s.pages ∷ s.entries ∷ []) (tables_words s) l _ a b long first
    (λ i x y. later i x ∙ c.zeros i (omega arith) y) (λ i x. later i (omega arith) ∙ c.high i x)
  where
    k₁ : List ℕ
    k₁ = set k 0 s.threads

    k₂ : List ℕ
    k₂ = set k₁ 1 s.variables

    k₃ : List ℕ
    k₃ = set k₂ 2 s.depth

    k₄ : List ℕ
    k₄ = set k₃ 3 s.pages

    five : 5 ≤ length k
    five = omega (arith, c.long)

    len : (j n x : ℕ) (m : List ℕ) → n ≡ length m → n ≡ length (set m j x)
    len j n x m e = e ∙ sym (length-set m j x)

    l₁ : length k ≡ length k₁
    l₁ = len 0 (length k) s.threads k refl

    l₂ : length k ≡ length k₂
    l₂ = len 1 (length k) s.variables k₁ l₁

    l₃ : length k ≡ length k₃
    l₃ = len 2 (length k) s.depth k₂ l₂

    l₄ : length k ≡ length k₄
    l₄ = len 3 (length k) s.pages k₃ l₃

    long : length (set k₄ 4 s.entries) ≡ length l
    long = sym (len 4 (length k) s.entries k₄ l₄) ∙ c.long

    later : (i : ℕ) → 5 ≤ i → get_or (set k₄ 4 s.entries) i 0 ≡ get_or k i 0
    later i h =
        past k₄ 4 s.entries i 0 (λ (e : i ≡ 4). omega arith) ∙ past k₃ 3 s.pages i 0 (λ (e : i ≡ 3). omega arith)
        ∙ past k₂ 2 s.depth i 0 (λ (e : i ≡ 2). omega arith) ∙ past k₁ 1 s.variables i 0 (λ (e : i ≡ 1). omega arith)
        ∙ past k 0 s.threads i 0 (λ (e : i ≡ 0). omega arith)

    first : (i : ℕ) → i < 5 → get_or (set k₄ 4 s.entries) i 0 ≡ get_or (s.threads ∷ s.variables ∷ s.depth ∷ s.pages ∷ s.entries ∷ []) i 0
    first zero h =
        past k₄ 4 s.entries 0 0 (λ (e : 0 ≡ 4). omega arith) ∙ past k₃ 3 s.pages 0 0 (λ (e : 0 ≡ 3). omega arith)
        ∙ past k₂ 2 s.depth 0 0 (λ (e : 0 ≡ 2). omega arith) ∙ past k₁ 1 s.variables 0 0 (λ (e : 0 ≡ 1). omega arith)
        ∙ put k 0 s.threads 0 (omega (arith, five))
    first (suc zero) h =
        past k₄ 4 s.entries 1 0 (λ (e : 1 ≡ 4). omega arith) ∙ past k₃ 3 s.pages 1 0 (λ (e : 1 ≡ 3). omega arith)
        ∙ past k₂ 2 s.depth 1 0 (λ (e : 1 ≡ 2). omega arith) ∙ put k₁ 1 s.variables 0 (omega (arith, five, l₁))
    first (suc (suc zero)) h =
        past k₄ 4 s.entries 2 0 (λ (e : 2 ≡ 4). omega arith) ∙ past k₃ 3 s.pages 2 0 (λ (e : 2 ≡ 3). omega arith)
        ∙ put k₂ 2 s.depth 0 (omega (arith, five, l₂))
    first (suc (suc (suc zero))) h = past k₄ 4 s.entries 3 0 (λ (e : 3 ≡ 4). omega arith) ∙ put k₃ 3 s.pages 0 (omega (arith, five, l₃))
    first (suc (suc (suc (suc zero)))) h = put k₄ 4 s.entries 0 (omega (arith, five, l₄))
    first (suc (suc (suc (suc (suc i))))) h = absurd (let z : ⊥ = omega arith in z)

pub remember-unused : (s : Sizes) (l k : List ℕ) → remember_words s ≤ length l → Cleared 0 (remember_words s) l k
    → set k 0 s.entries ≡ s.entries ∷ replicate (remember_words s - 1) 0 ++ drop (remember_words s) l
remember-unused s l k b c =
    headed (s.entries ∷ []) (remember_words s) l (set k 0 s.entries) (omega arith) b (length-set k 0 s.entries ∙ c.long)
    (λ i x. first i x) (λ i x y. past k 0 s.entries i 0 (λ (e : i ≡ 0). omega arith) ∙ c.zeros i (omega arith) y)
    (λ i x. past k 0 s.entries i 0 (λ (e : i ≡ 0). omega arith) ∙ c.high i x)
  where
    first : (i : ℕ) → i < 1 → get_or (set k 0 s.entries) i 0 ≡ get_or (s.entries ∷ []) i 0
    first zero h = put k 0 s.entries 0 (omega (arith, c.long))
    first (suc i) h = absurd (let z : ⊥ = omega arith in z)

-- zeros alone
all-unused : (n : ℕ) (l k : List ℕ) → n ≤ length l → Cleared 0 n l k → k ≡ replicate n 0 ++ drop n l
all-unused n l k b c =
    let e : n - 0 ≡ n = omega arith in
    headed [] n l k (omega arith) b c.long (λ i x. absurd (let z : ⊥ = omega arith in z)) (λ i x y. c.zeros i x y) (λ i x. c.high i x)
    ∙ ap (λ (m : ℕ). replicate m 0 ++ drop n l) e

-- ---- prepare's promise from what it did

pub asked-range : {s : Sizes} {l : Slices} {q : ℕ} → PrepareAsked s l q → q ≡ 0 → InRange s × LongEnough s l
asked-range (out_of_range e n) z = absurd (let o : ⊥ = omega arith in o)
asked-range (short e r n) z = absurd (let o : ⊥ = omega arith in o)
asked-range (accepted e r l) z = (r, l)

pub prepared-refused : {s s' : Sizes} {l : Slices} {q : ℕ} → s ≡ s' → PrepareAsked s l q → (q ≡ 0 → ⊥) → Prepared s' l q l
prepared-refused {s} {s'} {l} {q} e a n =
    record { asked = subst (λ (z : Sizes). PrepareAsked z l q) e a; refused = λ z. refl; unused = λ z. absurd (n z) }

five-words : (s : Sizes) → 5 ≤ tables_words s
unfolding tables_words
five-words s = omega arith

pub asked-five : {s : Sizes} {l : Slices} {q : ℕ} → PrepareAsked s l q → q ≡ 0 → 5 ≤ length l.words.tables
asked-five {s} a z = omega (arith, five-words s, (asked-range a z).1.tables)

pub prepared-done : {s s' : Sizes} {c m t k c₁ t₁ t₂ m₁ m₂ k₁ : List ℕ} {q n x y z : ℕ} → s ≡ s' → PrepareAsked s (slices c m t k) q → q ≡ 0
    → Cleared 0 n c c₁ → n ≡ cells_words s → Cleared 0 x t t₁ → x ≡ tables_words s → t₂ ≡ with_sizes t₁ s'.threads s'.variables s'.depth s'.pages s'.entries
    → Cleared 0 y m m₁ → y ≡ remember_words s → m₂ ≡ set m₁ 0 s'.entries → Cleared 0 z k k₁ → z ≡ chains_words s → Prepared s' (slices c m t k) 0 (slices c₁ m₂ t₂ k₁)
prepared-done {s} {s'} {c} {m} {t} {k} {c₁} {t₁} {t₂} {m₁} {m₂} {k₁} e a z cc g ct u ft cm v fm ck d =
    let ar = asked-range a z in
    let long : LongEnough s' (slices c m t k) = subst (λ (s : Sizes). LongEnough s (slices c m t k)) e ar.1 in
    record {
      asked = accepted refl (subst InRange e ar.0) long;
      refused = λ n. absurd (n refl);
      unused = λ _. record {
        tables = ft ∙ tables-unused s' t t₁ (five-words s') long.tables (cleared-to ct (u ∙ ap tables_words e));
        remember = fm ∙ remember-unused s' m m₁ long.remember (cleared-to cm (v ∙ ap remember_words e));
        cells = all-unused (cells_words s') c c₁ long.cells (cleared-to cc (g ∙ ap cells_words e));
        chains = all-unused (chains_words s') k k₁ long.chains (cleared-to ck (d ∙ ap chains_words e));
      };
    }

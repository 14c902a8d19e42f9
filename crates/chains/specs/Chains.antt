-- The chains of the remember table by region (02, W6): a first word for each region, region 1 first, then a next word for each entry; each is 0 for
-- none, else 1 + the place of an entry.
use Rattle.std.specs.Prelude.{ℕ, zero, suc, ◌≤◌, ◌<◌, cond, List, [], ◌∷◌, ◌++◌, ◌≡◌, length, take, drop, eqb}
use Rattle.lists.specs.Listed.{listed}
use Rattle.rules.specs.declared.Sizes.{Sizes}
use Rattle.rules.specs.Regions.{regions}
use Rattle.layout.specs.Places.{entries_used, entries_words, chains_words, next_in}
use Rattle.remember.specs.Table.{Entry, nth_region, entries_in, padded}

-- the first entry of region g, among entries whose places count from k
unfoldable pub first_of : ℕ → ℕ → List Entry → ℕ
first_of g k [] = 0
first_of g k (e ∷ es) = cond (eqb e.region g) (suc k) (first_of g (suc k) es)

-- for each entry the first after it of its own region
unfoldable pub nexts_of : ℕ → List Entry → List ℕ
nexts_of k [] = []
nexts_of k (e ∷ es) = first_of e.region (suc k) es ∷ nexts_of (suc k) es

-- the words of the chains of R regions, of a table with room for N entries
unfoldable pub chains_of : ℕ → ℕ → List Entry → List ℕ
chains_of R N es = listed (λ r. first_of (suc r) 0 es) R ++ padded N (nexts_of 0 es)

-- the regions of the entries are among 1 .. R
abbrev pub Among : ℕ → List Entry → Type 0
Among R es = (i : ℕ) → i < length es → (1 ≤ nth_region es i) × (nth_region es i ≤ R)

-- ---- the lent slice

-- a remember table with room for N entries, whose entries can be chained by R regions
pub record Listed (R N : ℕ) (m : List ℕ) : Type 0 where
  pub few : R ≤ 129
  pub entries : N ≤ 4096
  pub long : entries_words N ≤ length m
  pub room : entries_used m ≤ N
  pub among : Among R (entries_in N m)

-- the same of the regions that there are
pub record Chainable (s : Sizes) (m : List ℕ) : Type 0 where
  pub threads : s.threads ≤ 16
  pub depth : s.depth ≤ 8
  pub entries : s.entries ≤ 4096
  pub long : entries_words s.entries ≤ length m
  pub room : entries_used m ≤ s.entries
  pub among : Among (regions s) (entries_in s.entries m)

-- the words of the chains of a remember table
abbrev pub chains_in : Sizes → List ℕ → List ℕ
chains_in s m = chains_of (regions s) s.entries (entries_in s.entries m)

-- lent words, with these in them; the words past them stay
abbrev pub with_chains : Sizes → List ℕ → List ℕ → List ℕ
with_chains s m k = chains_in s m ++ drop (chains_words s) k

-- the slice is long enough, and its words are those of the chains: question 16
pub record ChainsWhole (s : Sizes) (m k : List ℕ) : Type 0 where
  pub words : take (chains_words s) k ≡ chains_in s m

-- ---- what a chain names

-- the places of the entries of region g, lowest first
unfoldable pub places_of : ℕ → ℕ → List Entry → List ℕ
places_of g k [] = []
places_of g k (e ∷ es) = cond (eqb e.region g) (k ∷ places_of g (suc k) es) (places_of g (suc k) es)

-- the places that a chain leads to from a word x, in at most n steps
abbrev pub followed : ℕ → List ℕ → ℕ → ℕ → List ℕ
followed R f zero x = []
followed R f (suc n) zero = []
followed R f (suc n) (suc p) = p ∷ followed R f n (next_in R f p)

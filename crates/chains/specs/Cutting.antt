-- The entries of a region from a place on are cut off.
use Rattle.std.specs.Prelude.{ℕ, ◌≤◌, ◌<◌, List, ◌≡◌}
use Rattle.layout.specs.Places.{entries_used, slot_region_in}

-- the table m with its entries from place k on, which were all of region g; none of the others is
pub record CutsTo (g N k : ℕ) (m m' : List ℕ) : Type 0 where
  pub low : k ≤ entries_used m
  pub used : entries_used m' ≡ k
  pub same : (i : ℕ) → i < k → slot_region_in N m' i ≡ slot_region_in N m i
  pub others : (i : ℕ) → i < k → slot_region_in N m i ≡ g → ⊥
  pub gone : (i : ℕ) → k ≤ i → i < entries_used m → slot_region_in N m i ≡ g

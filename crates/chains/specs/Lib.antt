-- The chains of the remember table by region.

-- definitions: what must be read
pub mod Chains
-- definitions that the laws (proofs/) speak of
pub mod Firsts
pub mod Linking
pub mod ChainsExample
pub mod Cutting

-- The chains of the remember table by region, when an entry comes, goes or gets another region.

-- definitions that contracts cite, with their laws
pub mod Words
pub mod Shifting
pub mod Joining
pub mod ByEntries
pub mod Moving
pub mod EntryChains

-- Entries in any order, sorted by slot and merged with those that rise already.
pub mod Sorting
pub mod Pairs
pub mod Merging
pub mod Runs
pub mod DistinctSlots
pub mod SortedIn

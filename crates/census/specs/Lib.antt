-- The census of a marked region.
pub mod Counted
pub mod After
pub mod OnPages
pub mod Going
pub mod Census
pub mod Survivors
pub mod Crossed

-- The ending region's pages go back.
pub mod Release
pub mod Emptied
pub mod Notes

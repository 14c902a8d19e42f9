-- What the loops of the check need: the conditions of Whole one by one, and the turns of each pass.
pub mod Pages
pub mod Regions
pub mod Counters
pub mod Cells
pub mod Crossing
pub mod ZeroCells
pub mod Entries
pub mod Parts

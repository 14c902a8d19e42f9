-- What lent words stand for, and what a command, a run and prepare promise of them.

-- definitions: what must be read
pub mod Whole
pub mod StandsFor
pub mod Slices
pub mod Promises
pub mod WordsOf
pub mod Ends
pub mod Arriving
pub mod TakeCell
-- theorems: what is read from whole words, the heaps that they stand for, and a command here and anywhere
pub mod Reading
pub mod Agreed
-- theorems: pages and counts by themselves, pages by objects, entries by crossing slots
pub mod Regular
pub mod OwnedPages
pub mod Crossings
-- theorems: the holders along a chain, and a chain of commands beside the rules' run
pub mod ChainHolders
pub mod Chained
-- slots, where they cross alike, and what their entries say
pub mod Slots
pub mod EntrySays
-- areas and frames: words that differ in one area stand for the heap, changed likewise
pub mod Changes
pub mod Areas

-- that words are those of the heap that they stand for, what goes back, prepared words, the questions and the frames stand in proofs/

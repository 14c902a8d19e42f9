-- From the words after an end of an epoch to the promise of code 2, and from those after a collection to that of code 11.

-- definitions: what must be read
pub mod Evacuated
pub mod EvacuatedDid
pub mod CollectedDid
-- laws, of any part: the words after the end are whole, and stand for what is there then
pub mod Living
pub mod EvacuatedWhole
-- laws, of the end of a thread's innermost region: the rules, the questions 12, 13 and 14, and the pages that regions take
pub mod AfterEnd
pub mod WordsPlaced
pub mod EndQuestion
pub mod EndPages

-- the promises of codes 2 and 11 stand in proofs/

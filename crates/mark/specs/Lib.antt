-- The survivors of an end are marked, stage by stage.

-- the words, and one push
pub mod Marks
-- one stack: pushes and pops until it is empty
pub mod Marking
pub mod Pushes
pub mod Draining
-- the levels, outermost first, and the holders that call for the region of each
pub mod Levels
pub mod Holders
pub mod Along
pub mod Rounds
-- by the rules: what is marked are the survivors, each with the region that it goes to
pub mod Reached
pub mod Survivors
pub mod MarkedWords
-- marks are cleared again
pub mod Unmark

-- One account of an end, stage by stage. Of any part, by whichever way its survivors get to their cells: the cell of each object
-- afterwards, the slots that cross then, and the remember table that names them
pub mod Placing
pub mod Crossing
pub mod Remembering
pub mod CrossingPositions
pub mod Space
-- Where survivors are copied: marked words are ready for it, the copies' cells, references that go by them, the words after the release
pub mod MarkedReady
pub mod Copied
pub mod Rewriting
pub mod Finish
-- Of the innermost region of a thread: what the census asks, its remembered slots, and its stages
pub mod Ending
pub mod PagesEnough
pub mod RoomAsked
pub mod Region
pub mod CopiesPlaced
pub mod Stages
pub mod Chaining
pub mod NoSurvivors

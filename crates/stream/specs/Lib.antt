-- What the loop promises of a turn and of all its turns, and from turn to turn.
pub mod Turns
pub mod Going

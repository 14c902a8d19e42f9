-- Place and copy: the pages of a region while cells are taken, moves of survivors, what they leave.
pub mod Marks
pub mod Taking
pub mod Cursor
pub mod Moves
pub mod Passing
pub mod Copying
pub mod Forward

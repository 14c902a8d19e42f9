-- What the functions of the heap cite.
pub mod Looping
pub mod Running

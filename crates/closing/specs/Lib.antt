-- From what the callees promise to the end of the input.
pub mod Closing

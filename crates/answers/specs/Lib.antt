-- A block of commands and its answers.

-- definitions: what must be read
pub mod Answers
-- from what the callees promise to a block and to the commands of a piece
pub mod Answering
pub mod Obeying

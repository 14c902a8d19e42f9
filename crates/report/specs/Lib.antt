-- What the report says, and that it says so of every heap that the words stand for.

-- definitions: what must be read
pub mod Report
pub mod Told
-- and what they give in four runs
pub mod Examples
-- what the tables say
pub mod Tables
-- the numbers that pass a test, and the open regions one after the other
pub mod Passing
pub mod Opened
-- the rows in a lent list
pub mod Lent

-- that the tables say what the rules say of every heap, and the promise, stand in proofs/

-- What a line does to the lent slices.

-- definitions: what must be read
pub mod Lines
-- from what the callees promise to each step
pub mod Changes
pub mod Reporting
pub mod Held

-- Where the program stands between two pieces, and what it promises of each.

-- definitions: what must be read
pub mod Stages
-- from what the callees promise to each stage
pub mod StagesLaws

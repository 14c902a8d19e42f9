-- The kept cells slide to the first places of the listed pages.

-- the places of the listed pages, and which of them a kept cell goes to
pub mod Ranks
-- the set bits of a mark word in rising order
pub mod Walks
-- kept cells are numbered
pub mod Numbered
-- and go to their places
pub mod Slid
-- and what lies behind them is given back
pub mod Trimmed

-- Demand 3 of 01, stated (DemandThree) and proved (proofs/Demand) from what prepare and run promise.
pub mod DemandThree
pub mod Pairing
pub mod MovesUnique
-- The two counters of 02, W2, stated (Counted) and proved (proofs/CountedProof) from these and what the report promises.
pub mod Counted
-- A second collection in a row changes nothing (02, W5): what a collection leaves is Compact (CollectedTwice), and so stays as it is.
pub mod Compact
pub mod CollectedTwice

pub mod CountedProof
pub mod Demand
pub mod Following
pub mod LedTo
pub mod PairsDetermined

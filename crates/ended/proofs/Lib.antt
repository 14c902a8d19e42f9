pub mod Packing
pub mod Repacking
pub mod EvacuatedDid
pub mod EvacuatedCounts
pub mod CollectedDid
pub mod EvacuatedStands

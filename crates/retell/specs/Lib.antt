-- All slots, in rising position: those that can be gone over, rewritten, and told in the remember table.
pub mod SlotStretches
pub mod Forwarding
pub mod Retelling
pub mod RetellingSlots

pub mod Firsts
pub mod Linking
pub mod Following
pub mod LentChains
pub mod Walking
pub mod Cutting

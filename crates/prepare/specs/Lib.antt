-- What prepare cites.
pub mod Prepare

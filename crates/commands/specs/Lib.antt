-- What each command finds and leaves in the lent words.
pub mod Decoding
pub mod ThreadVariables
pub mod Fields
pub mod Does
pub mod Variables
pub mod Objects
pub mod Storing
pub mod Making
pub mod Obeys

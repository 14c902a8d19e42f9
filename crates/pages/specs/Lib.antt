-- The pages of a region, the page that its next object goes to, and the words after it took its cell there.
pub mod Owned
pub mod Listing
pub mod Pages
pub mod Noted

pub mod Totals
pub mod Told
pub mod Stands
pub mod LentRows

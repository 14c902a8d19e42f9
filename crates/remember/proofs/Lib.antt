pub mod Crosses

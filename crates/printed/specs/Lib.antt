-- What the program prints.

-- definitions: what must be read
pub mod Printed
pub mod Examples
pub mod Pieces

-- From what the callees promise to a piece.
pub mod Opening

pub mod Called
pub mod Pieces

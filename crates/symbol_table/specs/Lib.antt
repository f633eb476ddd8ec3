pub mod Symbols
pub mod Labels
pub mod Views
pub mod Founds

pub mod Ranges
pub mod X0
pub mod Shortened

pub mod Bounds
pub mod Raised

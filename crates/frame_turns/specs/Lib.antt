pub mod Anchors
pub mod Bounds
pub mod Raised

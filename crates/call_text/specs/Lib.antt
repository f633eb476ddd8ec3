pub mod Texts
pub mod Lines
pub mod Blocks
pub mod Readings

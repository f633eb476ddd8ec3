pub mod Texts
pub mod Endings
pub mod Parts
pub mod Readings

pub mod Readings
pub mod Returns

pub mod Founds
pub mod Refused

pub mod Lines
pub mod Registers
pub mod Profiles
pub mod Predicates

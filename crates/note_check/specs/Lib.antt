pub mod Warnings
pub mod Ranges
pub mod Constants
pub mod Options
pub mod Reached
pub mod Checks

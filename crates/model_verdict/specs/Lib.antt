pub mod Models
pub mod Readings
pub mod Runs
pub mod Shown
pub mod Judgements

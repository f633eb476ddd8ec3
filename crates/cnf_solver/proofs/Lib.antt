pub mod Faults
pub mod Examples
pub mod Answered

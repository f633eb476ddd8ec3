pub mod Changes
pub mod Ranked
pub mod Judged
pub mod Written
pub mod Replayed
pub mod Found

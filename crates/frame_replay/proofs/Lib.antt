pub mod Judged
pub mod Written
pub mod Replayed
pub mod Returned

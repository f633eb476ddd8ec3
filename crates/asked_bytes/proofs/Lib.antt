pub mod Merging
pub mod Adding
pub mod Beside
pub mod Runs
pub mod Found

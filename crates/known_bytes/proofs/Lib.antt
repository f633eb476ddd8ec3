pub mod Reaches
pub mod Counts
pub mod Runs
pub mod Ordered

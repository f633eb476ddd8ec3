pub mod Unrolled
pub mod Sweep
pub mod Unrolling
pub mod Prices
pub mod WalkLaws

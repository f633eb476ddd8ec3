pub mod Alike
pub mod Points
pub mod Prices
pub mod Raising

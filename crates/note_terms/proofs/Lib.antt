pub mod Steps
pub mod Applied
pub mod Valued

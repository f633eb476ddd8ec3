pub mod Expansions
pub mod Refusals
pub mod Views

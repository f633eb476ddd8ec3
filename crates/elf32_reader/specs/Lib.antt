pub mod Refusals
pub mod Loads
pub mod Symbols
pub mod Images
pub mod Portions
pub mod Marks

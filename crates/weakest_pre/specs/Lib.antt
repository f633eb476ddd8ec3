pub mod Copies
pub mod Entry
pub mod Folded
pub mod Known
pub mod Roots

pub mod Operations
pub mod Plains
pub mod Halves
pub mod Insns
pub mod Encodings
pub mod Formats

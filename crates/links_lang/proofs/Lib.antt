pub mod Tables
pub mod Flags
pub mod ByteCounts
pub mod Told
pub mod Least
pub mod SoFar

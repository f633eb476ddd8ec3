pub mod Made
pub mod Wholes
pub mod Faults
pub mod Examples

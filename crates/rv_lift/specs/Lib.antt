pub mod Lifted
pub mod Fits
pub mod Flags

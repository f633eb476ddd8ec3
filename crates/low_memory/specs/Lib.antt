pub mod LowMemory
pub mod LowWalks

pub mod Accesses
pub mod Transfers
pub mod Halfwords
pub mod Swaps

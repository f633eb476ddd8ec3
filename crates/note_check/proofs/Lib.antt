pub mod Accepted
pub mod Headers
pub mod Listing
pub mod Roots
pub mod Standing
pub mod Steady

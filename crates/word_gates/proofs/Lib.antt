pub mod EachBit
pub mod Constants
pub mod Places
pub mod Quotients
pub mod Shifts
pub mod Signs
pub mod Sums
pub mod Words

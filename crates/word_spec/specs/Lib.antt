pub mod Words
pub mod Memory
pub mod State
pub mod RowFiles
pub mod Texts
pub mod Tokens
pub mod Profiles

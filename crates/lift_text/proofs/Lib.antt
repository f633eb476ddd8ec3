pub mod Places
pub mod Givens
pub mod Digits
pub mod Texts
pub mod Written

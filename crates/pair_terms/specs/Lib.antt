pub mod Places
pub mod Words
pub mod Exits
pub mod Sides

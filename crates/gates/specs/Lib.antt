pub mod Circuits
pub mod Defined
pub mod Pushes

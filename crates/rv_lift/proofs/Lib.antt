pub mod Values
pub mod Plain
pub mod Shapes
pub mod Rows
pub mod Registers

pub mod Lifted
pub mod Operands
pub mod Computing
pub mod Before
pub mod Multiplied
pub mod MultipliedLong
pub mod Counted

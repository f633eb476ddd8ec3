pub mod Literals
pub mod Parts
pub mod Flags
pub mod Before

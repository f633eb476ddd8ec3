pub mod Parts
pub mod RegisterFile
pub mod States

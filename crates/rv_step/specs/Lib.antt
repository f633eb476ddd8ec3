pub mod RegisterFile
pub mod States

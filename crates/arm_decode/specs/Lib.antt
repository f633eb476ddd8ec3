pub mod Forms
pub mod Insns
pub mod Parts

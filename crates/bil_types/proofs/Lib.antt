pub mod ListFaults
pub mod Numbers

pub mod Evaluated
pub mod Totals

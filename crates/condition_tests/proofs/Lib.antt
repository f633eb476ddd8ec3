mod Written
pub mod Asked

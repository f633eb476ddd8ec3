pub mod Warned
pub mod Views

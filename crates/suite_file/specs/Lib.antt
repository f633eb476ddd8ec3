pub mod Suites
pub mod Views

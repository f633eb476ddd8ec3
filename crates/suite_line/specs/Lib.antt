pub mod Requests
pub mod Views

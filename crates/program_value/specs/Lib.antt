pub mod Carried
pub mod Programs

pub mod Answers
pub mod Checked
pub mod Passes
pub mod Runs
pub mod Views

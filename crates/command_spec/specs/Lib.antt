pub mod Work
pub mod Commands

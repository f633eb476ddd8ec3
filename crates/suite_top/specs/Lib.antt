pub mod Verified
pub mod Options
pub mod Singles
pub mod FileChecks
pub mod Ends

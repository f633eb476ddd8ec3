pub mod Gaps
pub mod Kept
pub mod Laws
pub mod Puts
pub mod Views

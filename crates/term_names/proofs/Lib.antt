pub mod Choices
pub mod Entry
pub mod Stated
pub mod OfForm
pub mod Given

pub mod Views
pub mod Choices
pub mod Chosen
pub mod Gifts

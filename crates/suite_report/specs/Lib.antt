pub mod Objects
pub mod Reports
pub mod RunTexts
pub mod Views
pub mod Words

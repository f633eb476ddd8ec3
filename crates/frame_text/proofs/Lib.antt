pub mod Pieces
pub mod FirstLines
pub mod Marks
pub mod PartTexts
pub mod Tests
pub mod Behind
pub mod Whole

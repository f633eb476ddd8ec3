pub mod Pieces
pub mod EndingWords
pub mod BlockLines
pub mod Before
pub mod Values
pub mod Reading

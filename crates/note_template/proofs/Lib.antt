pub mod Appends
pub mod Parting
pub mod SpellingLaws
pub mod LineLaws

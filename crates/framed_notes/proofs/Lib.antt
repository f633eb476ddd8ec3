pub mod Headings
pub mod NumberWords

pub mod Answers
pub mod Slots
pub mod Occurrences
pub mod Entries
pub mod Known
pub mod Readings

pub mod Growing
pub mod Told
pub mod NoteLines

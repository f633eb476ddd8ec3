pub mod Views
pub mod Reads
pub mod NoteViews
pub mod FrameViews

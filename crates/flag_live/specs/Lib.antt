pub mod Asked
pub mod Contracted
pub mod GraphReads
pub mod Keeps
pub mod Lives
pub mod Meanings
pub mod Reachable
pub mod Vertices

pub mod Changes
pub mod Evaluations
pub mod Files
pub mod Inputs
pub mod Kept
pub mod Met
pub mod Reads
pub mod Segments

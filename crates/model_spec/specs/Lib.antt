pub mod ModelText
pub mod Reads
pub mod Models
pub mod ModelLaws

pub mod NameLaws
pub mod Finding

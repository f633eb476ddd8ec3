pub mod Texts
pub mod FirstFalse
pub mod SameValue

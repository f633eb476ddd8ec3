pub mod Nodes
pub mod OneTyping
pub mod Lists
pub mod Made
pub mod Folds
pub mod Readings

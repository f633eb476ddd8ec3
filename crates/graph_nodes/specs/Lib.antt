pub mod Graphs
pub mod Places

pub mod RunOfWalk
pub mod Layers
pub mod RunEnds

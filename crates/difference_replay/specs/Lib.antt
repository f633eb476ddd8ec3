pub mod Named
pub mod Probes
pub mod Blocks
pub mod Sides
pub mod Texts
pub mod Pairs

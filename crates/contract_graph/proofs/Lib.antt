pub mod Live
pub mod Shapes

pub mod Bits
pub mod Definitions
pub mod Folds
pub mod Netlists
pub mod Pushes
pub mod Rules
pub mod Valuations

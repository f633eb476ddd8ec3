pub mod Locals
pub mod Runs
pub mod Typed

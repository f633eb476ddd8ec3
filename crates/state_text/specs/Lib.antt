pub mod Starts
pub mod Lines
pub mod Readings
pub use Rattle.line_tokens.specs.Tokens

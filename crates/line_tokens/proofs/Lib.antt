pub mod Numbers
pub mod Lexing
pub mod Splitting
pub mod Said

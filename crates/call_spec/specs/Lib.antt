pub mod Outside
pub mod Framed
pub mod Calls

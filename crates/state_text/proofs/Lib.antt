pub mod Appends
pub mod Printing
pub mod SaidLines
pub mod Judging
pub mod Keeping
pub mod Telling

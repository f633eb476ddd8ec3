pub mod Answered
pub mod SuiteEnds
pub mod Faults
pub mod SoFar
pub mod Wider

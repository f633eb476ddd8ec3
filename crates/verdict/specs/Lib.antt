pub mod Grounds
pub mod Rounds
pub mod Verdicts
pub mod Measures
pub mod FewerTurns

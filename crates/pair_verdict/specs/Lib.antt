pub mod Verdicts
pub mod ExitLines
pub mod Sides
pub mod StateWords
pub mod PairRounds
pub mod Settled
pub mod FewerTurns

pub mod LinkTexts
pub mod ExitStates
pub mod ExitLaws
pub mod OnePair
pub mod DifferenceFound
pub mod DifferenceTold
pub mod Asking
pub mod ExitPlace
pub mod ExitPlaces
pub mod ExitInputs
pub mod LeavingRuns
pub mod LinkWords
pub mod PairSides
pub mod PairPrices
pub mod PairReadings
pub mod PairClauses
pub mod PairStarts
mod PairSamples

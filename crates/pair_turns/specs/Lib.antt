pub mod PairBounds
pub mod PairsRaised

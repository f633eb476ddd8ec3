pub mod PairPrices
pub mod PairsAlike
pub mod PairsRaising
pub mod Refuted

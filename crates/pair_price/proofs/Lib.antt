pub mod ExitCounts
pub mod SidePrices
pub mod OnePairPrice

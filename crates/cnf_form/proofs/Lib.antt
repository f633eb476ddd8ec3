pub mod Ended
pub mod NumbersRead
pub mod Cuts
pub mod Capped
pub mod Splits
pub mod OnVariables
pub mod Gatherings
pub mod ReadLines

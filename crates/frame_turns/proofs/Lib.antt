pub mod Alike
pub mod AlikeQuestions
pub mod AnchorCounts
pub mod FreeInputs
pub mod MoreVariables
pub mod Prices
pub mod Raising

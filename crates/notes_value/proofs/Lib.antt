pub mod WrittenOut
pub mod Looped
pub mod ReadPlaces

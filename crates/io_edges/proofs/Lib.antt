pub mod Fronts
pub mod Beginning
pub mod FilePlaces
pub mod FileCounts
pub mod Named
pub mod Meeting

pub mod Terms
pub mod WalkQuestions
pub mod Cells
pub mod ClauseForm
pub mod Passive
pub mod TermLaws

pub mod Asked
pub mod Forms
pub mod FrameQuestions
pub mod FrameViews
pub mod Questions
pub mod Views

pub mod FrameGraphs
pub mod FrameAnswers
pub mod FrameAnswerLaws
pub mod FrameModels
pub mod Outcomes
pub mod AnswerLaws

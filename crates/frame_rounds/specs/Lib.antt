pub mod FrameGrounds
pub mod FrameRounds

pub mod FrameTexts
pub mod FrameTextLaws
pub mod FrameReplays
pub mod CallTexts
pub mod CallReplays
pub mod CallTextLaws
pub mod ReplayLaws
